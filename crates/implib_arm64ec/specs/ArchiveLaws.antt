-- What a reader finds in the archives of libraries, and where their indexes lead.
use Rattle.std.specs.Prelude.{◌≡◌, ℕ, List, ◌∷◌, ◌++◌, None, Some, codes, is_some, map, take}
use Rattle.std.specs.Cmp.Lexicographic.{slice_cmp}
use Rattle.std.specs.List.{list_any}
use Rattle.std.specs.List.Sorted.{IsStrictlySortedBy}
use Rattle.std.specs.Option.{option_map}
use Rattle.std.specs.Ordering.{nat_cmp}
use Rattle.implib_archive.specs.Archive.{names_bytes}
use Rattle.implib_archive.specs.Leads.{first_lister, header_for, lists, second_header_for}
use Rattle.implib_archive.specs.ReadBack.{AreLaidOut, padded, read_view, stored, stored_linkers}
use Rattle.implib_archive.specs.ReadBack.{stored_member, stored_names}
use Rattle.implib_archive.specs.Reader.{Stored, member_at, stored_in}
use Rattle.implib_archive.specs.declared.kind.Kind.TheVariants.{Coff}
use Rattle.implib_arm64ec.specs.Archive.{arm64_entries, ec_archive, ec_entries, ec_index}
use Rattle.implib_arm64ec.specs.Archive.{library_names, library_refusal, member_places}
use Rattle.implib_arm64ec.specs.ArchiveReader.{ec_header_for, ec_headers_in, ec_members_in}
use Rattle.implib_arm64ec.specs.ArchiveReader.{ec_symbols_in}
use Rattle.implib_arm64ec.specs.Library.{LibraryView, for_arm64, for_arm64ec, members_of}

-- all parts of an archive, in order
unfoldable pub ec_parts : LibraryView → List Stored
ec_parts l =
    stored_linkers Coff (member_places l) (arm64_entries l)
    ++ (stored_names (names_bytes Coff (library_names l))
    ++ (stored (codes "/<ECSYMBOLS>/") (padded 0 (ec_index (ec_entries l)))
    ∷ map (stored_member (library_names l)) (for_arm64 l)))

-- What a reader finds in the bytes of an archive: `signed`: they begin with the signature; `parts`,
-- `laid_out`: from there to the end stand the linker members, the long names, the EC index and the
-- members; no two headers overlap, and nothing else is in the bytes; `in_order`: the members, in
-- order, each with its whole name and its bytes.
pub record IsReadBack (l : LibraryView) (bytes : List ℕ) : Type 0 where
  pub signed : take 8 bytes ≡ codes "!<arch>\n"
  pub parts : stored_in bytes ≡ Some (ec_parts l)
  pub laid_out : AreLaidOut bytes 8 (ec_parts l)
  pub in_order : ec_members_in bytes ≡ Some (map read_view (members_of l))

-- Where the indexes of an archive lead: `headers`, `found`: the members' headers are at these
-- offsets; `read`: the members are after them, in order; `arm64`: the first linker member leads
-- each symbol to the header of the first header or native member that lists it, and any other text
-- nowhere; `second`: the second linker member leads each text there, too; `arm64ec`: the EC index
-- leads each symbol to the header of the first header or import that lists it, and any other text
-- nowhere; `symbols`, `rises`: its symbols rise strictly, by the order of their bytes.
pub record IndexesLead (l : LibraryView) (bytes : List ℕ) : Type 0 where
  pub headers : List ℕ
  pub found : ec_headers_in bytes ≡ Some headers
  pub read : map (member_at Coff bytes) headers ≡ map (λ m. Some (read_view m)) (members_of l)
  pub arm64 : (symbol : List ℕ) →
      header_for bytes symbol ≡ option_map (λ f. f.0) (first_lister headers (for_arm64 l) symbol)
  pub second : (symbol : List ℕ) → second_header_for bytes symbol ≡ header_for bytes symbol
  pub arm64ec : (symbol : List ℕ) →
      ec_header_for bytes symbol
      ≡ option_map (λ f. f.0) (first_lister headers (for_arm64ec l) symbol)
  pub listed : (symbol : List ℕ) →
      is_some (ec_header_for bytes symbol) ≡ list_any (lists symbol) (for_arm64ec l)
  pub symbols : List (List ℕ × ℕ)
  pub symbols_found : ec_symbols_in bytes ≡ Some symbols
  pub rises : IsStrictlySortedBy (slice_cmp nat_cmp) (map (λ e. e.0) symbols)

-- so it is in each archive
abbrev pub EachIsReadBack : Type 0
EachIsReadBack = (l : LibraryView) → library_refusal l ≡ None → IsReadBack l (ec_archive l)

abbrev pub EachIndexLeads : Type 0
EachIndexLeads = (l : LibraryView) → library_refusal l ≡ None → IndexesLead l (ec_archive l)
