-- The members of an archive of a kind, as a linker finds them in its bytes: after each header a
-- name and bytes, and the symbols that the first linker member leads there. By them the laws of
-- searches and of command lines hold of archives' bytes.
use Rattle.std.specs.Prelude.{◌≡◌, ℕ, ◌==◌, List, [], ◌∷◌, ◌++◌, Option, Some, map, unwrap_or}
use Rattle.std.specs.List.{filter, filter_map, flat_map}
use Rattle.std.specs.Option.{option_map}
use Rattle.implib.specs.Members.MemberSpec.{MemberView}
use Rattle.implib_archive.specs.Leads.{headers_in}
use Rattle.implib_archive.specs.Reader.{first_in, member_at}
use Rattle.implib_archive.specs.declared.kind.Kind.{Kind}
use Rattle.implib_archive.specs.declared.kind.Kind.TheVariants.{Gnu}

-- the entries of the first linker member: symbols, and the offsets of headers
unfoldable pub entries_in : List ℕ → List (List ℕ × ℕ)
entries_in bytes = unwrap_or (first_in bytes) []

-- the symbols that entries lead to a header
unfoldable pub symbols_at : List (List ℕ × ℕ) → ℕ → List (List ℕ)
symbols_at entries header = map (λ e. e.0) (filter (λ e. e.1 == header) entries)

-- the member after a header
unfoldable pub member_after : Kind → List ℕ → ℕ → Option MemberView
member_after kind bytes header = option_map
    (λ r. record { name = r.name; bytes = r.bytes; symbols = symbols_at (entries_in bytes) header })
    (member_at kind bytes header)

-- the members in an archive, in the order of their headers
unfoldable pub members_read_as : Kind → List ℕ → List MemberView
members_read_as kind bytes = filter_map (member_after kind bytes) (unwrap_or (headers_in bytes) [])

-- those in one of the GNU kind
abbrev pub members_read : List ℕ → List MemberView
members_read = members_read_as Gnu

-- a file of a command line: an archive of a kind
pub record ArchiveFile : Type 0 where
  pub kind : Kind
  pub bytes : List ℕ

-- the members in files, one file after another
abbrev pub members_in_files : List ArchiveFile → List MemberView
members_in_files files = flat_map (λ (f : ArchiveFile). members_read_as f.kind f.bytes) files

-- the entries of members after these headers, in their order
unfoldable pub entries_by : List ℕ → List MemberView → List (List ℕ × ℕ)
entries_by [] members = []
entries_by (header ∷ headers) [] = []
entries_by (header ∷ headers) (m ∷ members) =
    map (λ symbol. (symbol, header)) m.symbols ++ entries_by headers members

-- An archive's bytes have members:
-- `read`: these are in it, and no others;
-- `ordered`: and its index has their symbols in their order, as searches sweep them.
pub record HasMembersAs (kind : Kind) (bytes : List ℕ) (members : List MemberView) : Type 0 where
  pub headers : List ℕ
  pub located : headers_in bytes ≡ Some headers
  pub read : members_read_as kind bytes ≡ members
  pub ordered : entries_in bytes ≡ entries_by headers members

-- those of one of the GNU kind
abbrev pub HasMembers : List ℕ → List MemberView → Type 0
HasMembers = HasMembersAs Gnu
