-- A reader of archives for ARM64EC, which follows what it finds and knows nothing of how they are
-- written. It reads them as archives of the COFF kind, of which one part is the EC index.
use Rattle.std.specs.Prelude.{ℕ, ◌+◌, ◌*◌, ◌%◌, Bool, List, [], ◌∷◌, Option, None, Some, bytes_eq}
use Rattle.std.specs.Prelude.{codes, drop, if◌then◌else◌, length, option_and_then, take}
use Rattle.std.specs.Int.{from_le_bytes, w16, w32}
use Rattle.std.specs.Map.{lookup}
use Rattle.std.specs.Option.{option_map}
use Rattle.implib_archive.specs.Leads.{numbered, with_header}
use Rattle.implib_archive.specs.Reader.{Read, Stored, long_names_in, members_among, name_in}
use Rattle.implib_archive.specs.Reader.{numbers_in, paired, second_in, stored_in, texts_in}
use Rattle.implib_archive.specs.declared.kind.Kind.TheVariants.{Coff}

-- whether a part is the EC index, by its name
abbrev pub is_ec_index : Stored → Bool
is_ec_index s = bytes_eq s.field (codes "/<ECSYMBOLS>/   ")

-- the parts without the EC index
unfoldable pub without_ec_index : List Stored → List Stored
without_ec_index [] = []
without_ec_index (s ∷ parts) =
    if is_ec_index s then without_ec_index parts else s ∷ without_ec_index parts

-- the members of an archive, in order
unfoldable pub ec_members_in : List ℕ → Option (List Read)
ec_members_in bytes =
    option_and_then (λ parts. members_among Coff (long_names_in parts) (without_ec_index parts))
    (stored_in bytes)

-- the offsets of the members' headers among parts, the first of which is at this offset
unfoldable pub ec_headers_among : ℕ → List Stored → List ℕ
ec_headers_among place [] = []
ec_headers_among place (s ∷ parts) =
    let others =
    ec_headers_among (place + (60 + length s.contents + length s.contents % 2)) parts in
    if is_ec_index s then others else with_header (name_in s.field) place others

-- the offsets of the members' headers in an archive, in order
unfoldable pub ec_headers_in : List ℕ → Option (List ℕ)
ec_headers_in bytes = option_map (ec_headers_among 8) (stored_in bytes)

-- the data of the first part that is an EC index
unfoldable pub ec_data_in : List Stored → Option (List ℕ)
ec_data_in [] = None
ec_data_in (s ∷ parts) = if is_ec_index s then Some s.contents else ec_data_in parts

-- the symbols in the data of an EC index, with the numbers of their members
unfoldable pub numbered_symbols : List ℕ → List (List ℕ × ℕ)
numbered_symbols data' =
    let count = from_le_bytes w32 (take 4 data') in
    paired (texts_in count (drop (4 + 2 * count) data'))
    (numbers_in (from_le_bytes w16) 2 count (drop 4 data'))

-- those of an archive
unfoldable pub ec_symbols_in : List ℕ → Option (List (List ℕ × ℕ))
ec_symbols_in bytes = option_map numbered_symbols (option_and_then ec_data_in (stored_in bytes))

-- the offset that the EC index has for a symbol: the number is that of an offset in the second
-- linker member
unfoldable pub ec_header_for : List ℕ → List ℕ → Option ℕ
ec_header_for bytes symbol = option_and_then
    (λ second. option_and_then
    (λ entries. option_and_then (numbered second.0) (lookup (bytes_eq symbol) entries))
    (ec_symbols_in bytes))
    (second_in bytes)
