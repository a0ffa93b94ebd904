-- A reader of archives, which follows what it finds and knows nothing of how they are written (the
-- common archive format; the PE/COFF specification, "Archive (Library) File Format").
use Rattle.std.specs.Prelude.{ℕ, zero, suc, ◌+◌, ◌-◌, ◌*◌, ◌%◌, Bool, List, [], ◌∷◌, ◌++◌, Option}
use Rattle.std.specs.Prelude.{None, Some, not, ◌&&◌, bytes_eq, codes, drop, fold, if◌then◌else◌}
use Rattle.std.specs.Prelude.{length, nat_eq, nat_le, option_and_then, take, take_while, slice_get}
use Rattle.std.specs.List.{list_all}
use Rattle.std.specs.Option.{option_map}
use Rattle.std.specs.Int.{from_be_bytes, from_le_bytes, w16, w32}
use Rattle.implib_archive.specs.declared.kind.Kind.{Kind}
use Rattle.implib_archive.specs.declared.kind.Kind.TheVariants.{Coff, Gnu}

-- Headers and data.

-- a header's name field, and the data after the header
pub record Stored : Type 0 where
  pub field : List ℕ
  pub contents : List ℕ

-- whether a byte is a decimal digit
abbrev pub is_digit : ℕ → Bool
is_digit c = nat_le 48 c && nat_le c 57

-- the decimal number at the left of a field of spaces
unfoldable pub number_in : List ℕ → Option ℕ
number_in text =
    let digits = take_while is_digit text in
    if not (nat_eq (length digits) 0) && list_all (λ c. nat_eq c 32) (drop (length digits) text)
    then Some (fold (λ n c. 10 * n + (c - 48)) 0 digits)
    else None

-- data of a size at an offset, if there is as much
unfoldable pub data_at : List ℕ → ℕ → ℕ → Option (List ℕ)
data_at bytes offset size =
    let found = take size (drop offset bytes) in
    if nat_eq (length found) size then Some found else None

-- the header at an offset, with its data
unfoldable pub stored_at : List ℕ → ℕ → Option Stored
stored_at bytes place = option_and_then
    (λ header. if bytes_eq (drop 58 header) (96 ∷ 10 ∷ [])
    then option_and_then
    (λ size. option_map (λ found. record { field = take 16 header; contents = found })
    (data_at bytes (place + 60) size))
    (number_in (take 10 (drop 48 header)))
    else None)
    (data_at bytes place 60)

-- the parts after the next bytes, a number of which still belong to the part before
unfoldable pub stored_from : ℕ → List ℕ → Option (List Stored)
stored_from zero [] = Some []
stored_from (suc left) [] = None
stored_from (suc left) (x ∷ rest) = stored_from left rest
stored_from zero (x ∷ rest) = option_and_then
    (λ s. option_map (λ others. s ∷ others)
    (stored_from (59 + length s.contents + length s.contents % 2) rest))
    (stored_at (x ∷ rest) 0)

-- the parts of an archive, after its signature
unfoldable pub stored_in : List ℕ → Option (List Stored)
stored_in bytes =
    if bytes_eq (take 8 bytes) (codes "!<arch>\n") then stored_from 0 (drop 8 bytes) else None

-- Names.

-- what the name in a header says
pub data Name : Type 0 where
  Linker : Name
  LongNames : Name
  LongAt : ℕ → Name
  Short : List ℕ → Name
  Unknown : Name

-- a text without the spaces at its end
unfoldable pub trimmed : List ℕ → List ℕ
trimmed [] = []
trimmed (c ∷ text) =
    if nat_eq c 32 && nat_eq (length (trimmed text)) 0 then [] else c ∷ trimmed text

-- an offset in the long names, if it is one
unfoldable pub long_name_at : Option ℕ → Name
long_name_at (Some offset) = LongAt offset
long_name_at None = Unknown

-- what a name field says
unfoldable pub name_in : List ℕ → Name
name_in field =
    let text = trimmed field in
    let short = take_while (λ c. not (nat_eq c 47)) text in
    if bytes_eq text (codes "/") then Linker
    else (if bytes_eq text (codes "//") then LongNames
    else (if bytes_eq text (short ++ 47 ∷ []) then Short short
    else (if nat_eq (length short) 0 then long_name_at (number_in (drop 1 field)) else Unknown)))

-- the long name at an offset: up to its NUL in the COFF kind, up to a slash and a line end in the
-- GNU kind
unfoldable pub long_name : Kind → List ℕ → ℕ → List ℕ
long_name Coff names offset = take_while (λ c. not (nat_eq c 0)) (drop offset names)
long_name Gnu names offset =
    let line = take_while (λ c. not (nat_eq c 10)) (drop offset names) in
    take (length line - 1) line

-- the data of the long names, given what is found after a part
unfoldable pub long_names_or : Name → List ℕ → List ℕ → List ℕ
long_names_or LongNames contents others = contents
long_names_or _ contents others = others

-- the data of the first part that has long names, or nothing
unfoldable pub long_names_in : List Stored → List ℕ
long_names_in [] = []
long_names_in (s ∷ parts) = long_names_or (name_in s.field) s.contents (long_names_in parts)

-- a member that is read: its name and its bytes
pub record Read : Type 0 where
  pub name : List ℕ
  pub bytes : List ℕ

-- the member that a name and data make, given the long names
unfoldable pub read_as : Kind → List ℕ → Name → List ℕ → Option Read
read_as kind names Linker contents = None
read_as kind names LongNames contents = None
read_as kind names Unknown contents = None
read_as kind names (LongAt offset) contents =
    Some (record { name = long_name kind names offset; bytes = contents })
read_as kind names (Short text) contents = Some (record { name = text; bytes = contents })

-- a part before the others: linker members and long names are passed over
unfoldable pub before_others : Kind → List ℕ → Name → List ℕ → Option (List Read) →
    Option (List Read)
before_others kind names Linker contents others = others
before_others kind names LongNames contents others = others
before_others kind names name contents others =
    option_and_then (λ m. option_map (λ more. m ∷ more) others) (read_as kind names name contents)

-- the members among the parts: all but linker members and long names
unfoldable pub members_among : Kind → List ℕ → List Stored → Option (List Read)
members_among kind names [] = Some []
members_among kind names (s ∷ parts) =
    before_others kind names (name_in s.field) s.contents (members_among kind names parts)

-- the members of an archive, in order
unfoldable pub members_in : Kind → List ℕ → Option (List Read)
members_in kind bytes =
    option_and_then (λ parts. members_among kind (long_names_in parts) parts) (stored_in bytes)

-- the member whose header is at an offset
unfoldable pub member_at : Kind → List ℕ → ℕ → Option Read
member_at kind bytes place = option_and_then
    (λ parts. option_and_then (λ s. read_as kind (long_names_in parts) (name_in s.field) s.contents)
    (stored_at bytes place))
    (stored_in bytes)

-- The indexes.

-- data, if a name is that of a linker member
unfoldable pub linker_data : Name → List ℕ → Option (List ℕ)
linker_data Linker contents = Some contents
linker_data _ contents = None

-- the data of the linker member that is the part of this position
unfoldable pub linker_in : ℕ → List ℕ → Option (List ℕ)
linker_in position bytes = option_and_then
    (λ parts. option_and_then (λ s. linker_data (name_in s.field) s.contents)
    (slice_get parts position))
    (stored_in bytes)

-- `count` numbers of 4 bytes
unfoldable pub numbers_in : (List ℕ → ℕ) → ℕ → ℕ → List ℕ → List ℕ
numbers_in read size zero bytes = []
numbers_in read size (suc count) bytes =
    read (take size bytes) ∷ numbers_in read size count (drop size bytes)

-- `count` texts, each ended by a NUL
unfoldable pub texts_in : ℕ → List ℕ → List (List ℕ)
texts_in zero bytes = []
texts_in (suc count) bytes =
    let text = take_while (λ c. not (nat_eq c 0)) bytes in
    text ∷ texts_in count (drop (length text + 1) bytes)

-- pairs of two lists
unfoldable pub paired : {X Y : Type 0} → List X → List Y → List (X × Y)
paired [] ys = []
paired (x ∷ xs) [] = []
paired (x ∷ xs) (y ∷ ys) = (x, y) ∷ paired xs ys

-- the first linker member: symbols, and the offsets of their members' headers
unfoldable pub first_in : List ℕ → Option (List (List ℕ × ℕ))
first_in bytes = option_map
    (λ data'. let count = from_be_bytes w32 (take 4 data') in
    paired (texts_in count (drop (4 + 4 * count) data'))
    (numbers_in (from_be_bytes w32) 4 count (drop 4 data')))
    (linker_in 0 bytes)

-- the second linker member: the offsets of the members' headers, and symbols with the numbers of
-- their members
unfoldable pub second_in : List ℕ → Option (List ℕ × List (List ℕ × ℕ))
second_in bytes = option_map
    (λ data'. let members = from_le_bytes w32 (take 4 data') in
    let rest = drop (4 + 4 * members) data' in
    let count = from_le_bytes w32 (take 4 rest) in (
      numbers_in (from_le_bytes w32) 4 members (drop 4 data'),
      paired (texts_in count (drop (4 + 2 * count) rest))
          (numbers_in (from_le_bytes w16) 2 count (drop 4 rest)),
    ))
    (linker_in 1 bytes)
