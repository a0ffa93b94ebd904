-- Objects, for a reader that goes over the records of their tables one by one.
use Rattle.std.specs.Prelude.{◌≡◌, ℕ, zero, suc, ◌+◌, ◌*◌, ◌/◌, ◌==◌, ◌-◌, ◌^◌, Bool, true, false}
use Rattle.std.specs.Prelude.{◌&&◌, List, [], ◌∷◌, length, min, nat_le, nat_lt, take, drop}
use Rattle.std.specs.Prelude.{slice_index, Option, None, Some, if◌then◌else◌}
use Rattle.std.specs.Option.{option_and_then, option_map, option_map_or}
use Rattle.implib.specs.declared.coff.object.Relocation.{Relocation}
use Rattle.implib.specs.Formats.Object.{Entry, ASymbol, Auxiliary, Object, bytes_at, each_at}
use Rattle.implib.specs.Formats.Object.{entries_at, object_in, object_with, relocation_of}
use Rattle.implib.specs.Formats.Object.{section_at, strings_at, symbol_of, u16_at, u32_at}

-- `count` records of a width, one after the other
unfoldable pub records_in : {X : Type 0} → (List ℕ → X) → ℕ → ℕ → List ℕ → List X
records_in read width zero bytes = []
records_in read width (suc count) bytes =
    read (take width bytes) ∷ records_in read width count (drop width bytes)

-- the relocations in records of 10 bytes
abbrev pub relocations_of : List ℕ → List Relocation
relocations_of records = records_in relocation_of 10 (length records / 10) records

-- whether a name's field begins with four zero bytes
abbrev pub begins_with_zeros : List ℕ → Bool
begins_with_zeros field =
    (slice_index field 0 == 0) && (slice_index field 1 == 0) && (slice_index field 2 == 0)
    && (slice_index field 3 == 0)

-- the entry of the symbol table at an offset, and how many of those after it are its auxiliary
-- records; given how many are still those of the symbol before
unfoldable pub entry_at : List ℕ → List ℕ → ℕ → ℕ → Option (Entry × ℕ)
entry_at bytes strings offset (suc auxiliary) =
    option_map (λ record_bytes. (Auxiliary record_bytes, auxiliary)) (bytes_at bytes offset 18)
entry_at bytes strings offset zero = option_and_then
    (λ record_bytes. option_map (λ symbol. (ASymbol symbol, slice_index record_bytes 17))
    (symbol_of strings record_bytes))
    (bytes_at bytes offset 18)

-- Room for names. Names may overlap in the string table, as one that ends another does, so those of
-- a file could be longer than the file by any factor. Those beyond the sixteenth have to be,
-- together, at most sixteen times as long.
-- the length of the name of an entry
abbrev pub name_length : Entry → ℕ
name_length (ASymbol s) = length s.name
name_length (Auxiliary record_bytes) = 0

-- the room for names in a file of this size
abbrev pub room_in : ℕ → ℕ
room_in size = min (size * 16) (2 ^ 64 - 1)

-- the room that is left after an entry, of which a number stand before, if there was enough
abbrev pub room_after : ℕ → ℕ → Entry → Option ℕ
room_after room number e =
    if nat_lt number 16 then Some room else if nat_le (name_length e) room
    then Some (room - name_length e) else None

-- whether there is room for the names of entries, of which a number stand before
abbrev pub have_room : ℕ → ℕ → List Entry → Bool
have_room room number [] = true
have_room room number (e ∷ es) =
    option_map_or (λ left. have_room left (number + 1) es) (room_after room number e) false

-- entries, if there is room for their names in a file of this size
abbrev pub within_room : ℕ → List Entry → Option (List Entry)
within_room size es = if have_room (room_in size) 0 es then Some es else None

-- The entries of a symbol table, which an object without symbols lacks with its string table. There
-- are none where their names have no room.
unfoldable pub entries_found : List ℕ → ℕ → ℕ → Option (List Entry)
entries_found bytes offset records = if records == 0 then Some [] else option_and_then
    (λ strings. option_and_then (within_room (length bytes))
    (entries_at bytes strings offset 0 records))
    (strings_at bytes (offset + 18 * records))

-- the object that a header of 20 bytes describes
unfoldable pub object_of_found : List ℕ → List ℕ → Option Object
object_of_found bytes header =
    let sections = each_at (section_at bytes) (20 + u16_at header 16) 40 (u16_at header 2) in
    let entries = entries_found bytes (u32_at header 8) (u32_at header 12) in
    option_and_then (λ ss. option_map (λ es. object_with header ss es) entries) sections

-- The object in a file's bytes: as `object_in` has it, and where it has no symbols also without a
-- string table.
unfoldable pub object_found : List ℕ → Option Object
object_found bytes = option_and_then (object_of_found bytes) (bytes_at bytes 0 20)

-- what `implib`'s reader has of an object, this one has, if there is room for its names
abbrev pub SameObjects : Type 0
SameObjects = (bytes : List ℕ) (o : Object) → object_in bytes ≡ Some o →
    have_room (room_in (length bytes)) 0 o.entries ≡ true → object_found bytes ≡ Some o
