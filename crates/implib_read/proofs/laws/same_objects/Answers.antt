use Rattle.std.proofs.Common.{◌≡◌, ℕ, zero, suc, ◌+◌, ◌*◌, List, [], Option, Some, None, if◌then◌else◌, length, true, refl, ap, subst, sym, ◌∙◌}
use Rattle.std.specs.Option.{option_and_then, option_map, option_map_or}
use Rattle.implib.specs.Formats.Object.{Entry, Object, ObjectSection, bytes_at, each_at, entries_at, object_in, object_of_header, object_with, section_at, strings_at, u16_at, u32_at}
use Rattle.implib_read.specs.Objects.{entries_found, have_room, object_found, object_of_found, room_in, within_room}
use Rattle.implib_read.proofs.Texts.{suc_is_no_zero}
use Rattle.implib_read.proofs.laws.same_objects.Goals as goal

-- there is room for the names of entries in a file of this size
abbrev HasRoom : ℕ → List Entry → Type 0
HasRoom size es = have_room (room_in size) 0 es ≡ true

-- the object, from its sections and its entries
whole : List ℕ → Option (List ObjectSection) → Option (List Entry) → Option Object
whole header sections entries = option_and_then (λ ss. option_map (λ es. object_with header ss es) entries) sections

with_entries : (header : List ℕ) (size : ℕ) (sections : Option (List ObjectSection)) (es es' : Option (List Entry)) (o : Object)
    → ((found : List Entry) → es ≡ Some found → HasRoom size found → es' ≡ Some found) → whole header sections es ≡ Some o → HasRoom size o.entries
    → whole header sections es' ≡ Some o
unfolding whole
with_entries header size None es es' o same is room = cc
with_entries header size (Some ss) None es' o same is room = cc
with_entries header size (Some ss) (Some found) es' o same is room =
    let entries : found ≡ o.entries = ap (λ x. option_map_or (λ (y : Object). y.entries) x []) is in
    ap (option_map (λ es. object_with header ss es)) (same found refl (subst (HasRoom size) (sym entries) room)) ∙ is

no_entries : (bytes : List ℕ) (offset : ℕ) (strings : Option (List ℕ)) (found : List Entry)
    → option_and_then (λ table. entries_at bytes table offset 0 0) strings ≡ Some found → Some [] ≡ Some found
unfolding entries_at
no_entries bytes offset None found is = cc
no_entries bytes offset (Some table) found is = is

-- entries that have room are kept
kept : (bytes : List ℕ) (offset records : ℕ) (strings : Option (List ℕ)) (found : List Entry)
    → option_and_then (λ table. entries_at bytes table offset 0 records) strings ≡ Some found → HasRoom (length bytes) found
    → option_and_then (λ table. option_and_then (within_room (length bytes)) (entries_at bytes table offset 0 records)) strings ≡ Some found
kept bytes offset records None found is room = cc
kept bytes offset records (Some table) found is room =
    ap (option_and_then (within_room (length bytes))) is ∙ ap (λ b. if b then Some found else None) room

same_entries : (bytes : List ℕ) (offset records : ℕ) (found : List Entry)
    → option_and_then (λ table. entries_at bytes table offset 0 records) (strings_at bytes (offset + 18 * records)) ≡ Some found
    → HasRoom (length bytes) found → entries_found bytes offset records ≡ Some found
unfolding entries_found
same_entries bytes offset zero found is room = no_entries bytes offset (strings_at bytes (offset + 18 * 0)) found is
same_entries bytes offset (suc n) found is room =
    ap (λ b. if b then Some [] else option_and_then (λ table. option_and_then (within_room (length bytes)) (entries_at bytes table offset 0 (suc n))) (strings_at bytes (offset + 18 * suc n))) (suc_is_no_zero n)
    ∙ kept bytes offset (suc n) (strings_at bytes (offset + 18 * suc n)) found is room

same_header : (bytes header : List ℕ) (o : Object) → object_of_header bytes header ≡ Some o → HasRoom (length bytes) o.entries → object_of_found bytes header ≡ Some o
unfolding object_of_header object_of_found whole
same_header bytes header o is room =
    let offset = u32_at header 8 in
    let records = u32_at header 12 in
    with_entries header (length bytes) (each_at (section_at bytes) (20 + u16_at header 16) 40 (u16_at header 2))
    (option_and_then (λ table. entries_at bytes table offset 0 records) (strings_at bytes (offset + 18 * records)))
    (entries_found bytes offset records) o (same_entries bytes offset records) is room

same_file : (bytes : List ℕ) (header : Option (List ℕ)) (o : Object) → option_and_then (object_of_header bytes) header ≡ Some o → HasRoom (length bytes) o.entries
    → option_and_then (object_of_found bytes) header ≡ Some o
same_file bytes None o is room = cc
same_file bytes (Some header) o is room = same_header bytes header o is room

pub returns : goal.returns
unfolding object_in object_found
returns c = λ bytes o is room. same_file bytes (bytes_at bytes 0 20) o is room
