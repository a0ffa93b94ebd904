-- What a file is read to export lies in memory.
use Rattle.std.proofs.Common.{◌≡◌, ℕ, zero, suc, ◌+◌, ◌*◌, ◌<◌, ◌≤◌, ◌==◌, Bool, true, false, cond, List, [], ◌∷◌, Option, Some, None, Ok, Err, length, take, drop, get_or, nat_lt, refl, ap, ◌∙◌, sym, subst, arith}
use Rattle.std.specs.List.{slice_get}
use Rattle.std.proofs.Math.Seq.{drop-cons}
use Rattle.std.proofs.lemmas.Bool.{eqb-true}
use Rattle.std.proofs.lemmas.List.{length-take}
use Rattle.implib_dll.specs.declared.fault.Cause.{Cause}
use Rattle.implib_dll.specs.declared.fault.Cause.TheVariants.{AddressTableOutside, DirectoryOutside, DllNameOutside, NameOutside, NameTableOutside, OrdinalTableOutside}
use Rattle.implib_dll.specs.declared.header.Entry.{Entry}
use Rattle.implib_dll.specs.declared.header.Header.{Header}
use Rattle.implib_dll.specs.declared.section.Layout.TheVariants.{File}
use Rattle.implib_dll.specs.Bytes.{u16_at, u32_at}
use Rattle.implib_dll.specs.Exports.{Exports, NameEntry, Target, Forwarder, as_forwarder, as_name, exports_at, exports_behind, exports_in, found_or, is_forwarder, name_step, table_at, target_of, target_step, text_within}
use Rattle.implib_dll.specs.Headers.{header_in}
use Rattle.implib_dll.specs.Memory.{AreAt, ExportsLieInMemory, IsTargetOf, IsTextAt, LiesIn, byte_at, half_at, word_at}
use Rattle.implib_dll.specs.Outcome.{◌>>=◌, Read, each_from}
use Rattle.implib_dll.specs.Sections.{Section, part_at, sections_in, text_at}
use Rattle.implib_dll.proofs.InMemory.{bind_ok, done, file_is_in_memory, ok_is, part_of-is, same_some, some_before}

-- ---- numbers

two : (bytes : List ℕ) (j : ℕ) → j + 2 ≤ length bytes → take 2 (drop j bytes) ≡ get_or bytes j 0 ∷ get_or bytes (suc j) 0 ∷ []
two bytes j within = grind (arith, drop-cons)

four : (bytes : List ℕ) (j : ℕ) → j + 4 ≤ length bytes
    → take 4 (drop j bytes) ≡ get_or bytes j 0 ∷ get_or bytes (suc j) 0 ∷ get_or bytes (suc (suc j)) 0 ∷ get_or bytes (suc (suc (suc j))) 0 ∷ []
four bytes j within = grind (arith, drop-cons)

byte-is : (sections : List Section) (rva at k : ℕ) (bytes : List ℕ) → AreAt sections rva bytes → k < length bytes → at ≡ rva + k → byte_at sections at ≡ get_or bytes k 0
byte-is sections rva at k bytes all within is = ap (byte_at sections) is ∙ all k within

half-is : (sections : List Section) (rva j : ℕ) (bytes : List ℕ) → AreAt sections rva bytes → j + 2 ≤ length bytes → half_at sections (rva + j) ≡ u16_at bytes j
unfolding u16_at
half-is sections rva j bytes all within = grind (arith, byte-is, two)

word-is : (sections : List Section) (rva j : ℕ) (bytes : List ℕ) → AreAt sections rva bytes → j + 4 ≤ length bytes → word_at sections (rva + j) ≡ u32_at bytes j
unfolding u32_at
word-is sections rva j bytes all within = grind (arith, byte-is, four)

-- ---- steps that succeed

each-length : {X S : Type 0} (step : ℕ → S → Read (X × S)) (count index : ℕ) (state last : S) (found : List X) → each_from step index count state ≡ Ok (found, last) → length found ≡ count
unfolding each_from
each-length {X} {S} step zero index state last found is = ap (λ (x : List X × S). length x.0) (sym (ok_is ([], state) (found, last) is))
each-length {X} {S} step (suc count) index state last found is =
    let first = bind_ok (step index state) (λ one. each_from step (index + 1) count one.1 >>= λ others. Ok (one.0 ∷ others.0, others.1)) (found, last) is in
    let others = bind_ok (each_from step (index + 1) count first.0.1) (λ others. Ok (first.0.0 ∷ others.0, others.1)) (found, last) first.2 in
    ap (λ (x : List X × S). length x.0) (sym (ok_is (first.0.0 ∷ others.0.0, others.0.1) (found, last) others.2))
    ∙ ap suc (each-length step count (index + 1) first.0.1 others.0.1 others.0.0 others.1)

-- what a step gave an item
abbrev Given : {X S : Type 0} → (ℕ → S → Read (X × S)) → ℕ → X → Type 0
Given {X} {S} step index x = (before : S) × (after : S) × (step index before ≡ Ok (x, after))

item_at : {X S : Type 0} (step : ℕ → S → Read (X × S)) (index : ℕ) (state : S) (x y : X) (next : S) (rest : List X) → step index state ≡ Ok (y, next)
    → ((i : ℕ) (x : X) → slice_get rest i ≡ Some x → Given step (index + 1 + i) x) → (i : ℕ) → slice_get (y ∷ rest) i ≡ Some x → Given step (index + i) x
item_at {X} {S} step index state x y next rest given later zero at =
    let same : y ≡ x = same_some (Some y) y x refl at in
    let here : index ≡ index + 0 = omega arith in
    (state, next, ap (λ k. step k state) (sym here) ∙ (given ∙ ap (λ (z : X). done {X = X × S} (z, next)) same))
item_at {X} {S} step index state x y next rest given later (suc i) at = grind arith

each-item : {X S : Type 0} (step : ℕ → S → Read (X × S)) (count index : ℕ) (state last : S) (found : List X) → each_from step index count state ≡ Ok (found, last)
    → (i : ℕ) (x : X) → slice_get found i ≡ Some x → Given step (index + i) x
unfolding each_from
each-item {X} {S} step zero index state last found is i x at = grind (arith, ok_is)
each-item {X} {S} step (suc count) index state last found is i x at =
    let first = bind_ok (step index state) (λ one. each_from step (index + 1) count one.1 >>= λ others. Ok (one.0 ∷ others.0, others.1)) (found, last) is in
    let others = bind_ok (each_from step (index + 1) count first.0.1) (λ others. Ok (first.0.0 ∷ others.0, others.1)) (found, last) first.2 in
    let made : slice_get (first.0.0 ∷ others.0.0) i ≡ Some x = ap (λ (y : List X × S). slice_get y.0 i) (ok_is (first.0.0 ∷ others.0.0, others.0.1) (found, last) others.2) ∙ at in
    item_at step index state x first.0.0 first.0.1 others.0.0 first.1 (each-item step count (index + 1) first.0.1 others.0.1 others.0.0 others.1) i made

within_list : {X : Type 0} (xs : List X) (i : ℕ) (x : X) → slice_get xs i ≡ Some x → i < length xs
within_list [] i x at = absurd cc
within_list (y ∷ xs) zero x at = omega arith
within_list (y ∷ xs) (suc i) x at = omega (arith, within_list xs i x at)

text_within-some : (cause : Cause) (place room : ℕ) (o : Option (List ℕ)) (text : List ℕ) (left : ℕ) → text_within cause place room o ≡ Ok (text, left) → o ≡ Some text
text_within-some cause place room None text left is = absurd cc
text_within-some cause place room (Some found) text left is = grind (arith, nat_lt, ok_is)

as_name-ok : (index : ℕ) (read : Read (List ℕ × ℕ)) (name : NameEntry) (left : ℕ) → as_name index read ≡ Ok (name, left) → (read ≡ Ok (name.text, left)) × (index ≡ name.index)
as_name-ok index (Ok (text, room)) name left is = grind (arith, ok_is)
as_name-ok index (Err fault) name left is = absurd cc

target_of-ok : (sections : List Section) (entry : Entry) (address place room left : ℕ) (target : Target)
    → ((rva : ℕ) (text : List ℕ) → text_at sections rva ≡ Some text → IsTextAt sections rva text)
    → target_of sections entry address place room ≡ Ok (target, left) → IsTargetOf sections entry address target
unfolding target_of
target_of-ok sections entry address place room left target texts is = grind (arith, text_within-some, ok_is, eqb-true)

-- ---- the directory

-- what is read is in memory: parts, and texts with their NUL
abbrev Parts : List Section → Type 0
Parts sections = (rva size offset : ℕ) (part : List ℕ) → part_at sections rva size ≡ Some (offset, part) → AreAt sections rva part

abbrev Texts : List Section → Type 0
Texts sections = (rva : ℕ) (text : List ℕ) → text_at sections rva ≡ Some text → IsTextAt sections rva text

found_or-some : {X : Type 0} (cause : Cause) (place : ℕ) (o : Option X) (x : X) → found_or cause place o ≡ Ok x → o ≡ Some x
found_or-some cause place None x is = absurd cc
found_or-some cause place (Some found) x is = ap Some (ok_is found x is)

part-length : (sections : List Section) (rva size : ℕ) (part : ℕ × List ℕ) → part_at sections rva size ≡ Some part → length part.1 ≡ size
unfolding part_at
part-length sections rva size part is = grind (arith, some_before, part_of-is, length-take)

table-is : (sections : List Section) (cause : Cause) (place rva size : ℕ) (table : ℕ × List ℕ) → Parts sections → table_at sections cause place rva size ≡ Ok table
    → (length table.1 ≡ size) × AreAt sections rva table.1
unfolding table_at
table-is sections cause place rva size table parts is = by_size (size == 0) refl is
  where
    by_size : (b : Bool) → (size == 0) ≡ b → cond b (Ok (0, [])) (found_or cause place (part_at sections rva size)) ≡ Ok table → (length table.1 ≡ size) × AreAt sections rva table.1
    by_size true none is = grind (arith, ok_is, eqb-true)
    by_size false some is =
        let part = found_or-some cause place (part_at sections rva size) table is in
        (part-length sections rva size table part, parts rva size table.0 table.1 part)

-- what is made of what was read
abbrev made : Header → List ℕ → List ℕ → List Target → List NameEntry → Exports
made header directory dll targets names = record {
  machine = header.machine;
  is_pe32_plus = header.is_pe32_plus;
  dll = dll;
  base = u32_at directory 16;
  targets = targets;
  names = names;
}

abbrev then_names : Header → List Section → List ℕ → List ℕ → ℕ × List ℕ → List ℕ → List Target × ℕ → Read Exports
then_names header sections directory dll pointers ordinals targets =
    each_from (name_step sections pointers ordinals) 0 (u32_at directory 24) targets.1 >>= λ names. Ok (made header directory dll targets.0 names.0)

abbrev then_targets : Header → List Section → ℕ → List ℕ → List ℕ → ℕ × List ℕ → ℕ × List ℕ → List ℕ → Read Exports
then_targets header sections room directory dll addresses pointers ordinals =
    each_from (target_step sections header.entry addresses) 0 (u32_at directory 20) room >>= λ targets. then_names header sections directory dll pointers ordinals targets

target_in : (sections : List Section) (entry : Entry) (table : ℕ × List ℕ) (rva count : ℕ) (room left : ℕ) (targets : List Target) → Texts sections
    → length table.1 ≡ 4 * count → AreAt sections rva table.1 → each_from (target_step sections entry table) 0 count room ≡ Ok (targets, left)
    → (index : ℕ) (target : Target) → slice_get targets index ≡ Some target → IsTargetOf sections entry (word_at sections (rva + 4 * index)) target
target_in sections entry table rva count room left targets texts size at read index target item =
    let step = target_step sections entry table in
    let given = each-item step count 0 room left targets read index target item in
    let so_many : length targets ≡ count = each-length step count 0 room left targets read in
    let within : index < length targets = within_list targets index target item in
    let here : 0 + index ≡ index = omega arith in
    let is : target_of sections entry (u32_at table.1 (4 * index)) (table.0 + 4 * index) given.0 ≡ Ok (target, given.1) = ap (λ i. step i given.0) (sym here) ∙ given.2 in
    subst (λ a. IsTargetOf sections entry a target) (sym (word-is sections rva (4 * index) table.1 at (omega (arith, size, so_many, within))))
    (target_of-ok sections entry (u32_at table.1 (4 * index)) (table.0 + 4 * index) given.0 given.1 target texts is)

name_in : (sections : List Section) (pointers : ℕ × List ℕ) (ordinals : List ℕ) (rva places count : ℕ) (room left : ℕ) (names : List NameEntry) → Texts sections
    → length pointers.1 ≡ 4 * count → AreAt sections rva pointers.1 → length ordinals ≡ 2 * count → AreAt sections places ordinals
    → each_from (name_step sections pointers ordinals) 0 count room ≡ Ok (names, left)
    → (position : ℕ) (name : NameEntry) → slice_get names position ≡ Some name
    → IsTextAt sections (word_at sections (rva + 4 * position)) name.text × (half_at sections (places + 2 * position) ≡ name.index)
name_in sections pointers ordinals rva places count room left names texts size at ordinals_size ordinals_at read position name item =
    let step = name_step sections pointers ordinals in
    let given = each-item step count 0 room left names read position name item in
    let so_many : length names ≡ count = each-length step count 0 room left names read in
    let within : position < length names = within_list names position name item in
    let here : 0 + position ≡ position = omega arith in
    let is : step position given.0 ≡ Ok (name, given.1) = ap (λ i. step i given.0) (sym here) ∙ given.2 in
    let parts = as_name-ok (u16_at ordinals (2 * position)) (text_within NameOutside (pointers.0 + 4 * position) given.0 (text_at sections (u32_at pointers.1 (4 * position)))) name given.1 is in
    let text = text_within-some NameOutside (pointers.0 + 4 * position) given.0 (text_at sections (u32_at pointers.1 (4 * position))) name.text given.1 parts.0 in (
      subst (λ a. IsTextAt sections a name.text) (sym (word-is sections rva (4 * position) pointers.1 at (omega (arith, size, so_many, within)))) (texts (u32_at pointers.1 (4 * position)) name.text text),
      half-is sections places (2 * position) ordinals ordinals_at (omega (arith, ordinals_size, so_many, within)) ∙ parts.1,
    )

laid : (header : Header) (sections : List Section) (room : ℕ) (d dll : List ℕ) (addresses pointers : ℕ × List ℕ) (ordinals : List ℕ) (targets : List Target × ℕ) (names : List NameEntry × ℕ)
    → Parts sections → Texts sections → ((j : ℕ) → j + 4 ≤ length d → word_at sections (header.entry.rva + j) ≡ u32_at d j)
    → text_at sections (u32_at d 12) ≡ Some dll
    → (length addresses.1 ≡ 4 * u32_at d 20) × AreAt sections (u32_at d 28) addresses.1
    → (length pointers.1 ≡ 4 * u32_at d 24) × AreAt sections (u32_at d 32) pointers.1
    → (length ordinals ≡ 2 * u32_at d 24) × AreAt sections (u32_at d 36) ordinals
    → each_from (target_step sections header.entry addresses) 0 (u32_at d 20) room ≡ Ok targets
    → each_from (name_step sections pointers ordinals) 0 (u32_at d 24) targets.1 ≡ Ok names
    → length d ≡ 40 → LiesIn sections header.entry (made header d dll targets.0 names.0)
laid header sections room d dll addresses pointers ordinals targets names parts texts word dll-is a p o targets-are names-are size =
    let named = name_in sections pointers ordinals (u32_at d 32) (u32_at d 36) (u32_at d 24) targets.1 names.1 names.0 texts p.0 p.1 o.0 o.1 names-are in
    record {
      dll = subst (λ r. IsTextAt sections r dll) (sym (word 12 (omega (arith, size)))) (texts (u32_at d 12) dll dll-is);
      base = word 16 (omega (arith, size));
      target_count = word 20 (omega (arith, size)) ∙ sym (each-length (target_step sections header.entry addresses) (u32_at d 20) 0 room targets.1 targets.0 targets-are);
      name_count = word 24 (omega (arith, size)) ∙ sym (each-length (name_step sections pointers ordinals) (u32_at d 24) 0 targets.1 names.1 names.0 names-are);
      targets = λ index target item.
          subst (λ r. IsTargetOf sections header.entry (word_at sections (r + 4 * index)) target) (sym (word 28 (omega (arith, size))))
          (target_in sections header.entry addresses (u32_at d 28) (u32_at d 20) room targets.1 targets.0 texts a.0 a.1 targets-are index target item);
      names = λ position name item. grind arith;
      indexes = λ position name item. grind arith;
    }

lies : (header : Header) (sections : List Section) (room : ℕ) (directory : ℕ × List ℕ) (e : Exports) → Parts sections → Texts sections
    → AreAt sections header.entry.rva directory.1 → length directory.1 ≡ 40 → exports_at header sections room directory ≡ Ok e → LiesIn sections header.entry e
unfolding exports_at
lies header sections room directory e parts texts at size is =
    let d = directory.1 in
    let p = directory.0 in
    let word = λ (j : ℕ) (within : j + 4 ≤ length d). word-is sections header.entry.rva j d at within in
    let dll = bind_ok (found_or DllNameOutside (p + 12) (text_at sections (u32_at d 12)))
    (λ dll. table_at sections AddressTableOutside (p + 28) (u32_at d 28) (4 * u32_at d 20) >>= λ addresses. table_at sections NameTableOutside (p + 32) (u32_at d 32) (4 * u32_at d 24) >>= λ pointers.
    table_at sections OrdinalTableOutside (p + 36) (u32_at d 36) (2 * u32_at d 24) >>= λ ordinals. then_targets header sections room d dll addresses pointers ordinals.1) e is in
    let addresses = bind_ok (table_at sections AddressTableOutside (p + 28) (u32_at d 28) (4 * u32_at d 20))
    (λ addresses. table_at sections NameTableOutside (p + 32) (u32_at d 32) (4 * u32_at d 24) >>= λ pointers.
    table_at sections OrdinalTableOutside (p + 36) (u32_at d 36) (2 * u32_at d 24) >>= λ ordinals. then_targets header sections room d dll.0 addresses pointers ordinals.1) e dll.2 in
    let pointers = bind_ok (table_at sections NameTableOutside (p + 32) (u32_at d 32) (4 * u32_at d 24))
    (λ pointers. table_at sections OrdinalTableOutside (p + 36) (u32_at d 36) (2 * u32_at d 24) >>= λ ordinals. then_targets header sections room d dll.0 addresses.0 pointers ordinals.1) e addresses.2 in
    let ordinals = bind_ok (table_at sections OrdinalTableOutside (p + 36) (u32_at d 36) (2 * u32_at d 24))
    (λ ordinals. then_targets header sections room d dll.0 addresses.0 pointers.0 ordinals.1) e pointers.2 in
    let targets = bind_ok (each_from (target_step sections header.entry addresses.0) 0 (u32_at d 20) room) (λ targets. then_names header sections d dll.0 pointers.0 ordinals.0.1 targets) e ordinals.2 in
    let names = bind_ok (each_from (name_step sections pointers.0 ordinals.0.1) 0 (u32_at d 24) targets.0.1) (λ names. Ok (made header d dll.0 targets.0.0 names.0)) e targets.2 in
    subst (LiesIn sections header.entry) (ok_is (made header d dll.0 targets.0.0 names.0.0) e names.2)
    (laid header sections room d dll.0 addresses.0 pointers.0 ordinals.0.1 targets.0 names.0 parts texts word
    (found_or-some DllNameOutside (p + 12) (text_at sections (u32_at d 12)) dll.0 dll.1)
    (table-is sections AddressTableOutside (p + 28) (u32_at d 28) (4 * u32_at d 20) addresses.0 parts addresses.1)
    (table-is sections NameTableOutside (p + 32) (u32_at d 32) (4 * u32_at d 24) pointers.0 parts pointers.1)
    (table-is sections OrdinalTableOutside (p + 36) (u32_at d 36) (2 * u32_at d 24) ordinals.0 parts ordinals.1)
    targets.1 names.1 size)

behind : (header : Header) (sections : List Section) (room : ℕ) (e : Exports) → Parts sections → Texts sections → exports_behind header sections room ≡ Ok (Some e) → LiesIn sections header.entry e
unfolding exports_behind
behind header sections room e parts texts is = by_rva (header.entry.rva == 0) is
  where
    there : (found_or DirectoryOutside header.entry.place (part_at sections header.entry.rva 40) >>= λ directory. exports_at header sections room directory >>= λ exports. Ok (Some exports)) ≡ Ok (Some e)
        → LiesIn sections header.entry e
    there is =
        let directory = bind_ok (found_or DirectoryOutside header.entry.place (part_at sections header.entry.rva 40)) (λ directory. exports_at header sections room directory >>= λ exports. Ok (Some exports)) (Some e) is in
        let exports = bind_ok (exports_at header sections room directory.0) (λ exports. Ok (Some exports)) (Some e) directory.2 in
        let same : exports.0 ≡ e = same_some (Some exports.0) exports.0 e refl (ok_is (Some exports.0) (Some e) exports.2) in
        let part = found_or-some DirectoryOutside header.entry.place (part_at sections header.entry.rva 40) directory.0 directory.1 in
        lies header sections room directory.0 e parts texts (parts header.entry.rva 40 directory.0.0 directory.0.1 part) (part-length sections header.entry.rva 40 directory.0 part) (exports.1 ∙ ap (λ x. done x) same)

    by_rva : (b : Bool) → cond b (Ok None) (found_or DirectoryOutside header.entry.place (part_at sections header.entry.rva 40) >>= λ directory. exports_at header sections room directory >>= λ exports. Ok (Some exports)) ≡ Ok (Some e)
        → LiesIn sections header.entry e
    by_rva true is = let none = ok_is None (Some e) is in absurd cc
    by_rva false is = there is

pub exports_lie_in_memory : ExportsLieInMemory
unfolding exports_in
exports_lie_in_memory bytes e is =
    let header = bind_ok (header_in bytes) (λ header. sections_in File bytes header.sections header.section_count >>= λ sections. exports_behind header sections.0 (length bytes)) (Some e) is in
    let sections = bind_ok (sections_in File bytes header.0.sections header.0.section_count) (λ sections. exports_behind header.0 sections.0 (length bytes)) (Some e) header.2 in
    let memory = file_is_in_memory bytes header.0.sections header.0.section_count sections.0.1 sections.0.0 sections.1 in
    (header.0, sections.0.0, sections.0.1, header.1, sections.1, behind header.0 sections.0.0 (length bytes) e memory.0 memory.1 sections.2)
