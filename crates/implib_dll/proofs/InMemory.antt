-- What is read of a file is in memory, and what is read of an image is what its bytes have.
use Rattle.std.proofs.Common.{◌≡◌, ℕ, zero, suc, ◌+◌, ◌-◌, ◌<◌, ◌≤◌, ◌==◌, Bool, true, false, ◌&&◌, cond, List, [], ◌∷◌, ◌++◌, Option, Some, None, Ok, Err, length, take, drop, get_or, nat_le, nat_lt, position, refl, ap, ◌∙◌, sym, subst, arith}
use Rattle.std.specs.Option.{option_and_then, option_map}
use Rattle.std.proofs.lemmas.Bool.{eqb-true, ltb-true, leb-true, le-leb, le-ltb, lt-ltb, ltb-false}
use Rattle.std.proofs.lemmas.List.{drop-drop, drop-take, get_or-drop, get_or-take, length-drop, length-take, take-take, take_more}
use Rattle.std.proofs.lemmas.List.Quantifiers.{position-Some}
use Rattle.implib_dll.specs.declared.fault.Fault.{Fault}
use Rattle.implib_dll.specs.declared.section.Layout.{Layout}
use Rattle.implib_dll.specs.declared.section.Layout.TheVariants.{File, Image}
use Rattle.implib_dll.specs.Bytes.{bytes_at, text_in, u32_at}
use Rattle.implib_dll.specs.Memory.{AreAt, FileIsInMemory, ImageIsRead, byte_at, byte_in}
use Rattle.implib_dll.specs.Outcome.{◌>>=◌, Read, each_from}
use Rattle.implib_dll.specs.Sections.{Section, contents_at, contents_place, contents_size, data_from, has_data, located, part_at, part_of, section_at, section_size, section_step, section_with, text_at, with_end}

-- ---- readings that succeed

pub bind_ok : {X Y : Type 0} (read : Read X) (next : X → Read Y) (y : Y) → (read >>= next) ≡ Ok y → (x : X) × (read ≡ Ok x) × (next x ≡ Ok y)
bind_ok (Ok x) next y is = (x, refl, is)
bind_ok (Err fault) next y is = absurd cc

abbrev pub done : {X : Type 0} → X → Read X
done x = Ok x

pub ok_is : {X : Type 0} (x y : X) → done x ≡ done y → x ≡ y
ok_is x y is = cc

test_ok : {X : Type 0} (b : Bool) (fault : Fault) (read : Read X) (x : X) → cond b (Err fault) read ≡ Ok x → (b ≡ false) × (read ≡ Ok x)
test_ok true fault read x is = absurd cc
test_ok false fault read x is = (refl, is)

pub both_parts : (a b : Bool) → (a && b) ≡ true → (a ≡ true) × (b ≡ true)
both_parts true b is = (refl, is)
both_parts false b is = absurd cc

with_end_ok : (read : Read Section) (found : Section × ℕ) → with_end read ≡ Ok found → (read ≡ Ok found.0) × (found.1 ≡ found.0.address + found.0.size)
with_end_ok (Ok s) found is = grind (arith, ok_is, is)
with_end_ok (Err fault) found is = absurd cc

-- ---- sections that ascend and are apart, each with a fact

abbrev Apart : (Section → Type 0) → ℕ → List Section → Type 0
Apart P end [] = Unit {0}
Apart P end (s ∷ rest) = (end ≤ s.address) × (P s × Apart P (s.address + s.size) rest)

sections-apart : (P : Section → Type 0) (layout : Layout) (bytes : List ℕ) (sections : ℕ)
    → ((place end : ℕ) (s : Section) → section_at layout bytes place end ≡ Ok s → (end ≤ s.address) × P s)
    → (count index end last : ℕ) (found : List Section) → each_from (section_step layout bytes sections) index count end ≡ Ok (found, last) → Apart P end found
unfolding each_from
sections-apart P layout bytes sections each zero index end last found is = grind (arith, ok_is, is)
sections-apart P layout bytes sections each (suc count) index end last found is =
    let step = section_step layout bytes sections in
    let first = bind_ok (step index end) (λ one. each_from step (index + 1) count one.1 >>= λ others. Ok (one.0 ∷ others.0, others.1)) (found, last) is in
    let others = bind_ok (each_from step (index + 1) count first.0.1) (λ others. Ok (first.0.0 ∷ others.0, others.1)) (found, last) first.2 in
    let section = with_end_ok _ first.0 first.1 in
    let here = each _ end first.0.0 section.0 in
    let later = sections-apart P layout bytes sections each count (index + 1) first.0.1 others.0.1 others.0.0 others.1 in
    subst (λ (x : List Section × ℕ). Apart P end x.0) (ok_is (first.0.0 ∷ others.0.0, others.0.1) (found, last) others.2)
    (here.0, (here.1, subst (λ (k : ℕ). Apart P k others.0.0) section.1 later))

-- where an address is found: in a section, which alone has it in memory
record Found (P : Section → Type 0) (end : ℕ) (sections : List Section) (rva : ℕ) (found : ℕ × List ℕ) : Type 0 where
  section : Section
  fact : P section
  low : section.address ≤ rva
  high : rva < section.address + length section.contents
  behind : end ≤ rva
  is : data_from section rva ≡ found
  bytes : (k : ℕ) → rva + k < section.address + section.size → byte_at sections (rva + k) ≡ byte_in section (rva + k)

pub same_some : {X : Type 0} (o : Option X) (x y : X) → o ≡ Some x → o ≡ Some y → x ≡ y
same_some o x y is also = cc

in_first : (P : Section → Type 0) (end : ℕ) (s : Section) (rest : List Section) (rva : ℕ) (found : ℕ × List ℕ) → end ≤ s.address → P s → has_data s rva ≡ true
    → Some (data_from s rva) ≡ Some found → Found P end (s ∷ rest) rva found
unfolding byte_at
in_first P end s rest rva found from fact has is =
    let parts = both_parts (nat_le s.address rva) (nat_lt rva (s.address + length s.contents)) has in
    let low : s.address ≤ rva = leb-true _ _ parts.0 in
    record {
      section = s;
      fact = fact;
      low = low;
      high = ltb-true _ _ parts.1;
      behind = omega (arith, from, low);
      is = same_some (Some (data_from s rva)) (data_from s rva) found refl is;
      bytes = λ k within. grind (arith, nat_le, le-leb, low, nat_lt, lt-ltb);
    }

in_rest : (P : Section → Type 0) (end : ℕ) (s : Section) (rest : List Section) (rva : ℕ) (found : ℕ × List ℕ) → end ≤ s.address
    → Found P (s.address + s.size) rest rva found → Found P end (s ∷ rest) rva found
unfolding byte_at
in_rest P end s rest rva found from f = record {
  section = f.section;
  fact = f.fact;
  low = f.low;
  high = f.high;
  behind = omega (arith, from, f.behind);
  is = f.is;
  bytes = λ k within. grind (arith, nat_lt, le-ltb, nat_le, le-leb);
}

located-found : (P : Section → Type 0) (end : ℕ) (sections : List Section) (rva : ℕ) (found : ℕ × List ℕ) → Apart P end sections → located sections rva ≡ Some found → Found P end sections rva found
unfolding located
located-found P end [] rva found apart is = absurd cc
located-found P end (s ∷ rest) rva found apart is = grind (arith, by_data (λ later. located-found P (s.address + s.size) rest rva found apart.1.1 later) (has_data s rva) refl is)
  where
    by_data : (located rest rva ≡ Some found → Found P (s.address + s.size) rest rva found) → (b : Bool) → has_data s rva ≡ b → cond b (Some (data_from s rva)) (located rest rva) ≡ Some found → Found P end (s ∷ rest) rva found
    by_data later true has is = in_first P end s rest rva found apart.0 apart.1.0 has is
    by_data later false has is = in_rest P end s rest rva found apart.0 (later is)

-- ---- a file

abbrev Small : Section → Type 0
Small s = length s.contents ≤ s.size

contents_at-length : (bytes : List ℕ) (place size : ℕ) (contents : List ℕ) → contents_at bytes place size ≡ Some contents → length contents ≤ size
unfolding contents_at bytes_at
contents_at-length bytes place size contents is = grind (arith, size, bytes, contents, is, same_some, length-take, nat_le)

-- what a section has, from its header
record Laid (layout : Layout) (bytes : List ℕ) (place end : ℕ) (s : Section) : Type 0 where
  from : end ≤ s.address
  address : s.address ≡ u32_at bytes (place + 12)
  size : s.size ≡ section_size bytes place
  offset : s.place ≡ contents_place layout bytes place
  contents : contents_at bytes (contents_place layout bytes place) (contents_size layout bytes place) ≡ Some s.contents

section-laid : (layout : Layout) (bytes : List ℕ) (place end : ℕ) (s : Section) → section_at layout bytes place end ≡ Ok s → Laid layout bytes place end s
unfolding section_at
section-laid layout bytes place end s is = grind (arith, test_ok, nat_lt, bytes, is, by_contents, ltb-false)
  where
    by_contents : (o : Option (List ℕ)) → contents_at bytes (contents_place layout bytes place) (contents_size layout bytes place) ≡ o → end ≤ u32_at bytes (place + 12)
        → section_with layout bytes place o ≡ Ok s → Laid layout bytes place end s
    by_contents None read from is = absurd cc
    by_contents (Some contents) read from is = grind (arith, bytes, ok_is, is, from, contents)

contents_size-le : (layout : Layout) (bytes : List ℕ) (place : ℕ) → contents_size layout bytes place ≤ section_size bytes place
contents_size-le File bytes place = omega arith
contents_size-le Image bytes place = omega arith

section-small : (layout : Layout) (bytes : List ℕ) (place end : ℕ) (s : Section) → section_at layout bytes place end ≡ Ok s → (end ≤ s.address) × Small s
section-small layout bytes place end s is = grind (arith, section-laid, bytes, is, contents_at-length, contents_size-le)

-- the data at an address are in memory
data_in_memory : (sections : List Section) (end rva : ℕ) (found : ℕ × List ℕ) → Apart Small end sections → located sections rva ≡ Some found → AreAt sections rva found.1
data_in_memory sections end rva found apart is k within =
    let f = located-found Small end sections rva found apart is in
    let s = f.section in
    let rest : drop (rva - s.address) s.contents ≡ found.1 = ap (λ (x : ℕ × List ℕ). x.1) f.is in
    let size : length found.1 ≡ length s.contents - (rva - s.address) = ap length (sym rest) ∙ length-drop (rva - s.address) s.contents in
    let offset : rva + k - s.address ≡ (rva - s.address) + k = omega (arith, f.low) in
    f.bytes k (omega (arith, within, size, f.low, f.high, f.fact))
    ∙ (ap (λ i. get_or s.contents i 0) offset
    ∙ (sym (get_or-drop (rva - s.address) s.contents k 0)
    ∙ ap (λ t. get_or t k 0) rest))

-- the first bytes of what is in memory are
front_in_memory : (sections : List Section) (rva n : ℕ) (bytes : List ℕ) → AreAt sections rva bytes → AreAt sections rva (take n bytes)
front_in_memory sections rva n bytes all k within = grind (arith, length-take, bytes, get_or-take)

pub part_of-is : (size : ℕ) (found part : ℕ × List ℕ) → part_of size found ≡ Some part → (size ≤ length found.1) × ((found.0, take size found.1) ≡ part)
part_of-is size found part is = grind (arith, nat_le, size, leb-true, same_some, is)

pub some_before : {X Y : Type 0} (f : X → Option Y) (o : Option X) (y : Y) → option_and_then f o ≡ Some y → (x : X) × (o ≡ Some x) × (f x ≡ Some y)
some_before f None y is = absurd cc
some_before f (Some x) y is = (x, refl, is)

positive : (n : ℕ) → (n == 0) ≡ false → 0 < n
positive zero is = absurd cc
positive (suc n) is = omega arith

text-ended : (bytes text : List ℕ) → text_in bytes ≡ Some text → take (length text + 1) bytes ≡ text ++ 0 ∷ []
unfolding text_in
text-ended bytes text is = by_place (position (λ byte. byte == 0) bytes) refl is
  where
    by_place : (o : Option ℕ) → position (λ byte. byte == 0) bytes ≡ o → option_map (λ size. take size bytes) o ≡ Some text → take (length text + 1) bytes ≡ text ++ 0 ∷ []
    by_place None place is = absurd cc
    by_place (Some size) place is =
        let text-is : take size bytes ≡ text = same_some (Some (take size bytes)) (take size bytes) text refl is in
        let nul = position-Some (λ byte. byte == 0) bytes size 0 place in
        let length-is : length text ≡ size = omega (arith, ap length (sym text-is), length-take size bytes, nul.0) in
        let zero-is : get_or bytes size 0 ≡ 0 = eqb-true _ _ nul.1 in
        ap (λ n. take (n + 1) bytes) length-is
        ∙ (take_more bytes size 0 nul.0
        ∙ (ap (λ n. take size bytes ++ n ∷ []) zero-is
        ∙ ap (λ t. t ++ 0 ∷ []) text-is))

text-no_nul : (bytes text : List ℕ) → text_in bytes ≡ Some text → (k : ℕ) → k < length text → 0 < get_or text k 0
unfolding text_in
text-no_nul bytes text is k within = by_place (position (λ byte. byte == 0) bytes) refl is
  where
    by_place : (o : Option ℕ) → position (λ byte. byte == 0) bytes ≡ o → option_map (λ size. take size bytes) o ≡ Some text → 0 < get_or text k 0
    by_place None place is = absurd cc
    by_place (Some size) place is =
        let text-is : take size bytes ≡ text = same_some (Some (take size bytes)) (take size bytes) text refl is in
        let nul = position-Some (λ byte. byte == 0) bytes size 0 place in
        let before : k < size = omega (arith, within, ap length (sym text-is), length-take size bytes) in
        let here : get_or text k 0 ≡ get_or bytes k 0 = ap (λ t. get_or t k 0) (sym text-is) ∙ get_or-take size bytes k 0 before in
        omega (arith, here, positive (get_or bytes k 0) (nul.2 k before))

pub file_is_in_memory : FileIsInMemory
unfolding part_at text_at
file_is_in_memory bytes place count end sections is =
    let apart : Apart Small 0 sections = sections-apart Small File bytes place (section-small File bytes) count 0 0 end sections is in (
      λ rva size offset part found.
          let at = some_before (part_of size) (located sections rva) (offset, part) found in
          let front = part_of-is size at.0 (offset, part) at.2 in
          let part-is : take size at.0.1 ≡ part = ap (λ (x : ℕ × List ℕ). x.1) front.1 in
          subst (AreAt sections rva) part-is (front_in_memory sections rva size at.0.1 (data_in_memory sections 0 rva at.0 apart at.1)),
      λ rva text found.
          let at = some_before (λ (x : ℕ × List ℕ). text_in x.1) (located sections rva) text found in
          record {
            bytes = subst (AreAt sections rva) (text-ended at.0.1 text at.2) (front_in_memory sections rva (length text + 1) at.0.1 (data_in_memory sections 0 rva at.0 apart at.1));
            no_nul = text-no_nul at.0.1 text at.2;
          },
    )

-- ---- an image

bytes_at-is : (bytes : List ℕ) (place n : ℕ) (part : List ℕ) → bytes_at bytes place n ≡ Some part → (place + n ≤ length bytes) × (take n (drop place bytes) ≡ part)
unfolding bytes_at
bytes_at-is bytes place n part is = grind (arith, nat_le, bytes, leb-true, same_some, is)

bytes_at-found : (bytes : List ℕ) (place n : ℕ) → place + n ≤ length bytes → bytes_at bytes place n ≡ Some (take n (drop place bytes))
unfolding bytes_at
bytes_at-found bytes place n within = ap (λ b. cond b (Some (take n (drop place bytes))) None) (le-leb _ _ within)

contents_at-some : (bytes : List ℕ) (place size : ℕ) (contents : List ℕ) → contents_at bytes place size ≡ Some contents → 0 < length contents → bytes_at bytes place size ≡ Some contents
unfolding contents_at
contents_at-some bytes place size contents is some = grind (arith, size, bytes, contents, is, same_some)

-- a section's data are the bytes at its address
abbrev InImage : List ℕ → Section → Type 0
InImage bytes s = (s.place ≡ s.address) × (0 < length s.contents → (s.address + length s.contents ≤ length bytes) × (take (length s.contents) (drop s.address bytes) ≡ s.contents))

section-in_image : (bytes : List ℕ) (place end : ℕ) (s : Section) → section_at Image bytes place end ≡ Ok s → (end ≤ s.address) × InImage bytes s
section-in_image bytes place end s is =
    let laid = section-laid Image bytes place end s is in (
      laid.from,
      (
        laid.offset ∙ sym laid.address,
        λ some.
            let at = bytes_at-is bytes (u32_at bytes (place + 12)) (section_size bytes place) s.contents (contents_at-some bytes _ _ s.contents laid.contents some) in
            let size-is : length s.contents ≡ section_size bytes place = omega (arith, ap length (sym at.1), length-take (section_size bytes place) (drop (u32_at bytes (place + 12)) bytes), length-drop (u32_at bytes (place + 12)) bytes, at.0) in (
              omega (arith, at.0, size-is, laid.address),
              ap (λ n. take n (drop s.address bytes)) size-is ∙ (ap (λ a. take (section_size bytes place) (drop a bytes)) laid.address ∙ at.1),
            ),
      ),
    )

-- a part of a part
window : (bytes : List ℕ) (place size offset n : ℕ) → offset + n ≤ size → take n (drop offset (take size (drop place bytes))) ≡ take n (drop (place + offset) bytes)
window bytes place size offset n within =
    let split : size ≡ offset + (size - offset) = omega (arith, within) in
    ap (λ m. take n (drop offset (take m (drop place bytes)))) split
    ∙ (ap (take n) (drop-take offset (size - offset) (drop place bytes))
    ∙ (take-take n (size - offset) (drop offset (drop place bytes)) (omega (arith, within))
    ∙ ap (take n) (drop-drop offset place bytes)))

pub image_is_read : ImageIsRead
unfolding part_at
image_is_read bytes place count end sections is rva size offset part found =
    let apart : Apart (InImage bytes) 0 sections = sections-apart (InImage bytes) Image bytes place (section-in_image bytes) count 0 0 end sections is in
    let at = some_before (part_of size) (located sections rva) (offset, part) found in
    let front = part_of-is size at.0 (offset, part) at.2 in
    let f = located-found (InImage bytes) 0 sections rva at.0 apart at.1 in
    let s = f.section in
    let fact = f.fact.1 (omega (arith, f.low, f.high)) in
    let rest : drop (rva - s.address) s.contents ≡ at.0.1 = ap (λ (x : ℕ × List ℕ). x.1) f.is in
    let start : s.place + (rva - s.address) ≡ at.0.0 = ap (λ (x : ℕ × List ℕ). x.0) f.is in
    let offset-is : at.0.0 ≡ offset = ap (λ (x : ℕ × List ℕ). x.0) front.1 in
    let part-is : take size at.0.1 ≡ part = ap (λ (x : ℕ × List ℕ). x.1) front.1 in
    let fits : (rva - s.address) + size ≤ length s.contents = omega (arith, front.0, ap length rest, length-drop (rva - s.address) s.contents, f.low, f.high) in
    let place-is : s.address + (rva - s.address) ≡ rva = omega (arith, f.low) in (
      omega (arith, offset-is, start, f.fact.0, f.low),
      bytes_at-found bytes rva size (omega (arith, fits, fact.0, f.low))
          ∙ ap Some (ap (λ a. take size (drop a bytes)) (sym place-is)
          ∙ (sym (window bytes s.address (length s.contents) (rva - s.address) size fits)
          ∙ (ap (λ t. take size (drop (rva - s.address) t)) fact.1
          ∙ (ap (take size) rest
          ∙ part-is)))),
    )
