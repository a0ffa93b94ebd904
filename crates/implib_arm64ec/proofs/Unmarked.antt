-- A name loses the mark that it was given.
use Rattle.std.proofs.Common.{◌≡◌, ℕ, suc, ◌+◌, ◌<◌, ◌≤◌, Bool, true, false, List, [], ◌∷◌, ◌++◌, Option, None, Some, Result, Ok, Err, drop, eqb, get_or, length, take, refl, sym, ap, ◌∙◌, append_assoc, length-append, arith}
use Rattle.std.specs.Prelude.{if◌then◌else◌, option_map}
use Rattle.std.specs.List.{starts_with}
use Rattle.std.proofs.lemmas.Bool.Decides.{nat_tests}
use Rattle.std.proofs.lemmas.List.{drop_at, drop_more, length-take-le, take-append-drop, take_at, take_more}
use Rattle.implib.specs.Ascii.{begins_with, question_mark, without_first}
use Rattle.implib.specs.Import.{is_empty_text}
use Rattle.implib_arm64ec.specs.Marks.{inner_mark, mark, mark_position, marked_at, marked_behind, marked_inside, number_sign, unmark, without_mark_at}
use Rattle.implib_arm64ec.specs.Reading.{qualified_name, read}
use Rattle.implib_arm64ec.specs.Unmarked.{MarksAreUndone}
use Rattle.implib_arm64ec.specs.declared.reading.Reading.TheVariants.{Ends}
use Rattle.implib_arm64ec.proofs.Marks.{behind_first}
use Rattle.implib_arm64ec.proofs.Read.{qualified_name_end}

-- The first mark of a name that has none is the one that is put behind an `@`.

-- no mark goes over an `@`
same_start : (xs t u : List ℕ) → starts_with eqb (xs ++ 0x40 ∷ t) inner_mark ≡ starts_with eqb (xs ++ 0x40 ∷ u) inner_mark
same_start [] t u = refl
same_start (a ∷ []) t u = refl
same_start (a ∷ b ∷ []) t u = refl
same_start (a ∷ b ∷ c ∷ xs) t u = refl

none_parts : (here : Bool) (found : Option ℕ) → (if here then Some 0 else option_map suc found) ≡ None → (here ≡ false) × (found ≡ None)
none_parts true found e = absurd (cc)
none_parts false None e = (refl, refl)
none_parts false (Some place) e = absurd (cc)

first_mark : (xs rest : List ℕ) → mark_position (xs ++ 0x40 ∷ rest) ≡ None → mark_position (xs ++ 0x40 ∷ (inner_mark ++ rest)) ≡ Some (length xs + 1)
first_mark [] rest none = refl
first_mark (x ∷ xs) rest none =
    let text = xs ++ 0x40 ∷ rest in
    let marked = xs ++ 0x40 ∷ (inner_mark ++ rest) in
    let parts = none_parts (starts_with eqb (x ∷ text) inner_mark) (mark_position text) none in
    let further : suc (length xs + 1) ≡ length (x ∷ xs) + 1 = omega arith in
    ap (λ b. if b then Some 0 else option_map suc (mark_position marked)) (same_start (x ∷ xs) (inner_mark ++ rest) rest ∙ parts.0)
    ∙ (ap (option_map suc) (first_mark xs rest parts.1) ∙ ap (λ n. Some n) further)

-- Names of C++.

module _ (name : List ℕ) (n : ℕ) (within : n + 1 ≤ length name) (sign : get_or name n 0 ≡ 0x40) where
  before : take (n + 1) name ≡ take n name ++ 0x40 ∷ []
  before = let some : n < length name = omega (arith, within) in take_more name n 0 some ∙ ap (λ b. take n name ++ b ∷ []) sign

  whole : take n name ++ 0x40 ∷ drop (n + 1) name ≡ name
  whole =
      sym (append_assoc (take n name) (0x40 ∷ []) (drop (n + 1) name)) ∙ (ap (λ t. t ++ drop (n + 1) name) (sym before) ∙ take-append-drop (n + 1) name)

  marked_whole : marked_at (n + 1) name ≡ take n name ++ 0x40 ∷ (inner_mark ++ drop (n + 1) name)
  marked_whole =
      ap (λ t. (t ++ inner_mark) ++ drop (n + 1) name) before
      ∙ (append_assoc (take n name ++ 0x40 ∷ []) inner_mark (drop (n + 1) name) ∙ append_assoc (take n name) (0x40 ∷ []) (inner_mark ++ drop (n + 1) name))

  position : mark_position name ≡ None → mark_position (marked_at (n + 1) name) ≡ Some (n + 1)
  position none =
      let long : length (take n name) ≡ n = length-take-le n name (omega (arith, within)) in
      ap mark_position marked_whole ∙ (first_mark (take n name) (drop (n + 1) name) (ap mark_position whole ∙ none) ∙ ap (λ k. Some (k + 1)) long)

  first_byte : (b : ℕ) → begins_with b (marked_at (n + 1) name) ≡ begins_with b name
  first_byte b = ap (begins_with b) marked_whole ∙ (by_first (take n name) ∙ ap (begins_with b) whole)
    where
      by_first : (xs : List ℕ) → begins_with b (xs ++ 0x40 ∷ (inner_mark ++ drop (n + 1) name)) ≡ begins_with b (xs ++ 0x40 ∷ drop (n + 1) name)
      by_first [] = refl
      by_first (x ∷ xs) = refl

  without : n + 1 < length name → without_mark_at (marked_at (n + 1) name) (Some (n + 1)) ≡ Some name
  without more =
      let head = take (n + 1) name in
      let rest = drop (n + 1) name in
      let long : length head ≡ n + 1 = length-take-le (n + 1) name within in
      let front : take (n + 1) (marked_at (n + 1) name) ≡ head = ap (take (n + 1)) (append_assoc head inner_mark rest) ∙ take_at head (inner_mark ++ rest) (n + 1) long in
      let behind : drop (n + 1 + 3) (marked_at (n + 1) name) ≡ rest = drop_at (head ++ inner_mark) rest (n + 1 + 3) (omega (arith, length-append head inner_mark, long)) in
      let some : is_empty_text rest ≡ false = ap is_empty_text (drop_more name (n + 1) 0 more) in
      ap (λ t. if is_empty_text t then None else Some (take (n + 1) (marked_at (n + 1) name) ++ t)) behind
      ∙ (ap (λ b. if b then None else Some (take (n + 1) (marked_at (n + 1) name) ++ rest)) some
      ∙ (ap (λ t. Some (t ++ rest)) front ∙ ap (λ t. Some t) (take-append-drop (n + 1) name)))

-- `?` is not `#`
question : (name : List ℕ) → begins_with question_mark name ≡ true → begins_with number_sign name ≡ false
question [] e = absurd (cc)
question (b ∷ name) e = grind (arith, nat_tests, e)

not_empty : (name : List ℕ) → begins_with question_mark name ≡ true → is_empty_text name ≡ false
not_empty [] e = absurd (cc)
not_empty (b ∷ name) e = refl

ok_same : (a b : List ℕ) (r : Result (List ℕ) ℕ) → r ≡ Ok a → r ≡ Ok b → a ≡ b
ok_same a b r x y = let e = sym x ∙ y in cc

pub marks_are_undone : MarksAreUndone
marks_are_undone = record {
  plain = plain_undone;
  cplusplus = cplusplus_undone;
}
  where
    plain_undone : (name marked : List ℕ) → begins_with number_sign name ≡ false → begins_with question_mark name ≡ false → mark name ≡ Ok marked → unmark marked ≡ Some name
    plain_undone [] marked a b e = absurd (cc)
    plain_undone (x ∷ name) marked a b e =
        let is : mark (x ∷ name) ≡ Ok (number_sign ∷ x ∷ name) =
        ap (λ t. if t then Ok (x ∷ name) else if begins_with question_mark (x ∷ name) then marked_inside (x ∷ name) (mark_position (x ∷ name)) else Ok (number_sign ∷ x ∷ name)) a
        ∙ ap (λ t. if t then marked_inside (x ∷ name) (mark_position (x ∷ name)) else Ok (number_sign ∷ x ∷ name)) b in
        ap unmark (sym (ok_same (number_sign ∷ x ∷ name) marked (mark (x ∷ name)) is e))

    cplusplus_undone : (name marked : List ℕ) (place : ℕ) → begins_with question_mark name ≡ true → mark_position name ≡ None → read qualified_name (without_first name) ≡ Ends place
        → place + 1 < length name → mark name ≡ Ok marked → unmark marked ≡ Some name
    cplusplus_undone name marked place of none ends more e =
        let inside = behind_first name place (qualified_name_end (without_first name) place ends) in
        let n = marked_at (place + 1) name in
        let is : mark name ≡ Ok n =
        ap (λ t. if t then Err 0 else if begins_with number_sign name then Ok name else if begins_with question_mark name then marked_inside name (mark_position name) else Ok (number_sign ∷ name)) (not_empty name of)
        ∙ (ap (λ t. if t then Ok name else if begins_with question_mark name then marked_inside name (mark_position name) else Ok (number_sign ∷ name)) (question name of)
        ∙ (ap (λ t. if t then marked_inside name (mark_position name) else Ok (number_sign ∷ name)) of
        ∙ (ap (marked_inside name) none ∙ ap (marked_behind name) ends))) in
        ap unmark (sym (ok_same n marked (mark name) is e))
        ∙ (ap (λ t. if t then Some (without_first n) else if begins_with question_mark n then without_mark_at n (mark_position n) else None) (first_byte name place inside.within inside.sign number_sign ∙ question name of)
        ∙ (ap (λ t. if t then without_mark_at n (mark_position n) else None) (first_byte name place inside.within inside.sign question_mark ∙ of)
        ∙ (ap (without_mark_at n) (position name place inside.within inside.sign none) ∙ without name place inside.within inside.sign more)))
