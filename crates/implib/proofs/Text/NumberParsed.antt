-- What `parse` gives for an unsigned type is the number that the text is.
use Rattle.std.proofs.Common.{◌≡◌, ℕ, ◌+◌, ◌^◌, Bool, true, false, cond, ltb, List, length, Some, None, Result, Ok, Err, refl, sym, arith}
use Rattle.std.specs.Prelude.{◌&&◌, nat_le}
use Rattle.std.specs.Result.{result_ok}
use Rattle.std.specs.Str.{all_ascii_digits}
use Rattle.std.specs.Str.Parse.{ParsesUnsigned, digits_value, without_leading_plus}
use Rattle.std.proofs.lemmas.Bool.{and_parts, lt-ltb, ltb-true, le-leb, leb-true}
use Rattle.std.proofs.lemmas.Str.Parse.{IsNumeralModel, numerals_by_value, tells_all_ascii_digits}
use Rattle.implib.specs.Views.TokenReader.{number_of}

-- the texts of digits and their value, in the library's words
abbrev own : IsNumeralModel (λ ds. all_ascii_digits ds ≡ true) (digits_value 10)
own = numerals_by_value (λ ds. all_ascii_digits ds ≡ true) tells_all_ascii_digits

-- a test that cannot be true gives nothing
none_where : {A : Type 0} (test : Bool) (x : A) → (test ≡ true → ⊥) → cond test (Some x) None ≡ None
none_where true x never = absurd (never refl)
none_where false x never = refl

-- digits that are parsed are the number, and what is not parsed is none
pub number_parsed : {E : Type 0} (bits limit : ℕ) (value : List ℕ) (r : Result ℕ E) → ParsesUnsigned bits 10 value r → limit + 1 ≡ 2 ^ bits → result_ok r ≡ number_of value limit
unfolding number_of
number_parsed bits limit value (Ok n) h width =
    let digits = without_leading_plus value in
    let all : all_ascii_digits digits ≡ true = own.from digits h.0.0.1 in
    let some : ltb 0 (length digits) ≡ true = lt-ltb _ _ h.0.0.0 in
    let within : nat_le (digits_value 10 digits) limit ≡ true = le-leb _ _ (omega (arith, h.0.1, width)) in
    rw (all, some, within, h.1) refl
number_parsed bits limit value (Err e) h width =
    let digits = without_leading_plus value in
    sym (none_where (all_ascii_digits digits && (ltb 0 (length digits) && nat_le (digits_value 10 digits) limit)) (digits_value 10 digits) (λ passes.
    let first = and_parts (all_ascii_digits digits) (ltb 0 (length digits) && nat_le (digits_value 10 digits) limit) passes in
    let second = and_parts (ltb 0 (length digits)) (nat_le (digits_value 10 digits) limit) first.1 in
    h ((ltb-true _ _ second.0, own.to digits first.0), omega (arith, leb-true _ _ second.1, width))))
