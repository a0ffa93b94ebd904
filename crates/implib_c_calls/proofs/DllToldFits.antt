-- The numbers of what members come to have 64 bits.
use Rattle.std.proofs.Common.{◌<◌, ◌^◌, All, List, [], ◌∷◌, arith, map}
use Rattle.std.proofs.lemmas.List.Elements.{All-cons, All-nil}
use Rattle.implib_compare.specs.declared.dll_check.import.Judgement.{Judgement}
use Rattle.implib_compare.specs.declared.dll_check.import.Judgement.TheVariants.{Lost}
use Rattle.implib_compare.specs.declared.dll_check.import.Loss.TheVariants.{OtherDll}
use Rattle.implib_c_calls.specs.DllCheck.{judgement_number}

number_fits : (judgement : Judgement) → judgement_number judgement < 2 ^ 64
number_fits (Lost OtherDll) = omega arith
number_fits _ = omega arith

pub numbers_fit : (found : List Judgement) → All (λ n. n < 2 ^ 64) (map judgement_number found)
numbers_fit [] = All-nil (λ n. n < 2 ^ 64)
numbers_fit (judgement ∷ found) =
    All-cons (λ n. n < 2 ^ 64) (judgement_number judgement) (map judgement_number found) (number_fits judgement) (numbers_fit found)
