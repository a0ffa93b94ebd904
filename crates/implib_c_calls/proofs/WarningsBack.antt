-- Encoded warnings read back.
use Rattle.std.proofs.Common.{rules, ℕ, ◌≤◌, All, List, length}
use Rattle.implib_c_calls.specs.Encoding.{ReadsBack}
use Rattle.implib_c_calls.specs.Warnings.{Fits, Said, encoded_said, encoded_warnings, said_in, warnings_in}
use Rattle.implib_c_calls.proofs.ReadBack.{front_long, last_text, list_back_where, number_long, then_number}

said_back : (s : Said) (rest : List ℕ) → ReadsBack encoded_said said_in Fits s rest
unfolding said_in encoded_said
said_back s rest fit below = search (rules, then_number, last_text)

said_long : (s : Said) → 1 ≤ length (encoded_said s)
unfolding encoded_said
said_long s = front_long _ _ (number_long s.warned.kind)

pub warnings_back : (said : List Said) (rest : List ℕ) → ReadsBack encoded_warnings warnings_in (All Fits) said rest
unfolding warnings_in encoded_warnings
warnings_back said rest fit below = list_back_where encoded_said said_in Fits said_back said_long said rest fit below
