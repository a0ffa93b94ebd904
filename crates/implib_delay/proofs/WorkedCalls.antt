-- The calls that were worked by hand.
use Rattle.std.proofs.Common.{◌≡◌, ◌≢◌, ℕ, refl, arith, ◌∙◌}
use Rattle.implib.specs.Worked.Digits.{bytes_of_digits}
use Rattle.implib_delay.specs.Processor.{with_value}
use Rattle.implib_delay.specs.Code.{tail_code}
use Rattle.implib_delay.specs.Decoding.{run_bytes}
use Rattle.implib_delay.specs.WorkedCode.{WorkedCode, WorkedLinkedCode}
use Rattle.implib_delay.specs.WorkedCalls.{WorkedCalls, WorkedPremises, WorkedAnswers}
use Rattle.implib_delay.proofs.Words.{value_elsewhere}

pub worked_code : WorkedCode
unfolding bytes_of_digits tail_code
worked_code = record { stub64 = refl; stub32 = refl; tail64 = refl; tail32 = refl }

pub worked_linked_code : WorkedLinkedCode
unfolding bytes_of_digits tail_code
worked_linked_code = record { program64_stub = refl; library64_stub = refl; program32_stub = refl; library32_stub = refl; program32_tail = refl }

pub worked_calls : WorkedCalls
unfolding run_bytes bytes_of_digits tail_code
worked_calls = record {
  helper64 = refl;
  helper32 = refl;
  function64 = refl;
  vectors64 = refl;
  function32 = refl;
  older_function = refl;
  older_vectors = refl;
  of_rbx = refl;
  without_descriptor = refl;
  without_edx = refl;
  unaligned = refl;
}

pub worked_premises : WorkedPremises
worked_premises = grind arith

-- a word that is neither the entry nor the one above the return address stays
stays : (words : ℕ → ℕ) (above entry address q : ℕ) → q ≢ entry → q ≢ above → with_value (with_value words above 0) entry address q ≡ words q
stays words above entry address q first second = value_elsewhere (with_value words above 0) entry address q first ∙ value_elsewhere words above 0 q second

pub worked_answers : WorkedAnswers
worked_answers = grind (arith, stays)
