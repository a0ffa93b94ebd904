-- What exports ask for as they are linked.
use Rattle.std.proofs.Common.{arith, ◌≡◌, ℕ, Bool, List, bytes_eq, if◌then◌else◌}
use Rattle.std.specs.Prelude.{◌&&◌, not, None, Some, unwrap_or}
use Rattle.std.proofs.lemmas.Slice.Eq.{bytes_eq-Decides}
use Rattle.implib.specs.Ascii.{begins_with, underscore, without_first}
use Rattle.implib.specs.Import.{at_sign, holds}
use Rattle.implib.specs.Machine.{has_leading_underscore}
use Rattle.implib_rules.specs.Linked.{AsksAsLinked, asked_of, symbol_linked, word_of}

asked_given : (b : Bool) (symbol asked : List ℕ)
    → unwrap_or (if not b && bytes_eq symbol asked then None else Some asked) (if b && begins_with underscore symbol && not (holds at_sign symbol) then without_first symbol else symbol) ≡ asked
asked_given b symbol asked = grind (arith, bytes_eq-Decides)

-- a name that is not given is asked for all the same
pub asks_as_linked : AsksAsLinked
asks_as_linked machine naming e =
    asked_given (has_leading_underscore machine) (symbol_linked machine naming e) (asked_of machine naming (word_of e) e.alias_target)
