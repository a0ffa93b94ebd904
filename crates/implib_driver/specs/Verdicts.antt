-- What is said of the answer to a call for a library, and with which exit status (this project's
-- own).
use Rattle.std.specs.Prelude.{ℕ, List, [], ◌∷◌, Option, None, Some, Ok, Err, codes}
use Rattle.implib_driver.specs.Placing.{Answer}
use Rattle.implib_driver.specs.Reports.{Complains, Line, OfWriting, Refuses}
use Rattle.implib_driver.specs.Request.{RequestView}
use Rattle.implib_rules.specs.declared.library.LibraryError.TheVariants.{Refused, Writing}
use Rattle.implib_rules.specs.Library.{status_of}

-- the path that the library was to go to
abbrev pub output_or_none : Option (List ℕ) → List ℕ
output_or_none None = codes "-"
output_or_none (Some path) = path

-- what is said of an answer
abbrev pub verdict : RequestView → Answer → List Line
verdict request (Ok made) = []
verdict request (Err (Refused refusal)) = Refuses request.definition refusal ∷ []
verdict request (Err (Writing cause)) = Complains (output_or_none request.output) OfWriting ∷ []

-- the exit status of an answer
abbrev pub answer_status : Answer → ℕ
answer_status (Ok made) = 0
answer_status (Err (Refused refusal)) = status_of refusal
answer_status (Err (Writing cause)) = 3
