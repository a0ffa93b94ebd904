use Rattle.std.proofs.Common.{length}
use denote.Text.{Utf8}
use denote.Shadow.{shadow}
use Rattle.implib.proofs.Text.Trivia.{PassesSpace}
use Rattle.implib.proofs.def.lexer.skip_trivia.Given as goal

abbrev pub invariant-loop-rest : goal.invariant-loop-rest
invariant-loop-rest l = record { is_text : shadow (Utf8 l.rest); passed : PassesSpace l.text l.rest }

abbrev pub decreases-loop-rest : goal.decreases-loop-rest
decreases-loop-rest l = length l.rest
