use Rattle.std.proofs.Common.{length, map}
use Rattle.std.specs.String.{string_bytes}
use Rattle.implib_options.specs.Given.{given_view}
use Rattle.implib_options.specs.Words.{Leads}
use Rattle.implib_options.proofs.words.read.Given as goal

abbrev pub invariant-loop-left : goal.invariant-loop-left
invariant-loop-left l = Leads l.of (map string_bytes l.words) (map given_view l.given.items) (map string_bytes l.left)

abbrev pub decreases-loop-left : goal.decreases-loop-left
decreases-loop-left l = length l.left
