use Rattle.std.proofs.Common.{All, map}
use Rattle.implib.specs.Text.Token.{token_view}
use Rattle.implib_tests.specs.Using.Callers.{IsOther}
use Rattle.implib_tests.proofs.uses.tokens.first_exports.Given as goal

-- none of the tokens so far is `EXPORTS`
abbrev pub invariant-loop-token : goal.invariant-loop-token
invariant-loop-token l = All IsOther (map token_view l.yielded)
