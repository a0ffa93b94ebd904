-- What a lexer has given, and what it has left.
use Rattle.std.proofs.Common.{◌≡◌, ◌∙◌, ap, List, [], ◌∷◌, ◌++◌, map}
use Rattle.std.specs.Iterator.{Yields, YieldsFirstBy}
use Rattle.implib.specs.declared.def.lexer.Token.{Token}
use Rattle.implib.specs.Text.Token.{TokenView, token_view}

-- the tokens are those given and those left
pub given_and_left : (all : List TokenView) (given : List Token) (left : List TokenView) →
    Yields (YieldsFirstBy token_view (λ s. s)) all given left → all ≡ map token_view given ++ left
given_and_left all [] left steps = steps
given_and_left all (token ∷ given) left steps =
    steps.1 ∙ ap (λ tokens. token_view token ∷ tokens) (given_and_left steps.0 given left steps.2)
