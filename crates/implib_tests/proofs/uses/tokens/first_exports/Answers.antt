use Rattle.std.proofs.Common.{rules, ◌∙◌, ap, sym, subst, map, ◌++◌, refl}
use Rattle.implib.specs.Text.Token.{Lexed, token_view}
use Rattle.implib_tests.proofs.Using.TokensGiven.{given_and_left}
use Rattle.implib_tests.proofs.uses.tokens.first_exports.Goals as goal

-- The token found is the first: the loop has passed those before it.
pub returns-then-eq : goal.returns-then-eq
returns-then-eq c =
    let divided = sym c.into_iter-token-iterator.ensures.into_iter_gives ∙ given_and_left _ c.loop-token.yielded _ c.loop-token.yielded_by
    ∙ ap (λ left. map token_view c.loop-token.yielded ++ left) c.in-Some.ensures.steps in
    record {
      before = map token_view c.loop-token.yielded;
      token = token_view c.in-Some.token;
      after = c.next.new.self;
      lexed = subst (Lexed c.args.text.now) divided c.new-token-items.ensures;
      others_before = c.loop-token.invariant;
      kind = search rules;
      here = refl;
    }
