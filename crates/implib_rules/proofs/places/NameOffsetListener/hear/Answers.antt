use Rattle.std.proofs.Common.{◌≡◌, ◌-◌, ℕ, [], ◌∷◌, ◌++◌, Option, None, Some, arith, rules, subst, sym}
use Rattle.implib.specs.declared.def.listener.Role.{Role}
use Rattle.implib.specs.declared.def.listener.Role.TheVariants.{Name}
use Rattle.implib.specs.Text.Heard.{names_of}
use Rattle.implib.specs.Text.Token.{token_view}
use Rattle.implib_rules.specs.Heard.{IsOffsetOf}
use Rattle.implib_rules.proofs.PlacesHeard.{name_found, name_kept, name_passed, other_passed}
use Rattle.implib_rules.proofs.places.NameOffsetListener.hear.Goals as goal

pub returns-then-self-eq0 : goal.returns-then-self-eq0
returns-then-self-eq0 c = λ start heard h.
    let name = c.args.self.now in
    let token = token_view c.args.token in
    let none : name.offset ≡ None = search rules in
    subst (λ (role : Role). IsOffsetOf start.left name.left (Some c.args.token.at) (names_of (heard ++ (record { role = role; token = token }) ∷ []))) (sym c.in-Name.is)
    (name_found start.left heard token name.left (omega (arith, c.if-self-eq0.true)) (subst (λ (found : Option ℕ). IsOffsetOf start.left name.left found (names_of heard)) none h))

pub returns-else-self-eq0 : goal.returns-else-self-eq0
returns-else-self-eq0 c = λ start heard h.
    let name = c.args.self.now in
    let token = token_view c.args.token in
    let none : name.offset ≡ None = search rules in
    subst (λ (role : Role). IsOffsetOf start.left (name.left - 1) name.offset (names_of (heard ++ (record { role = role; token = token }) ∷ []))) (sym c.in-Name.is)
    (subst (λ (found : Option ℕ). IsOffsetOf start.left (name.left - 1) found (names_of (heard ++ (record { role = Name; token = token }) ∷ []))) (sym none)
    (name_passed start.left heard token name.left (name.left - 1) (omega (arith, c.if-self-eq0.false)) (subst (λ (found : Option ℕ). IsOffsetOf start.left name.left found (names_of heard)) none h)))

pub returns-else-is_none : goal.returns-else-is_none
returns-else-is_none c = λ start heard h. grind (arith, name_kept)

pub returns-in-Other : goal.returns-in-Other
returns-in-Other c = λ start heard h. grind (arith, other_passed)
