use Rattle.std.proofs.Common.{◌≡◌, ◌∙◌, arith, refl, rules, take}
use Rattle.std.proofs.lemmas.Str.Pattern.{rfind_char}
use Rattle.implib_rules.proofs.LibraryNames.{cut_before, none_before}
use Rattle.implib_rules.proofs.linked.before_last_at_sign.Goals as goal

pub returns-in-Some : goal.returns-in-Some
returns-in-Some c =
    let found = rw c.in-Some.is at (rfind_char 0x40 c.args.word.now c.rfind.result c.rfind.ensures.cases (omega arith)) in
    let value : c.range.result.now ≡ take c.in-Some.end c.args.word.now = search rules in
    value ∙ cut_before 0x40 refl c.args.word.now c.in-Some.end found.0 found.1 found.2

pub returns-in-None : goal.returns-in-None
returns-in-None c =
    none_before 0x40 c.args.word.now (rw c.in-None.is at (rfind_char 0x40 c.args.word.now c.rfind.result c.rfind.ensures.cases (omega arith)))
