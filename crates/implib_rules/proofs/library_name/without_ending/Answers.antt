use Rattle.std.proofs.Common.{◌≡◌, ◌∙◌, arith, rules, take}
use Rattle.std.proofs.lemmas.Str.Pattern.{rfind_char}
use Rattle.implib_rules.proofs.LibraryNames.{ending_cut, ending_kept}
use Rattle.implib_rules.proofs.library_name.without_ending.Goals as goal

pub returns-in-Some : goal.returns-in-Some
returns-in-Some c =
    let found = rw c.in-Some.is at (rfind_char 0x2E c.args.name.now c.rfind.result c.rfind.ensures.cases (omega arith)) in
    let value : c.range.result.now ≡ take c.in-Some.end c.args.name.now = search rules in
    value ∙ ending_cut c.args.name.now c.in-Some.end found.0 found.1 found.2

pub returns-in-None : goal.returns-in-None
returns-in-None c =
    ending_kept c.args.name.now (rw c.in-None.is at (rfind_char 0x2E c.args.name.now c.rfind.result c.rfind.ensures.cases (omega arith)))
