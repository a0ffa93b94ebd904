use Rattle.std.proofs.Common.{refl}
use Rattle.implib.proofs.Text.WordsCut.{version_cut, version_uncut}
use Rattle.implib.proofs.def.parser.numbers.version_of.Goals as goal

pub returns-in_err-u32_of-in-None : goal.returns-in_err-u32_of-in-None
returns-in_err-u32_of-in-None c =
    rw (c.from_residual.ensures, version_uncut c.args.text.now c.in-None.ensures.cases, ← c.in_err-u32_of-in-None.ensures) refl

pub returns-in_ok-u32_of-in-None : goal.returns-in_ok-u32_of-in-None
returns-in_ok-u32_of-in-None c =
    rw (version_uncut c.args.text.now c.in-None.ensures.cases, ← c.in_ok-u32_of-in-None.ensures) refl

pub returns-in_err-u32_of-in-Some : goal.returns-in_err-u32_of-in-Some
returns-in_err-u32_of-in-Some c =
    rw (c.from_residual-in_err-u32_of-in-Some.ensures, version_cut c.args.text.now (c.in-Some.major, c.in-Some.minor) c.in-Some.ensures.cases, ← c.in_err-u32_of-in-Some.ensures) refl

pub returns-in_err-u32_of-in-Some-2 : goal.returns-in_err-u32_of-in-Some-2
returns-in_err-u32_of-in-Some-2 c =
    rw (c.from_residual-in_err-u32_of-in-Some-2.ensures, version_cut c.args.text.now (c.in-Some.major, c.in-Some.minor) c.in-Some.ensures.cases, ← c.in_ok-u32_of-in-Some.ensures, ← c.in_err-u32_of-in-Some-2.ensures) refl

pub returns-in_ok-u32_of-in-Some-2 : goal.returns-in_ok-u32_of-in-Some-2
returns-in_ok-u32_of-in-Some-2 c =
    rw (version_cut c.args.text.now (c.in-Some.major, c.in-Some.minor) c.in-Some.ensures.cases, ← c.in_ok-u32_of-in-Some.ensures, ← c.in_ok-u32_of-in-Some-2.ensures) refl
