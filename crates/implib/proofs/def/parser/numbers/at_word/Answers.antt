use Rattle.std.proofs.Common.{sym, ◌∙◌, refl}
use Rattle.implib.proofs.Text.WordsCut.{lone_stripped, more_stripped}
use Rattle.implib.proofs.def.parser.numbers.at_word.Goals as goal

pub returns-then-is_empty : goal.returns-then-is_empty
returns-then-is_empty c =
    sym (lone_stripped c.args.word.now c.in-Some.digits c.in-Some.ensures.cases (sym c.is_empty.ensures ∙ c.if-is_empty.true))

pub returns-in-Some-u16_of : goal.returns-in-Some-u16_of
returns-in-Some-u16_of c =
    rw (more_stripped c.args.word.now c.in-Some.digits c.in-Some.ensures.cases (sym c.is_empty.ensures ∙ c.if-is_empty.false), ← c.in-Some-u16_of.ensures) refl

pub returns-in-None : goal.returns-in-None
returns-in-None c =
    rw (more_stripped c.args.word.now c.in-Some.digits c.in-Some.ensures.cases (sym c.is_empty.ensures ∙ c.if-is_empty.false), ← c.in-None.ensures) refl
