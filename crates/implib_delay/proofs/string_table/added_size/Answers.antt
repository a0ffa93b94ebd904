use Rattle.std.proofs.Common.{sym, ◌∙◌}
use Rattle.implib_delay.proofs.Sizes.{adds_again, adds_first, adds_short}
use Rattle.implib_delay.proofs.string_table.added_size.Goals as goal

pub returns-then-name-le-LONGEST_IN_RECORD : goal.returns-then-name-le-LONGEST_IN_RECORD
returns-then-name-le-LONGEST_IN_RECORD c = adds_short c.args.name.now _ c.if-name-le-LONGEST_IN_RECORD.true

pub returns-then-is_among : goal.returns-then-is_among
returns-then-is_among c = adds_again c.args.name.now c.args.others.now (sym c.is_among.ensures ∙ c.if-is_among.true)

pub returns-else-is_among : goal.returns-else-is_among
returns-else-is_among c = adds_first c.args.name.now c.args.others.now c.if-name-le-LONGEST_IN_RECORD.false (sym c.is_among.ensures ∙ c.if-is_among.false)
