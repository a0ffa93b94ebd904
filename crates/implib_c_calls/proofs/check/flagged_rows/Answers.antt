use Rattle.std.proofs.Common.{◌∙◌, ap, map, sym}
use Rattle.implib_c_calls.specs.ImportsAnswer.{row_of_found, row_view}
use Rattle.implib_c_calls.proofs.Flagged.{flagged_more, flagged_none}
use Rattle.implib_c_calls.proofs.check.flagged_rows.Goals as goal

pub loop-i-init : goal.loop-i-init
loop-i-init c = ap (map row_view) c.new-rows.ensures.items ∙ sym (flagged_none c.args.flags.now)

pub loop-i-preserved : goal.loop-i-preserved
loop-i-preserved c =
    let more = flagged_more row_of_found c.args.flags.now c.args.members.now c.loop-i.i c.index-members-i.result c.loop-i-test.true c.index-members-i.is in
    cc (more, c.flag_at.ensures, c.loop-i.invariant, c.in_ok-push_flagged.ensures)
