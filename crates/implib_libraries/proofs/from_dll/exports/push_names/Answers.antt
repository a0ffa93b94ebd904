use Rattle.std.proofs.Common.{map, sym, arith, append-nil, append_assoc}
use Rattle.implib.specs.Definition.{export_view}
use Rattle.std.proofs.Math.ListN.{take}
use Rattle.implib_libraries.specs.FromDll.Definition.{named_from}
use Rattle.implib_libraries.proofs.FromDll.Parts.{named_from-more, refuses_name}
use Rattle.implib_libraries.proofs.from_dll.exports.push_names.Goals as goal

pub loop-position-init : goal.loop-position-init
unfolding named_from
loop-position-init c = sym (append-nil (map export_view c.args.list.now.items))

pub returns-in-Err-clause-refused : goal.returns-in-Err-clause-refused
returns-in-Err-clause-refused c = grind (arith, refuses_name, c.loop-position-test.true, c.len-position-end.ensures, c.index-name.ensures, c.target_at-target.ensures, c.in-Err.ensures.refused)

pub loop-position-preserved : goal.loop-position-preserved
loop-position-preserved c = grind (arith, take, append_assoc, named_from-more, c.in_default.ensures.said, c.target_at-target.ensures, c.loop-position.invariant, c.loop-position-test.true, c.len-position-end.ensures, c.index-name.ensures)
