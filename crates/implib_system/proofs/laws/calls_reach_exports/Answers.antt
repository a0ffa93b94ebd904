use Rattle.std.proofs.Common.{◌++◌, ◌+◌, subst}
use Rattle.implib.specs.Members.ImportTables.{thunk_width}
use Rattle.implib_link.specs.Gnu.Fields.{DirectCallArrives}
use Rattle.implib_system.specs.System.{given}
use Rattle.implib_system.proofs.System.{given_is, length_given}
use Rattle.implib_system.proofs.laws.calls_reach_exports.Goals as goal

pub returns : goal.returns
returns l machine image_base t codes targets memory n dlls count written tables steady in_memory reads name place r can d s held stub c offset of defines call near =
    let width = thunk_width machine in
    subst (λ bytes. DirectCallArrives machine image_base (written ++ memory) (c.position + offset) bytes)
    (given_is n width dlls r.table.dll r.entry.ask place r.reached)
    (l.stubs_of_any_tables_jump.ensures.calls machine image_base t codes targets memory (given n width dlls) tables steady in_memory count written
    (λ dll ask. length_given n width dlls dll ask) reads r.i r.j r.table r.entry name r.at r.of r.named can d s held stub c offset of defines call near)
