use Rattle.std.proofs.Common.{◌++◌, subst}
use Rattle.implib.specs.Members.ImportTables.{thunk_width}
use Rattle.implib_link.specs.Gnu.Writing.{HoldsAt}
use Rattle.implib_system.specs.System.{given}
use Rattle.implib_system.proofs.System.{given_is, length_given}
use Rattle.implib_system.proofs.laws.entries_hold_exports.Goals as goal

pub returns : goal.returns
returns c machine t n dlls written tables writes name place r =
    let width = thunk_width machine in
    let loaded = c.any_tables_load.ensures.loads machine t (given n width dlls) written tables (λ dll ask. length_given n width dlls dll ask) writes in
    subst (λ bytes. HoldsAt (written ++ t.image) t.linked name bytes)
    (given_is n width dlls r.table.dll r.entry.ask place r.reached)
    (loaded.entries r.i r.j r.table r.entry name r.at r.of r.named)
