use Rattle.std.proofs.Common.{◌++◌, subst}
use Rattle.implib.specs.Members.ImportTables.{thunk_width}
use Rattle.implib_link.specs.Gnu.Fields.{AllLead}
use Rattle.implib_system.specs.System.{given}
use Rattle.implib_system.proofs.System.{given_is, length_given}
use Rattle.implib_system.proofs.laws.fields_lead_to_exports.Goals as goal

pub returns : goal.returns
returns c machine image_base t codes targets memory n dlls count written tables steady in_memory reads name place r can =
    let width = thunk_width machine in
    subst (λ bytes. AllLead machine image_base t.linked codes (written ++ memory) name bytes)
    (given_is n width dlls r.table.dll r.entry.ask place r.reached)
    (c.fields_lead_to_any_tables.ensures.leads machine image_base t codes targets memory (given n width dlls) tables steady in_memory count written
    (λ dll ask. length_given n width dlls dll ask) reads r.i r.j r.table r.entry name r.at r.of r.named can)
