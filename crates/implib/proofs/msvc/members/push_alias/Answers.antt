use Rattle.std.proofs.lemmas.Result.{err_from_is_err_and}
use Rattle.implib.specs.Definition.{export_view}
use Rattle.implib.proofs.Members.MemberLists.{alias_of_kept, alias_refused}
use Rattle.implib.proofs.msvc.members.push_alias.Goals as goal

pub returns-in_err-test_short_import-clause-pushed : goal.returns-in_err-test_short_import-clause-pushed
returns-in_err-test_short_import-clause-pushed c =
    let p = err_from_is_err_and c.from_residual.result c.from_residual.ensures.1 in
    rw (p.1, p.2)
    (alias_refused c.args.machine (record { linked = c.args.library.now; text = c.args.dll.now }) (export_view c.args.export.now) _ _
    c.in_err-test_short_import.field-0.0 c.in_err-test_short_import.ensures.too_long)

pub returns-clause-pushed : goal.returns-clause-pushed
returns-clause-pushed c =
    alias_of_kept c.args.machine (record { linked = c.args.library.now; text = c.args.dll.now }) (export_view c.args.export.now) _ _ _
    (c.in_ok-test_short_import.ensures.fits c.args.machine c.args.library.now) c.push_kept.ensures
