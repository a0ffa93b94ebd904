use Rattle.std.proofs.Common.{map}
use Rattle.implib_compare.specs.DllCheck.Folders.{folder_view}
use Rattle.implib_check_driver.proofs.beside.through_folders.Goals as goal

pub returns-clause-held : goal.returns-clause-held
returns-clause-held g c = λ file e known is.
    c.in_ok-answer.ensures file (map folder_view c.args.folders.now) e is (rw c.deref-2.ensures.value (c.in_ok-loaded.ensures.loaded file known))
