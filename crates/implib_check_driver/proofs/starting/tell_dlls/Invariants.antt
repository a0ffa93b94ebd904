use Rattle.std.proofs.Common.{◌≡◌, ◌++◌, ℕ, List, drop, fold, map, max, take}
use Rattle.implib_dll.specs.Views.{imported_view}
use Rattle.implib_compare.specs.DllCheck.Folders.{AreKnown, folder_view}
use Rattle.implib_check_driver.specs.Starting.{dlls_lines, dlls_status, unmet_of, unmet_status}
use Rattle.implib_check_driver.proofs.starting.tell_dlls.Given as goal

-- the status so far, with the DLLs that are left, is that of all, and the lines so far are of the first ones
abbrev pub invariant-loop-imported : goal.invariant-loop-imported
invariant-loop-imported g l = (file : List ℕ → List ℕ) → AreKnown (g.S.Shelf.seen l.shelf) file →
    (fold (λ status i. max status (unmet_status (unmet_of file (map folder_view l.folders) l.imports.machine i))) l.status
    (map imported_view (drop l.imported-index l.imports.dlls.items))
    ≡ dlls_status file (map folder_view l.folders) l.imports.machine (map imported_view l.imports.dlls.items))
    × (l.out.items ≡ l.fn.out.items ++ dlls_lines l.form.is_json l.path file (map folder_view l.folders) l.imports.machine
    (map imported_view (take l.imported-index l.imports.dlls.items)))
