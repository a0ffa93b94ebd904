use Rattle.std.proofs.Common.{◌≡◌, ◌++◌, map, take}
use Rattle.std.specs.List.{flat_map}
use Rattle.implib_dll.specs.Views.{ask_view, exports_view}
use Rattle.implib_check_driver.specs.Starting.{lost_of, unmet_lines, unmet_status}
use Rattle.implib_check_driver.proofs.starting.tell_asks.Given as goal

abbrev pub invariant-loop-ask : goal.invariant-loop-ask
invariant-loop-ask l =
    (l.status ≡ unmet_status (flat_map (lost_of (exports_view l.exports) l.path) (map ask_view (take l.ask-index l.ask-items))))
    × (l.out.items ≡ l.fn.out.items ++ unmet_lines l.form.is_json l.importer.path.now l.importer.imported.now.dll.now
    (flat_map (lost_of (exports_view l.exports) l.path) (map ask_view (take l.ask-index l.ask-items))))
