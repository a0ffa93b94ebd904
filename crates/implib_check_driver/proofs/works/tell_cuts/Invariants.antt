use Rattle.std.proofs.Common.{◌≡◌, ◌++◌, map, take}
use Rattle.implib_read.specs.CuttingViews.{cut_apart_view}
use Rattle.implib_check_driver.specs.Json.{CutApart}
use Rattle.implib_check_driver.specs.Listing.{fault_lines}
use Rattle.implib_check_driver.proofs.works.tell_cuts.Given as goal

abbrev pub invariant-loop-apart : goal.invariant-loop-apart
invariant-loop-apart l =
    l.out.items ≡ l.fn.out.items ++ fault_lines l.form.is_json l.path (map (λ c. CutApart c.0 c.1) (map cut_apart_view (take l.apart-index l.cut)))
