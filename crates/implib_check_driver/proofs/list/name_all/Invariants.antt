use Rattle.std.proofs.Common.{◌≡◌, ◌++◌, map}
use Rattle.std.specs.List.{flat_map}
use Rattle.implib_check_driver.specs.Listing.{name_line}
use Rattle.implib_check_driver.proofs.list.name_all.Given as goal

abbrev pub invariant-loop-name : goal.invariant-loop-name
invariant-loop-name l = l.out.items ≡ l.fn.out.items ++ flat_map name_line (map (λ k. k.now.now) l.yielded)
