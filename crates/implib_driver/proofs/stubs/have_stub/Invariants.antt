use Rattle.std.proofs.Common.{◌≡◌, drop}
use Rattle.std.specs.List.{list_any}
use Rattle.implib_driver.specs.Stubs.{has_stub}
use Rattle.implib_driver.proofs.stubs.have_stub.Given as goal

-- no member so far has one
abbrev pub invariant-loop-index : goal.invariant-loop-index
invariant-loop-index g l = list_any has_stub (g.S.Members.members l.source) ≡ list_any has_stub (drop l.index (g.S.Members.members l.source))
