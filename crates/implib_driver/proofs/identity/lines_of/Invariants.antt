use Rattle.std.proofs.Common.{◌≡◌, ◌++◌, map}
use Rattle.implib_driver.specs.Identity.{lines_of}
use Rattle.implib_driver.proofs.identity.lines_of.Given as goal

abbrev pub invariant-loop-name : goal.invariant-loop-name
invariant-loop-name l = l.lines.items ++ lines_of (map (λ k. k.now) l.name-iterator) ≡ lines_of (map (λ k. k.now) l.names.keys)
