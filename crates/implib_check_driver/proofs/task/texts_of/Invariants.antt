use Rattle.std.proofs.Common.{◌≡◌, ◌++◌, drop, map}
use Rattle.std.specs.String.{string_bytes}
use Rattle.implib_check_driver.proofs.task.texts_of.Given as goal

-- the texts so far, and the values that are left, are all values
abbrev pub invariant-loop-value : goal.invariant-loop-value
invariant-loop-value l =
    map string_bytes l.texts.items ++ map (λ value. value.now) (drop l.value-index l.values) ≡ map (λ value. value.now) l.values
