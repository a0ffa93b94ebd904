use Rattle.std.proofs.Common.{◌≡◌, bytes_eq, drop, map}
use Rattle.std.specs.List.{list_any}
use Rattle.implib_compare.proofs.dll_check.import.is_among.Given as goal

-- the name is among those that are left where it is among all
abbrev pub invariant-loop-one : goal.invariant-loop-one
invariant-loop-one l =
    list_any (λ one. bytes_eq l.name one) (map (λ one. one.items) (drop l.one-index l.names)) ≡ list_any (λ one. bytes_eq l.name one) (map (λ one. one.items) l.names)
