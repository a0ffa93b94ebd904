use Rattle.std.proofs.Common.{◌-◌, ◌≤◌, length, map}
use Rattle.implib_dll.specs.Lookup.{searched}
use Rattle.implib_dll.specs.Views.{name_view}
use Rattle.implib_dll.proofs.Searching.{Searches}
use Rattle.implib_dll.proofs.lookup.searched.Given as goal

abbrev pub invariant-loop-low : goal.invariant-loop-low
invariant-loop-low l =
    Searches (map name_view l.names) l.wanted l.low l.high (searched (map name_view l.names) l.wanted (length l.names) 0 (length l.names))
    × (l.high ≤ length l.names)

abbrev pub decreases-loop-low : goal.decreases-loop-low
decreases-loop-low l = l.high - l.low
