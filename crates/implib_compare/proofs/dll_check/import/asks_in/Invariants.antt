use Rattle.std.proofs.Common.{◌≡◌, ◌++◌, drop, map}
use Rattle.implib_compare.specs.DllCheck.Imports.{asks_in}
use Rattle.implib_compare.specs.DllCheck.Verdict.{ask_view}
use Rattle.implib_read.specs.ClassViews.{member_read_view}
use Rattle.implib_compare.proofs.dll_check.import.asks_in.Given as goal

-- what is kept, and what the members ask that are left, are what all ask
abbrev pub invariant-loop-member : goal.invariant-loop-member
invariant-loop-member l =
    let names = map (λ one. one.items) l.names in
    map ask_view l.asks.items ++ asks_in names (map member_read_view (drop l.member-index l.members)) ≡ asks_in names (map member_read_view l.members)
