use Rattle.std.proofs.Common.{◌≡◌, map, take}
use Rattle.implib_dll.specs.Views.{exports_view}
use Rattle.implib_compare.specs.DllCheck.Imports.{judgements}
use Rattle.implib_read.specs.ClassViews.{member_read_view}
use Rattle.implib_compare.proofs.dll_check.import.judgements.Given as goal

abbrev pub invariant-loop-member : goal.invariant-loop-member
invariant-loop-member l =
    l.found.items ≡ judgements (exports_view l.exports) (map (λ one. one.items) l.names) (map member_read_view (take l.member-index l.members))
