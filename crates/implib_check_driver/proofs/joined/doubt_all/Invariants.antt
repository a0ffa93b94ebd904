use Rattle.std.proofs.Common.{◌≡◌, ◌++◌, drop, map}
use Rattle.std.specs.String.{string_bytes}
use Rattle.implib_read.specs.ClassViews.{member_read_view}
use Rattle.implib_check_driver.specs.Together.{doubts_of_all}
use Rattle.implib_check_driver.proofs.joined.doubt_all.Given as goal

-- those so far, and those of the libraries that are left
abbrev pub invariant-loop-i : goal.invariant-loop-i
invariant-loop-i l =
    l.err.items ++ doubts_of_all (map string_bytes (drop l.i l.paths)) (map (λ library. map member_read_view library.members.items) (drop l.i l.libraries))
    ≡ l.fn.err.items ++ doubts_of_all (map string_bytes l.paths) (map (λ library. map member_read_view library.members.items) l.libraries)
