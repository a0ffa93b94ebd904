use Rattle.std.proofs.Common.{◌≡◌, drop, map, take}
use Rattle.std.specs.String.{string_bytes}
use Rattle.implib_read.specs.ClassViews.{member_read_view}
use Rattle.implib_check_driver.specs.Together.{first_none, members_of_all}
use Rattle.implib_check_driver.proofs.joined.all_libraries.Given as goal

-- the libraries so far are those of the first files, of which none is no library
abbrev pub invariant-loop-i : goal.invariant-loop-i
invariant-loop-i l =
    (map (λ library. map member_read_view library.members.items) l.libraries.items
    ≡ members_of_all (map (λ bytes. bytes.items) (take l.i l.files)))
    × (first_none (map string_bytes l.paths) (map (λ bytes. bytes.items) l.files)
    ≡ first_none (map string_bytes (drop l.i l.paths)) (map (λ bytes. bytes.items) (drop l.i l.files)))
