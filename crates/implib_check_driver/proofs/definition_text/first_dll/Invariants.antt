use Rattle.std.proofs.Common.{◌≡◌, drop, map}
use Rattle.implib_check_driver.specs.DefinitionText.{first_dll}
use Rattle.implib_read.specs.ClassViews.{member_read_view}
use Rattle.implib_check_driver.proofs.definition_text.first_dll.Given as goal

abbrev pub invariant-loop-member : goal.invariant-loop-member
invariant-loop-member l =
    first_dll (map member_read_view (drop l.member-index l.members)) ≡ first_dll (map member_read_view l.members)
