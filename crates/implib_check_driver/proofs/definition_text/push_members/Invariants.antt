use Rattle.std.proofs.Common.{◌≡◌, ◌++◌, [], drop, map}
use Rattle.implib_check_driver.specs.DefinitionText.{members_text}
use Rattle.implib_read.specs.ClassViews.{member_read_view}
use Rattle.implib_rules.specs.Linked.{naming_view}
use Rattle.implib_check_driver.proofs.definition_text.push_members.Given as goal

-- what is written, and the text of what is left, are the text of all
abbrev pub invariant-loop-member : goal.invariant-loop-member
invariant-loop-member l =
    l.text.items ++ members_text l.hints l.machine (naming_view l.naming) l.before (map member_read_view (drop l.member-index l.members))
    ≡ l.fn.text.items ++ members_text l.hints l.machine (naming_view l.naming) [] (map member_read_view l.members)
