use Rattle.std.proofs.Common.{rules, arith, ◌≡◌, ◌∙◌, List, Bool, ap, map, subst}
use Rattle.implib_archive.proofs.Appended.{pushes_as}
use Rattle.implib_compare.specs.Comparison.{differing, verdict}
use Rattle.implib_compare.specs.Facts.{both_tell}
use Rattle.implib_compare.specs.Working.{working_of}
use Rattle.implib_read.specs.ArchiveViews.{archive_view}
use Rattle.implib_read.specs.Classes.{MemberRead}
use Rattle.implib_read.specs.ClassViews.{member_read_view}
use Rattle.implib_c_calls.specs.Check.{flagged, verdict_number, working_number}
use Rattle.implib_c_calls.specs.Encoding.{encoded_number}
use Rattle.implib_c_calls.specs.Imports.{row_of}
use Rattle.implib_c_calls.specs.ImportsAnswer.{row_of_found, row_view}
use Rattle.implib_c_calls.proofs.Flagged.{flagged_as}
use Rattle.implib_c_calls.proofs.RowsPushed.{appended, told_appended}
use Rattle.implib_c_calls.proofs.check.encoding_of.Goals as goal

pub returns : goal.returns
returns c =
    let items = c.args.library.now.members.items in
    let members : List MemberRead = map member_read_view items in
    let meant : List MemberRead = map member_read_view c.args.meant.now in
    let left : List Bool = differing (both_tell members meant) members meant in
    let right : List Bool = differing (both_tell members meant) meant members in
    let seen = c.as_slice-members.ensures.value in
    let verdict_is : c.in_ok-found.found.verdict ≡ verdict members meant = grind (arith, map, c.in_ok-found.ensures.verdict) in
    let left_is : c.in_ok-found.found.left.items ≡ left = grind (arith, map, c.in_ok-found.ensures.left) in
    let right_is : c.in_ok-found.found.right.items ≡ right = grind (arith, map, c.in_ok-found.ensures.right) in
    let extra : map row_view c.in_ok-extra.extra.items ≡ flagged left (map row_of members)
    = subst (λ t. map row_view c.in_ok-extra.extra.items ≡ flagged c.deref.result.now (map row_of_found t)) seen c.in_ok-extra.ensures
    ∙ flagged_as row_of member_read_view c.deref.result.now left items (c.deref.ensures.value ∙ left_is) in
    let missing : map row_view c.in_ok-missing.missing.items ≡ flagged right (map row_of meant) = search (rules, map, flagged_as, c.in_ok-missing.ensures, c.deref-2.ensures.value) in
    told_appended (verdict members meant) (working_of (archive_view c.args.library.now.archive) members)
    (flagged left (map row_of members)) (flagged right (map row_of meant)) _ _ _ _ _ c.new-bytes.ensures.items
    (pushes_as (ap encoded_number (c.verdict_number.ensures ∙ ap verdict_number verdict_is)) c.in_ok-push_number.ensures)
    (pushes_as (ap encoded_number (c.working_number.ensures ∙ ap working_number c.in_ok-examined.ensures.working)) c.in_ok-push_number-2.ensures)
    (appended c.deref-3.result.now _ _ _ (ap (map row_view) c.deref-3.ensures.value ∙ extra) c.in_ok-push_rows.ensures.appended c.in_ok-push_rows.ensures.fit)
    (appended c.deref-4.result.now _ _ _ (ap (map row_view) c.deref-4.ensures.value ∙ missing) c.in_ok-push_rows-2.ensures.appended c.in_ok-push_rows-2.ensures.fit)
