use Rattle.std.proofs.Common.{◌≡◌, ◌≤◌, ◌+◌, ℕ, List, [], map, drop, length, ap, sym, ◌∙◌, arith, min}
use Rattle.std.specs.List.{filter, sum_by}
use Rattle.std.specs.Prelude.{not}
use Rattle.std.proofs.Math.Nat.{min-eq_right}
use Rattle.std.proofs.Math.ListN.{drop_of_length-le}
use Rattle.implib.specs.declared.def.definition.ShortExport.{ShortExport}
use Rattle.implib.specs.Definition.{definition_view, export_view}
use Rattle.implib.specs.Import.{public_exports}
use Rattle.implib.specs.Members.GnuMembers.{gnu_member_count}
use Rattle.implib.proofs.gnu.members.member_count.Goals as goal

pub returns : goal.returns
returns c =
    let items = c.args.def.now.exports.items in
    let all : ℕ = sum_by gnu_member_count (public_exports (definition_view c.args.def.now)) in
    let ended : length items ≤ c.loop-export.export-index = rw c.deref-export-items.ensures.value at c.loop-export-test.false in
    let none : drop c.loop-export.export-index items ≡ [] = drop_of_length-le items ended in
    let left : min 0xFFFF_FFFF_FFFF_FFFF (c.loop-export.count + sum_by gnu_member_count (filter (λ e. not e.private) (map export_view (drop c.loop-export.export-index items)))) ≡ min 0xFFFF_FFFF_FFFF_FFFF (2 + all) = c.loop-export.invariant.counted in
    let zero : sum_by gnu_member_count (filter (λ e. not e.private) (map export_view (drop c.loop-export.export-index items))) ≡ 0 =
    ap (λ (xs : List ShortExport). sum_by gnu_member_count (filter (λ e. not e.private) (map export_view xs))) none in
    let same : c.loop-export.count + sum_by gnu_member_count (filter (λ e. not e.private) (map export_view (drop c.loop-export.export-index items))) ≡ c.loop-export.count =
    omega (arith, zero) in
    sym (min-eq_right c.loop-export.invariant.fits) ∙ (ap (min 0xFFFF_FFFF_FFFF_FFFF) (sym same) ∙ left)
