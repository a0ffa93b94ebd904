use Rattle.std.proofs.Common.{arith, ◌≡◌, ◌∙◌, List, ap, false, map, sym}
use Rattle.std.specs.List.{list_any}
use Rattle.implib.specs.Definition.{ExportView, definition_view, export_view}
use Rattle.implib_rules.specs.Linked.{has_target}
use Rattle.implib_rules.proofs.ByOrdinal.{asking-plain, asking_by-all}
use Rattle.implib_rules.proofs.nameless.with_ordinals.Goals as goal

pub returns-then-not-has_targets : goal.returns-then-not-has_targets
returns-then-not-has_targets c =
    let exports = map export_view c.args.def.exports.items in
    let none : list_any has_target exports ≡ false =
    ap (λ items. list_any has_target (map export_view items)) (sym c.as_slice.ensures.value) ∙ sym c.has_targets.ensures ∙ c.if-not-has_targets.true in
    sym (ap (λ (x : List ExportView). record (definition_view c.args.def) { exports = x }) (asking-plain exports exports none))

pub returns : goal.returns
returns c = grind (arith, asking_by-all)
