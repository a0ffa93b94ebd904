use Rattle.std.proofs.Common.{◌∙◌, ◌+◌, ◌++◌, ◌&&◌, ap, drop, map, not, take}
use Rattle.implib.specs.Definition.{export_view}
use Rattle.implib_rules.specs.Linked.{word_of}
use Rattle.implib_rules.specs.Repeats.{repeats, repeats_behind}
use Rattle.implib_rules.proofs.LeftOut.{declared_more, flags_more}
use Rattle.implib_rules.proofs.repeats.repeats_in.Goals as goal

pub loop-export-preserved : goal.loop-export-preserved
loop-export-preserved c =
    let items = c.args.exports.now in
    let index = c.loop-export.export-index in
    let item = c.export-item.result in
    let e = export_view item in
    let same = ap export_view c.export-item.is in
    record {
      declared = λ word. cc (c.in_ok-repeats.ensures.declared word, c.loop-export.invariant.declared word, same, declared_more word items index item c.loop-export-test.true);
      flags =
          ap (λ l. l ++ repeats_behind (map export_view (take (index + 1) items)) (map export_view (drop (index + 1) items))) c.in_ok-push.ensures.items
          ∙ flags_more items index item c.loop-export.flags.items _ c.in_ok-repeats.field-0 c.loop-export-test.true
          (c.in_ok-repeats.ensures.repeats
          ∙ ap (λ b. not e.private && b) (c.loop-export.invariant.declared (word_of e))
          ∙ ap (λ x. repeats (map export_view (take index items)) x) same)
          c.loop-export.invariant.flags;
    }
