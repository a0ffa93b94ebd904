use Rattle.std.proofs.Common.{◌∙◌, ap, map}
use Rattle.implib_compare.specs.Partners.{counted, how_many}
use Rattle.implib_compare.proofs.Counting.{flags_more, taken-more}
use Rattle.implib_compare.proofs.partners.lack_partners.Goals as goal

pub loop-key-preserved : goal.loop-key-preserved
loop-key-preserved c =
    let i = c.loop-key.key-index in
    let key = c.deref.result.now in
    let item = c.key-item.result in
    let others = map (λ k. k.items) c.args.others.now in
    let is = c.deref.ensures.value ∙ ap (λ k. k.items) c.key-item.is in
    record {
      counts = λ other. taken-more (λ k. k.items) c.args.keys.now i item other key (how_many other others) (counted c.loop-key.counts other) (counted c.lacks_partner.new.counts other)
          c.loop-key-test.true is (c.loop-key.invariant.counts other) (c.in_ok-lacks_partner.ensures.counts other);
      flags = flags_more (λ k. k.items) c.args.keys.now i item others c.loop-key.flags.items c.push.new.self.items _ c.in_ok-lacks_partner.field-0 key (counted c.loop-key.counts key)
          c.loop-key-test.true is (c.loop-key.invariant.counts key) c.in_ok-lacks_partner.ensures.lacks c.in_ok-push.ensures.items c.loop-key.invariant.flags;
    }
