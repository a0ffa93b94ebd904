use Rattle.std.proofs.Common.{arith, refl}
use Rattle.implib.specs.Formats.Layout.{string_offsets, string_size, strings_size}
use Rattle.implib.proofs.Formats.Defaults.{no_text}
use Rattle.implib.proofs.Formats.Sums.{sum_fewer}
use Rattle.implib.proofs.Formats.Offsets.{offsets_all, offsets_more}
use Rattle.implib.proofs.coff.layout.offsets_of.Goals as goal

pub loop-text-init : goal.loop-text-init
unfolding string_offsets strings_size
loop-text-init c = record { room = refl; offsets = rw c.in_ok-offsets.ensures.items refl }

pub overflow_cast-offset : goal.overflow_cast-offset
unfolding string_size
overflow_cast-offset c = omega (arith, sum_fewer string_size (λ text. text.now) c.args.strings.now c.loop-text.text-index no_text c.loop-text-test.true)

pub overflow_add-offset : goal.overflow_add-offset
unfolding string_size
overflow_add-offset c = omega (arith, sum_fewer string_size (λ text. text.now) c.args.strings.now c.loop-text.text-index no_text c.loop-text-test.true)

pub overflow_add-offset-in-loop-text : goal.overflow_add-offset-in-loop-text
unfolding string_size
overflow_add-offset-in-loop-text c = omega (arith, sum_fewer string_size (λ text. text.now) c.args.strings.now c.loop-text.text-index no_text c.loop-text-test.true)

pub loop-text-preserved : goal.loop-text-preserved
unfolding string_size
loop-text-preserved c = record {
  room = omega (arith, sum_fewer string_size (λ text. text.now) c.args.strings.now c.loop-text.text-index no_text c.loop-text-test.true);
  offsets = rw c.in_ok-push.ensures.items (offsets_more c.loop-text.offsets.items c.loop-text.offset c.args.strings.now c.loop-text.text-index _ c.loop-text.invariant.offsets no_text c.loop-text-test.true);
}

pub returns : goal.returns
returns c = offsets_all c.loop-text.offsets.items c.loop-text.offset c.args.strings.now c.loop-text.text-index _ c.loop-text.invariant.offsets c.loop-text-test.false
