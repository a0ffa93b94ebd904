use Rattle.std.proofs.Common.{arith}
use Rattle.implib.specs.Formats.Layout.{string_size}
use Rattle.implib.proofs.Formats.Defaults.{no_text}
use Rattle.implib.proofs.Formats.Sums.{sum_more}
use Rattle.implib.proofs.coff.layout.strings_length.Goals as goal

pub loop-text-preserved : goal.loop-text-preserved
unfolding string_size
loop-text-preserved c =
    omega (arith, sum_more string_size (λ text. text.now) c.args.strings.now c.loop-text.text-index no_text c.loop-text-test.true)
