use Rattle.std.proofs.Common.{arith, take}
use Rattle.implib.specs.Formats.Layout.{string_bytes_of, string_size, string_table, strings_size}
use Rattle.implib.proofs.Formats.Defaults.{no_text}
use Rattle.implib.proofs.Formats.Lengths.{length-viewed_strings}
use Rattle.implib.proofs.Formats.Pass.{puts_all, puts_both}
use Rattle.implib.proofs.Formats.Sums.{flat_map-map, sum_room}
use Rattle.implib.proofs.coff.layout.put_string_table.Goals as goal

pub put_u32-requires : goal.put_u32-requires
unfolding strings_size
put_u32-requires c = omega arith

pub put_string-requires : goal.put_string-requires
unfolding strings_size string_size
put_string-requires c =
    omega (
      arith,
      length-viewed_strings (take c.loop-text.text-index c.args.strings.now),
      sum_room string_size (λ text. text.now) c.args.strings.now c.loop-text.text-index no_text c.loop-text-test.true,
    )

pub returns : goal.returns
unfolding string_table
returns c =
    rw (← c.requires.size, flat_map-map string_bytes_of (λ text. text.now) c.args.strings.now)
    (puts_both c.put_u32.ensures.puts
    (puts_all (λ text. string_bytes_of text.now) c.args.strings.now c.loop-text.text-index c.loop-text-test.false c.loop-text.invariant))
