use Rattle.std.proofs.Common.{arith, length}
use Rattle.implib_c_calls.proofs.Fill.{fills_both}
use Rattle.implib_c_calls.proofs.Lengths.{number_size, text_size}
use Rattle.implib_c_calls.proofs.encoding.put_text.Goals as goal

pub put_number-at-requires : goal.put_number-at-requires
put_number-at-requires c = omega (arith, text_size c.args.text.now)

pub returns : goal.returns
returns c =
    fills_both
    (omega (arith, text_size c.args.text.now, number_size (length c.args.text.now), c.put_number-at.ensures.end_is))
    c.put_number-at.ensures c.put_bytes.ensures
