use Rattle.std.proofs.Common.{arith, ap, length, map}
use Rattle.std.specs.String.{string_bytes}
use Rattle.implib_c_calls.specs.Encoding.{encoded_number, encoded_text}
use Rattle.implib_c_calls.proofs.Fill.{fills_as, fills_more, fills_room}
use Rattle.implib_c_calls.proofs.Lengths.{list_size, number_size}
use Rattle.implib_c_calls.proofs.encoding.put_symbols.Goals as goal

pub put_number-at-requires : goal.put_number-at-requires
put_number-at-requires c = omega (arith, list_size encoded_text (map string_bytes c.args.symbols.now))

pub put_text-at-requires : goal.put_text-at-requires
put_text-at-requires c =
    let room = fills_room encoded_text string_bytes c.args.symbols.now c.loop-symbol.symbol-index (encoded_number (length c.args.symbols.now)) c.loop-symbol.invariant
    c.symbol-item.result c.loop-symbol-test.true c.symbol-item.is
    (omega (arith, list_size encoded_text (map string_bytes c.args.symbols.now), number_size (length c.args.symbols.now))) in
    omega (arith, room, ap (λ t. length (encoded_text t)) c.as_bytes.ensures.value)

pub loop-symbol-preserved : goal.loop-symbol-preserved
loop-symbol-preserved c =
    let room = fills_room encoded_text string_bytes c.args.symbols.now c.loop-symbol.symbol-index (encoded_number (length c.args.symbols.now)) c.loop-symbol.invariant
    c.symbol-item.result c.loop-symbol-test.true c.symbol-item.is
    (omega (arith, list_size encoded_text (map string_bytes c.args.symbols.now), number_size (length c.args.symbols.now))) in
    fills_more encoded_text string_bytes c.args.symbols.now c.loop-symbol.symbol-index (encoded_number (length c.args.symbols.now)) c.loop-symbol.invariant
    c.symbol-item.result c.loop-symbol-test.true c.symbol-item.is (omega (arith, room))
    (fills_as (encoded_text (string_bytes c.symbol-item.result)) (ap encoded_text c.as_bytes.ensures.value) c.put_text-at.ensures)
