use Rattle.std.proofs.Common.{arith, ap, length, map}
use Rattle.std.specs.String.{string_bytes}
use Rattle.implib.specs.Library.{member_view}
use Rattle.implib_c_calls.specs.Encoding.{encoded_list, encoded_member, encoded_text}
use Rattle.implib_c_calls.proofs.Fill.{fills_as, fills_both}
use Rattle.implib_c_calls.proofs.Lengths.{member_size}
use Rattle.implib_c_calls.proofs.encoding.put_member.Goals as goal

pub put_text-at-requires : goal.put_text-at-requires
put_text-at-requires c = omega (arith, member_size (member_view c.args.member.now), ap (λ t. length (encoded_text t)) c.as_bytes.ensures.value)

pub put_symbols-at-requires : goal.put_symbols-at-requires
put_symbols-at-requires c = grind (arith, member_size, length, map, c.as_bytes.ensures.value, c.as_slice.ensures.value, c.put_text-at.ensures.end_is)

pub put_text-requires : goal.put_text-requires
put_text-requires c = grind (arith, member_size, length, map, c.as_bytes.ensures.value, c.as_slice.ensures.value, c.as_slice-2.ensures.value, c.put_text-at.ensures.end_is, c.put_symbols-at.ensures.end_is)

pub returns : goal.returns
unfolding encoded_member
returns c =
    let name = fills_as (encoded_text (string_bytes c.args.member.now.name)) (ap encoded_text c.as_bytes.ensures.value) c.put_text-at.ensures in
    let symbols = fills_as (encoded_list encoded_text (map string_bytes c.args.member.now.symbols.items))
    (ap (λ t. encoded_list encoded_text (map string_bytes t)) c.as_slice.ensures.value) c.put_symbols-at.ensures in
    let file = fills_as (encoded_text c.args.member.now.bytes.items) (ap encoded_text c.as_slice-2.ensures.value) c.put_text.ensures in
    let sum = member_size (member_view c.args.member.now) in
    fills_both (omega (arith, c.requires, sum, name.end_is))
    name
    (fills_both (omega (arith, c.requires, sum, name.end_is, symbols.end_is)) symbols file)
