use Rattle.std.proofs.Common.{◌<◌, ◌+◌, arith, length}
use Rattle.std.specs.Char.{encode_utf8}
use Rattle.implib_check_driver.proofs.JsonTexts.{at_end, past_byte}
use Rattle.implib_check_driver.proofs.json.text_of.Goals as goal

pub returns-in-None : goal.returns-in-None
returns-in-None c =
    let below : c.loop-i._i < length c.args.name.now + 1 = omega arith in
    rw c.in_ok-push_str.ensures.bytes
    (at_end (length c.args.name.now + 1) c.loop-i._i _ c.front_text-front.result.now c.loop-i.rest.now _ below
    c.front_text-front.ensures c.in-None.ensures.lookup.0 c.loop-i.invariant)

pub loop-i-preserved : goal.loop-i-preserved
unfolding encode_utf8
loop-i-preserved c =
    let below : c.loop-i._i < length c.args.name.now + 1 = omega arith in
    rw (c.in_ok-push-in-Some.ensures.bytes, c.in_ok-push_str.ensures.bytes)
    (past_byte (length c.args.name.now + 1) c.loop-i._i _ c.front_text-front.result.now c.loop-i.rest.now c.in-Some.more.now _ below
    c.front_text-front.ensures c.in-Some.ensures.lookup.0.0 c.in-Some.ensures.lookup.0.2 c.loop-i.invariant)
