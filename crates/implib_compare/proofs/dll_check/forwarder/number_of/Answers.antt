use Rattle.std.proofs.Common.{◌∙◌, arith, sym}
use Rattle.implib_compare.proofs.DllCheck.Forwarders.{number_more}
use Rattle.implib_compare.proofs.dll_check.forwarder.number_of.Goals as goal

pub loop-byte-preserved : goal.loop-byte-preserved
loop-byte-preserved c =
    let l = c.loop-byte in
    number_more c.args.text.now l.byte-index l.number _ _ c.loop-byte-test.true (sym c.is_digit.ensures ∙ c.if-not-is_digit.false) (omega arith) l.invariant
