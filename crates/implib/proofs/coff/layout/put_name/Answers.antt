use Rattle.std.proofs.Common.{◌-◌, length, replicate}
use Rattle.implib.specs.Formats.Layout.{name_field}
use Rattle.implib.proofs.Formats.Names.{padding}
use Rattle.implib.proofs.Formats.Pass.{puts_both, puts_same}
use Rattle.implib.proofs.coff.layout.put_name.Goals as goal

pub returns-in-InStringTable-clause-puts : goal.returns-in-InStringTable-clause-puts
unfolding name_field
returns-in-InStringTable-clause-puts c = rw c.in-InStringTable.is (puts_both c.put_u32.ensures.puts c.put_u32-in-InStringTable.ensures.puts)

pub returns-in-InRecord-clause-puts : goal.returns-in-InRecord-clause-puts
unfolding name_field
returns-in-InRecord-clause-puts c =
    rw (c.in-InRecord.is, ← c.as_bytes.ensures.value)
    (puts_both c.put_bytes.ensures.puts
    (puts_same (replicate (8 - length c.as_bytes.result.now) 0) (rw c.as_bytes.ensures.value (padding (length c.in-InRecord.text.now))) c.put_bytes-in-InRecord.ensures.puts))
