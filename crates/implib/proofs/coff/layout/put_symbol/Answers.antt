use Rattle.std.proofs.Common.{arith}
use Rattle.implib.specs.Formats.Layout.{auxiliary_bytes, auxiliary_count, symbol_bytes}
use Rattle.implib.proofs.Formats.Pass.{puts_both}
use Rattle.implib.proofs.coff.layout.put_symbol.Goals as goal

pub put_bytes-requires-in-Some : goal.put_bytes-requires-in-Some
unfolding auxiliary_bytes
put_bytes-requires-in-Some c = let room = rw c.in-Some.is at c.requires.room in omega (arith, room)

pub returns-in-None : goal.returns-in-None
unfolding symbol_bytes auxiliary_count auxiliary_bytes
returns-in-None c =
    rw c.in-None.is
    (puts_both c.put_name.ensures.puts
    (puts_both c.put_u32.ensures.puts
    (puts_both c.put_u16.ensures.puts
    (puts_both c.put_u16-2.ensures.puts c.put_bytes-in-None.ensures.puts))))

pub returns-in-Some : goal.returns-in-Some
unfolding symbol_bytes auxiliary_count auxiliary_bytes
returns-in-Some c =
    rw c.in-Some.is
    (puts_both c.put_name.ensures.puts
    (puts_both c.put_u32.ensures.puts
    (puts_both c.put_u16.ensures.puts
    (puts_both c.put_u16-2.ensures.puts
    (puts_both c.put_bytes.ensures.puts c.put_bytes-in-Some.ensures.puts)))))
