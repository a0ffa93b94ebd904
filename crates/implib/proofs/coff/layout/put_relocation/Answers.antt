use Rattle.implib.specs.Formats.Layout.{relocation_bytes}
use Rattle.implib.proofs.Formats.Pass.{puts_both}
use Rattle.implib.proofs.coff.layout.put_relocation.Goals as goal

pub returns : goal.returns
unfolding relocation_bytes
returns c = puts_both c.put_u32.ensures.puts (puts_both c.put_u32-2.ensures.puts c.put_u16.ensures.puts)
