use Rattle.implib.specs.Formats.Layout.{string_bytes_of}
use Rattle.implib.proofs.Formats.Pass.{puts_both}
use Rattle.implib.proofs.coff.layout.put_string.Goals as goal

pub returns : goal.returns
unfolding string_bytes_of
returns c = rw (← c.as_bytes.ensures.value) (puts_both c.put_bytes.ensures.puts c.put_bytes-2.ensures.puts)
