use Rattle.std.proofs.Common.{◌≡◌, ap, arith, length}
use Rattle.implib.specs.Formats.Layout.{contents, contents_size}
use Rattle.implib.proofs.Formats.Pass.{puts_both}
use Rattle.implib.proofs.coff.layout.put_section_contents.Goals as goal

pub put_bytes-requires : goal.put_bytes-requires
unfolding contents_size
put_bytes-requires c = rw c.deref.ensures.value (omega arith)

pub put_relocations-requires : goal.put_relocations-requires
unfolding contents_size
put_relocations-requires c =
    let size : length c.deref.result.now ≡ length c.args.section.now.bytes.items = ap length c.deref.ensures.value in
    rw c.deref-2.ensures.value (omega arith)

pub returns : goal.returns
unfolding contents
returns c = rw (← c.deref.ensures.value, ← c.deref-2.ensures.value) (puts_both c.put_bytes.ensures.puts c.put_relocations.ensures)
