use Rattle.std.proofs.lemmas.List.{length-map}
use Rattle.implib.specs.Formats.Layout.{header_bytes}
use Rattle.implib.specs.Formats.Writer.{section_view}
use Rattle.implib.proofs.Formats.Pass.{puts_both}
use Rattle.implib.proofs.coff.layout.put_file_header.Goals as goal

pub returns : goal.returns
unfolding header_bytes
returns c =
    rw (length-map c.args.layout.now.sections.now section_view, ← c.requires.measured.symbol_table_offset, ← c.requires.measured.records)
    (puts_both c.put_u16.ensures.puts
    (puts_both c.put_u16-2.ensures.puts
    (puts_both c.put_u32.ensures.puts
    (puts_both c.put_u32-2.ensures.puts
    (puts_both c.put_u32-3.ensures.puts
    (puts_both c.put_u16-3.ensures.puts c.put_u16-4.ensures.puts))))))
