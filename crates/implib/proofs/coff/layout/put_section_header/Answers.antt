use Rattle.std.proofs.Common.{◌≡◌, arith, length}
use Rattle.implib.specs.Formats.Layout.{contents_size, section_header}
use Rattle.implib.proofs.Formats.Pass.{puts_both}
use Rattle.implib.proofs.coff.layout.put_section_header.Goals as goal

pub overflow_cast-size : goal.overflow_cast-size
unfolding contents_size
overflow_cast-size c = omega (arith, c.args.section.now.bytes.ok.0)

pub overflow_add-offset : goal.overflow_add-offset
unfolding contents_size
overflow_add-offset c = omega (arith, c.args.section.now.bytes.ok.0)

pub returns-clause-puts : goal.returns-clause-puts
unfolding section_header
returns-clause-puts c =
    let size : length c.args.section.now.bytes.items ≡ c.len-size.result = omega (arith, c.args.section.now.bytes.ok.0) in
    let count : length c.args.section.now.relocations.items ≡ c.len-relocations.result = omega (arith, c.args.section.now.relocations.ok.0) in
    rw (size, count, ← c.offset_or_zero.ensures, ← c.offset_or_zero-2.ensures)
    (puts_both c.put_bytes.ensures.puts
    (puts_both c.put_u32.ensures.puts
    (puts_both c.put_u32-2.ensures.puts
    (puts_both c.put_u32-3.ensures.puts
    (puts_both c.put_u32-4.ensures.puts
    (puts_both c.put_u32-5.ensures.puts
    (puts_both c.put_u32-6.ensures.puts
    (puts_both c.put_u16.ensures.puts
    (puts_both c.put_u16-2.ensures.puts c.put_u32-7.ensures.puts)))))))))
