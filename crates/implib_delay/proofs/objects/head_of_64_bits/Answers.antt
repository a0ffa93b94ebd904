use Rattle.implib_delay.proofs.Held.{CanBeHeld-head64, head_object-64}
use Rattle.implib_delay.proofs.objects.head_of_64_bits.Goals as goal

pub write_table-requires : goal.write_table-requires
write_table-requires c =
    rw (c.four_sections-sections.ensures, c.section.ensures, c.section-2.ensures, c.section-3.ensures, c.section-4.ensures, c.image_relocation.ensures, c.image_relocation-2.ensures, c.image_relocation-3.ensures, c.tail_code.ensures, c.tail_relocations.ensures, c.thunk_flags.ensures, c.symbol.ensures, c.symbol-2.ensures, c.symbol-3.ensures, c.symbol-4.ensures, c.symbol-5.ensures, c.helper_symbol.ensures, c.requires.tail, c.requires.handle)
    (CanBeHeld-head64 c.args.machine c.args.library.now c.requires.library_text)

pub returns : goal.returns
returns c =
    let made = rw (c.four_sections-sections.ensures, c.section.ensures, c.section-2.ensures, c.section-3.ensures, c.section-4.ensures, c.image_relocation.ensures, c.image_relocation-2.ensures, c.image_relocation-3.ensures, c.tail_code.ensures, c.tail_relocations.ensures, c.thunk_flags.ensures, c.symbol.ensures, c.symbol-2.ensures, c.symbol-3.ensures, c.symbol-4.ensures, c.symbol-5.ensures, c.helper_symbol.ensures, c.requires.tail, c.requires.handle) at c.write_table.ensures in
    rw (head_object-64 c.args.machine c.args.library.now c.requires.width) made
