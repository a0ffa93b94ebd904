use Rattle.std.proofs.Common.{[], ◌∷◌, arith}
use Rattle.std.proofs.lemmas.List.{map-append}
use Rattle.implib.specs.Formats.Writer.{section_view}
use Rattle.implib.specs.Views.Writer.{writer_state}
use Rattle.implib.proofs.Formats.WriterSound.{sound_section}
use Rattle.implib.proofs.coff.writer.ObjectWriter.add_section.Goals as goal

pub invariant_of-self-2 : goal.invariant_of-self-2
invariant_of-self-2 c =
    rw (c.in_ok-push.ensures.items, map-append section_view c.self.inside.sections.items (c.args.section ∷ []))
    (sound_section (writer_state c.self.inside.machine c.self.inside.sections.items c.self.inside.symbols.items) c.self.inside.records (section_view c.args.section)
    c.self.invariant
    (rw (← c.self.view_is) at c.requires.room)
    (record {
      name = omega arith;
      flags = omega arith;
      count = rw c.requires.no_relocation (omega arith);
      relocations = rw c.requires.no_relocation tt;
    })
    c.requires.no_relocation)
