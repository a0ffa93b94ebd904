use Rattle.std.proofs.Common.{[], ◌∷◌, arith}
use Rattle.std.proofs.lemmas.List.{map-append}
use Rattle.implib.specs.Views.Writer.{writer_state}
use Rattle.implib.specs.Formats.Writer.{added_view}
use Rattle.implib.proofs.Formats.WriterSound.{auxiliary_count-le, length-entries_added, sound_symbol}
use Rattle.implib.proofs.coff.writer.ObjectWriter.add_symbol.Goals as goal

pub overflow_add-count : goal.overflow_add-count
overflow_add-count c = omega (arith, auxiliary_count-le c.args.symbol.aux)

pub overflow_add-self : goal.overflow_add-self
overflow_add-self c =
    let room = rw (← c.self.view_is) at c.requires.room in
    omega (arith, room, c.self.invariant.records, length-entries_added (added_view c.args.symbol))

pub invariant_of-self-2 : goal.invariant_of-self-2
invariant_of-self-2 c =
    rw (c.in_ok-push.ensures.items, map-append added_view c.self.inside.symbols.items (c.args.symbol ∷ []))
    (sound_symbol (writer_state c.self.inside.machine c.self.inside.sections.items c.self.inside.symbols.items) c.self.inside.records _ (added_view c.args.symbol)
    c.self.invariant
    (record {
      named = c.requires.named;
      no_nul = c.requires.no_nul;
      value = omega arith;
      place = rw (← c.self.view_is) at c.requires.place;
      aux = c.auxiliary_count-count.ensures.whole;
    })
    (omega (arith, length-entries_added (added_view c.args.symbol))))
