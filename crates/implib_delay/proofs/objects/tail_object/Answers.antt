use Rattle.implib_delay.specs.Objects.{tail_object}
use Rattle.implib_delay.proofs.Held.{CanBeHeld-tail_object}
use Rattle.implib_delay.proofs.objects.tail_object.Goals as goal

pub write_table-requires : goal.write_table-requires
unfolding tail_object
write_table-requires c =
    rw (c.section.ensures, c.section-2.ensures, c.section-3.ensures, c.deref.ensures.value, c.deref-2.ensures.value, c.deref-3.ensures.value, c.in_ok-end.ensures, c.thunk_width.ensures, c.thunk_flags.ensures, c.thunk_flags-2.ensures, c.in_ok-text.ensures, c.symbol.ensures, c.requires.name)
    (CanBeHeld-tail_object c.args.machine (record { linked = c.args.library.now; text = c.args.dll.now }) c.requires.library_text)

pub returns : goal.returns
unfolding tail_object
returns c = rw (c.section.ensures, c.section-2.ensures, c.section-3.ensures, c.deref.ensures.value, c.deref-2.ensures.value, c.deref-3.ensures.value, c.in_ok-end.ensures, c.thunk_width.ensures, c.thunk_flags.ensures, c.thunk_flags-2.ensures, c.in_ok-text.ensures, c.symbol.ensures, c.requires.name) at c.write_table.ensures
