use Rattle.implib.specs.Definition.{export_view}
use Rattle.implib_delay.specs.Objects.{export_object}
use Rattle.implib_delay.proofs.Held.{CanBeHeld-export_object}
use Rattle.implib_delay.proofs.objects.export_object.Goals as goal

pub write_export-requires : goal.write_export-requires
unfolding export_object
write_export-requires c =
    rw c.export_symbols-symbols.ensures
    (CanBeHeld-export_object c.args.machine c.args.library.now (export_view c.args.export.now) c.requires.library_text c.requires.name_text c.requires.filled)

pub returns : goal.returns
unfolding export_object
returns c = rw c.export_symbols-symbols.ensures at c.write_export.ensures
