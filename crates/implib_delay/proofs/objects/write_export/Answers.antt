use Rattle.std.proofs.Common.{◌≡◌, ◌∷◌, [], map, refl}
use Rattle.implib.specs.Definition.{export_view}
use Rattle.implib_delay.specs.Objects.{object_with}
use Rattle.implib.specs.Views.Table.{symbol_row, table_view}
use Rattle.implib_delay.proofs.objects.write_export.Goals as goal
use Rattle.implib_delay.proofs.objects.write_export.Goals.{After-drop-hint_name}

-- the table that is written is the one that is expected
same : (c : After-drop-hint_name) → table_view c.args.machine (c.section.result ∷ c.section-2.result ∷ c.section-3.result ∷ c.section-4.result ∷ c.section-5.result ∷ []) c.args.symbols.now ≡ object_with c.args.machine (export_view c.args.export.now) (map symbol_row c.args.symbols.now)
same c =
    rw (c.section.ensures, c.section-2.ensures, c.section-3.ensures, c.section-4.ensures, c.section-5.ensures, c.stub_code.ensures, c.stub_relocations.ensures, c.image_relocation.ensures, c.image_relocation-2.ensures, c.image_relocation-3.ensures, c.image_relocation-4.ensures, c.relocated.ensures, c.word_kind.ensures, c.entry_relocations-of_thunk.ensures, c.image_relocation-5.ensures, c.thunk_width.ensures, c.thunk_width-2.ensures, c.thunk-thunk.ensures, c.unbound_entry-entry.ensures, c.thunk_flags.ensures, c.thunk_flags-2.ensures, c.deref.ensures.value, c.in_ok-hint_name.ensures)
    refl

pub returns : goal.returns
returns c = rw (← same c) c.write_table.ensures
