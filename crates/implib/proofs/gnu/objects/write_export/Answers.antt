use Rattle.std.proofs.Common.{◌≡◌, ◌∷◌, [], map, refl}
use Rattle.implib.specs.Definition.{export_view}
use Rattle.implib.specs.Members.Gnu.{relocations_of_thunk}
use Rattle.implib.specs.Members.OlderSymbols.{object_with}
use Rattle.implib.specs.Views.Table.{symbol_row, table_view}
use Rattle.implib.proofs.gnu.objects.write_export.Goals as goal
use Rattle.implib.proofs.gnu.objects.write_export.Goals.{After-drop-hint_name}

pub write_table-requires : goal.write_table-requires
unfolding relocations_of_thunk
write_table-requires c =
    let same : table_view c.args.machine (c.section.result ∷ c.empty_section.result ∷ c.empty_section-2.result ∷ c.section-2.result ∷ c.section-3.result ∷ c.section-4.result ∷ c.section-5.result ∷ []) c.args.symbols.now ≡ object_with c.args.machine (export_view c.args.export.now) (map symbol_row c.args.symbols.now) =
    rw (
      c.section.ensures,
      c.empty_section.ensures,
      c.empty_section-2.ensures,
      c.section-2.ensures,
      c.section-3.ensures,
      c.section-4.ensures,
      c.section-5.ensures,
      c.stub.ensures,
      c.stub_relocations.ensures,
      c.entry_relocations-entry_relocations.ensures,
      c.image_relocation.ensures,
      c.image_relocation-2.ensures,
      c.hint_name_symbol.ensures,
      c.thunk_width.ensures,
      c.thunk-thunk.ensures,
      c.deref.ensures.value,
      c.in_ok-hint_name.ensures,
    )
    refl in
    rw same c.requires

-- the table that is written is the one that is expected
same : (c : After-drop-hint_name) → table_view c.args.machine (c.section.result ∷ c.empty_section.result ∷ c.empty_section-2.result ∷ c.section-2.result ∷ c.section-3.result ∷ c.section-4.result ∷ c.section-5.result ∷ []) c.args.symbols.now ≡ object_with c.args.machine (export_view c.args.export.now) (map symbol_row c.args.symbols.now)
unfolding relocations_of_thunk
same c =
    rw (
      c.section.ensures,
      c.empty_section.ensures,
      c.empty_section-2.ensures,
      c.section-2.ensures,
      c.section-3.ensures,
      c.section-4.ensures,
      c.section-5.ensures,
      c.stub.ensures,
      c.stub_relocations.ensures,
      c.entry_relocations-entry_relocations.ensures,
      c.image_relocation.ensures,
      c.image_relocation-2.ensures,
      c.hint_name_symbol.ensures,
      c.thunk_width.ensures,
      c.thunk-thunk.ensures,
      c.deref.ensures.value,
      c.in_ok-hint_name.ensures,
    )
    refl

pub returns : goal.returns
returns c = rw (← same c) c.write_table.ensures
