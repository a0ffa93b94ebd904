use Rattle.std.proofs.Common.{◌≡◌, ◌∷◌, [], refl}
use Rattle.implib.specs.Members.Gnu.{head_object}
use Rattle.implib.specs.Views.Table.{table_view}
use Rattle.implib.proofs.Members.GnuObjects.{CanBeHeld-head_object}
use Rattle.implib.proofs.gnu.objects.head_object.Goals as goal
use Rattle.implib.proofs.gnu.objects.head_object.Goals.{After-write_table}

pub write_table-requires : goal.write_table-requires
unfolding head_object
write_table-requires c =
    rw (
      c.head_or_tail_sections-sections.ensures,
      c.section.ensures,
      c.empty_section.ensures,
      c.empty_section-2.ensures,
      c.image_relocation.ensures,
      c.image_relocation-2.ensures,
      c.image_relocation-3.ensures,
      c.file_symbol.ensures,
      c.symbol.ensures,
      c.symbol-2.ensures,
      c.symbol-3.ensures,
      c.symbol-4.ensures,
      c.requires.head,
      c.requires.name,
    )
    (CanBeHeld-head_object c.args.machine c.args.library.now c.requires.library_text)

-- the table that is written is the one that is expected
same : (c : After-write_table) → table_view c.args.machine c.head_or_tail_sections-sections.result (c.file_symbol.result ∷ c.symbol.result ∷ c.symbol-2.result ∷ c.symbol-3.result ∷ c.symbol-4.result ∷ []) ≡ head_object c.args.machine c.args.library.now
unfolding head_object
same c =
    rw (
      c.head_or_tail_sections-sections.ensures,
      c.section.ensures,
      c.empty_section.ensures,
      c.empty_section-2.ensures,
      c.image_relocation.ensures,
      c.image_relocation-2.ensures,
      c.image_relocation-3.ensures,
      c.file_symbol.ensures,
      c.symbol.ensures,
      c.symbol-2.ensures,
      c.symbol-3.ensures,
      c.symbol-4.ensures,
      c.requires.head,
      c.requires.name,
    )
    refl

pub returns : goal.returns
returns c = rw (← same c) c.write_table.ensures
