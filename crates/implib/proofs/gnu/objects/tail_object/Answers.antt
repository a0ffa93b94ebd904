use Rattle.std.proofs.Common.{◌≡◌, ◌∷◌, [], refl}
use Rattle.implib.specs.Members.Gnu.{tail_object}
use Rattle.implib.specs.Views.Table.{table_view}
use Rattle.implib.proofs.Members.GnuObjects.{CanBeHeld-tail_object}
use Rattle.implib.proofs.gnu.objects.tail_object.Goals as goal
use Rattle.implib.proofs.gnu.objects.tail_object.Goals.{After-drop-thunk-2}

pub write_table-requires : goal.write_table-requires
unfolding tail_object
write_table-requires c =
    rw (
      c.head_or_tail_sections-sections.ensures,
      c.section.ensures,
      c.section-2.ensures,
      c.section-3.ensures,
      c.deref.ensures.value,
      c.deref-2.ensures.value,
      c.deref-3.ensures.value,
      c.in_ok-thunk.ensures,
      c.thunk_width.ensures,
      c.in_ok-text.ensures,
      c.file_symbol.ensures,
      c.symbol.ensures,
      c.requires.name,
    )
    (CanBeHeld-tail_object c.args.machine (record { linked = c.args.library.now; text = c.args.dll.now }) c.requires.library_text)

-- the table that is written is the one that is expected
same : (c : After-drop-thunk-2) → table_view c.args.machine c.head_or_tail_sections-sections.result (c.file_symbol.result ∷ c.symbol.result ∷ []) ≡ tail_object c.args.machine (record { linked = c.args.library.now; text = c.args.dll.now })
unfolding tail_object
same c =
    rw (
      c.head_or_tail_sections-sections.ensures,
      c.section.ensures,
      c.section-2.ensures,
      c.section-3.ensures,
      c.deref.ensures.value,
      c.deref-2.ensures.value,
      c.deref-3.ensures.value,
      c.in_ok-thunk.ensures,
      c.thunk_width.ensures,
      c.in_ok-text.ensures,
      c.file_symbol.ensures,
      c.symbol.ensures,
      c.requires.name,
    )
    refl

pub returns : goal.returns
returns c = rw (← same c) c.write_table.ensures
