use Rattle.std.proofs.Common.{◌≡◌, map, refl}
use Rattle.implib.specs.Definition.{export_view}
use Rattle.implib.specs.Members.Gnu.{head_symbol}
use Rattle.implib.specs.Members.OlderSymbols.{object_with, older_object, older_symbols}
use Rattle.implib.specs.Views.Table.{symbol_row}
use Rattle.implib.proofs.Members.GnuObjects.{CanBeHeld-older_object}
use Rattle.implib.proofs.gnu.objects.older_object.Goals as goal
use Rattle.implib.proofs.gnu.objects.older_object.Goals.{After-write_export, else-export, then-export}

pub write_export-requires : goal.write_export-requires
unfolding older_object
write_export-requires c =
    let symbols : map symbol_row c.if-export.symbols.now ≡ older_symbols (head_symbol c.args.machine c.args.library.now) (export_view c.args.export.now) =
    elim c.if-export.branch [
      | then-export w ↦ rw (w.symbols-is, w.if-export.true, c.symbol-head.ensures, c.symbol-today.ensures, c.symbol-names.ensures, c.symbol-older.ensures, c.requires.head, c.requires.address, c.requires.older) refl
      | else-export w ↦ rw (w.symbols-is, w.if-export.false, c.symbol-head.ensures, c.symbol-own.ensures, c.symbol-today.ensures, c.symbol-names.ensures, c.symbol-older.ensures, c.as_str.ensures.value, c.requires.head, c.requires.address, c.requires.older) refl
    ] in
    rw symbols (CanBeHeld-older_object c.args.machine c.args.library.now (export_view c.args.export.now) c.requires.library_text c.requires.name_text c.requires.filled)

-- the object with the symbols that are chosen is the one that is expected
same : (c : After-write_export) → object_with c.args.machine (export_view c.args.export.now) (map symbol_row c.if-export.symbols.now) ≡ older_object c.args.machine c.args.library.now (export_view c.args.export.now)
unfolding older_object
same c =
    let symbols : map symbol_row c.if-export.symbols.now ≡ older_symbols (head_symbol c.args.machine c.args.library.now) (export_view c.args.export.now) =
    elim c.if-export.branch [
      | then-export w ↦ rw (w.symbols-is, w.if-export.true, c.symbol-head.ensures, c.symbol-today.ensures, c.symbol-names.ensures, c.symbol-older.ensures, c.requires.head, c.requires.address, c.requires.older) refl
      | else-export w ↦ rw (w.symbols-is, w.if-export.false, c.symbol-head.ensures, c.symbol-own.ensures, c.symbol-today.ensures, c.symbol-names.ensures, c.symbol-older.ensures, c.as_str.ensures.value, c.requires.head, c.requires.address, c.requires.older) refl
    ] in
    rw symbols refl

pub returns : goal.returns
returns c = rw (← same c) c.write_export.ensures
