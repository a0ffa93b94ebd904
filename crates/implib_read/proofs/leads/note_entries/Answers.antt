use Rattle.std.proofs.Common.{arith, ◌≡◌, ◌∙◌, ℕ, List, Bor, Some, sym, rules}
use Rattle.std.specs.Option.{option_map}
use Rattle.implib.specs.Formats.File.{declared_by_entry}
use Rattle.implib_read.specs.ObjectViews.{entry_view}
use Rattle.implib_read.proofs.Declarers.{noted-name, noted-nothing}
use Rattle.implib_read.proofs.leads.note_entries.Goals as goal

-- the bytes of a slice
bytes_of : Bor (List ℕ) → List ℕ
bytes_of t = t.now

pub loop-entry-preserved-in_default : goal.loop-entry-preserved-in_default
unfolding bytes_of
loop-entry-preserved-in_default c = grind (arith, noted-nothing, c.declared_by_entry.ensures, c.loop-entry.invariant)

pub loop-entry-preserved : goal.loop-entry-preserved
unfolding bytes_of
loop-entry-preserved c = λ other.
    let some : option_map bytes_of c.declared_by_entry.result ≡ Some c.in-Some.name.now = search rules in
    noted-name entry_view declared_by_entry c.args.entries.now c.loop-entry.entry-index _ c.args.offset c.in-Some.name.now other _ _ _ (search rules) (sym c.declared_by_entry.ensures ∙ some)
    (c.in_ok-note_symbol.ensures other) (c.loop-entry.invariant other)
