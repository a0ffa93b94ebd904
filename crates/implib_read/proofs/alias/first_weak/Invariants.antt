use Rattle.std.proofs.Common.{◌≡◌, drop, map}
use Rattle.implib.specs.Formats.File.{weak_symbols}
use Rattle.implib_read.specs.ObjectViews.{entry_view}
use Rattle.implib_read.proofs.alias.first_weak.Given as goal

abbrev pub invariant-loop-i : goal.invariant-loop-i
invariant-loop-i l = weak_symbols (map entry_view (drop l.i l.entries)) ≡ weak_symbols (map entry_view l.entries)
