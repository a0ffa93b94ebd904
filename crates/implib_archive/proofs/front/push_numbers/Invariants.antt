use Rattle.std.proofs.Common.{flat_map, take}
use Rattle.implib_archive.specs.Parts.{u16_le}
use Rattle.implib_archive.specs.Pushed.{Pushes, shown}
use Rattle.implib_archive.proofs.front.push_numbers.Given as goal

-- the numbers so far
abbrev pub invariant-loop-entry : goal.invariant-loop-entry
invariant-loop-entry l = Pushes l.fn.out.items l.out.items (flat_map (λ e. u16_le e.1) (shown (take l.entry-index l.entries)))
