use Rattle.std.proofs.Common.{◌-◌, flat_map, length, take}
use Rattle.implib_archive.specs.Parts.{u16_le}
use Rattle.implib_archive.specs.Pushed.{shown}
use Rattle.implib_archive.specs.Written.{AppendsBehind}
use Rattle.implib_archive.proofs.front.write_numbers.Given as goal

-- the numbers so far
abbrev pub invariant-loop-done : goal.invariant-loop-done
invariant-loop-done g l = AppendsBehind (g.W.Write.contents l.fn.writer) (g.W.Write.contents l.writer) l.fn.piece.items l.piece.items
    (flat_map (λ e. u16_le e.1) (shown (take l.done l.entries)))

abbrev pub decreases-loop-done : goal.decreases-loop-done
decreases-loop-done g l = length l.entries - l.done
