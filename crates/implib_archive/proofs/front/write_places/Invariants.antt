use Rattle.std.proofs.Common.{◌-◌, flat_map, length, take}
use Rattle.implib_archive.specs.Parts.{u32_le}
use Rattle.implib_archive.specs.Written.{AppendsBehind}
use Rattle.implib_archive.proofs.front.write_places.Given as goal

-- the offsets so far
abbrev pub invariant-loop-done : goal.invariant-loop-done
invariant-loop-done g l = AppendsBehind (g.W.Write.contents l.fn.writer) (g.W.Write.contents l.writer) l.fn.piece.items l.piece.items
    (flat_map u32_le (take l.done l.places))

abbrev pub decreases-loop-done : goal.decreases-loop-done
decreases-loop-done g l = length l.places - l.done
