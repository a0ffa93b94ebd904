use Rattle.std.proofs.Common.{◌-◌, flat_map, length, take}
use Rattle.implib_archive.specs.Archive.{place_of}
use Rattle.implib_archive.specs.Parts.{u32_be}
use Rattle.implib_archive.specs.Pushed.{shown}
use Rattle.implib_archive.specs.Written.{AppendsBehind}
use Rattle.implib_archive.proofs.front.write_entry_places.Given as goal

-- the offsets so far
abbrev pub invariant-loop-done : goal.invariant-loop-done
invariant-loop-done g l = AppendsBehind (g.W.Write.contents l.fn.writer) (g.W.Write.contents l.writer) l.fn.piece.items l.piece.items
    (flat_map (λ e. u32_be (place_of l.places e.1)) (shown (take l.done l.entries)))

abbrev pub decreases-loop-done : goal.decreases-loop-done
decreases-loop-done g l = length l.entries - l.done
