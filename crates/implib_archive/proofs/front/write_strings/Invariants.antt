use Rattle.std.proofs.Common.{◌-◌, length, take}
use Rattle.implib_archive.specs.Archive.{strings_of}
use Rattle.implib_archive.specs.Pushed.{shown}
use Rattle.implib_archive.specs.Written.{AppendsBehind}
use Rattle.implib_archive.proofs.front.write_strings.Given as goal

-- the strings so far
abbrev pub invariant-loop-done : goal.invariant-loop-done
invariant-loop-done g l = AppendsBehind (g.W.Write.contents l.fn.writer) (g.W.Write.contents l.writer) l.fn.piece.items l.piece.items
    (strings_of (shown (take l.done l.entries)))

abbrev pub decreases-loop-done : goal.decreases-loop-done
decreases-loop-done g l = length l.entries - l.done
