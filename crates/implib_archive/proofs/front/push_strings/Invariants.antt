use Rattle.std.proofs.Common.{take}
use Rattle.implib_archive.specs.Archive.{strings_of}
use Rattle.implib_archive.specs.Pushed.{Pushes, shown}
use Rattle.implib_archive.proofs.front.push_strings.Given as goal

-- the strings so far
abbrev pub invariant-loop-entry : goal.invariant-loop-entry
invariant-loop-entry l = Pushes l.fn.out.items l.out.items (strings_of (shown (take l.entry-index l.entries)))
