use Rattle.std.proofs.Common.{◌≡◌, ◌-◌, ◌^◌, length, min, take}
use Rattle.implib_archive.specs.Archive.{strings_of}
use Rattle.implib_archive.specs.Pushed.{shown}
use Rattle.implib_archive.proofs.offsets.strings_size.Given as goal

-- the size of the strings so far
abbrev pub invariant-loop-entry : goal.invariant-loop-entry
invariant-loop-entry l = l.size ≡ min (length (strings_of (shown (take l.entry-index l.entries)))) (2 ^ 64 - 1)
