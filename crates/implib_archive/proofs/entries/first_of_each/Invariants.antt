use Rattle.std.proofs.Common.{◌≡◌, [], fold, take}
use Rattle.implib_archive.specs.Archive.{with_first}
use Rattle.implib_archive.specs.Pushed.{shown}
use Rattle.implib_archive.proofs.entries.first_of_each.Given as goal

-- the first entries so far
abbrev pub invariant-loop-entry : goal.invariant-loop-entry
invariant-loop-entry l = record {
  listed : shown l.listed.entries ≡ fold with_first [] (shown (take l.entry-index l.entries));
  firsts : shown l.firsts.items ≡ fold with_first [] (shown (take l.entry-index l.entries));
}
