use Rattle.std.proofs.Common.{◌≡◌, ◌++◌, ◌+◌, drop}
use Rattle.implib_archive.specs.Archive.{entries_from}
use Rattle.implib_archive.specs.Pushed.{shown}
use Rattle.implib_archive.proofs.entries.all_entries.Given as goal

-- those found, and those of the members that are left
abbrev pub invariant-loop-index : goal.invariant-loop-index
invariant-loop-index g l =
    shown l.entries.items ++ entries_from (l.index + 1) (drop l.index (g.S.Members.members l.source)) ≡ entries_from 1 (g.S.Members.members l.source)
