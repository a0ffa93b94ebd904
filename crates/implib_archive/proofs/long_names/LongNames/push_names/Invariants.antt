use Rattle.std.proofs.Common.{◌≡◌, ◌++◌}
use Rattle.implib_archive.specs.Archive.{names_bytes}
use Rattle.implib_archive.specs.Pushed.{shown}
use Rattle.implib_archive.proofs.long_names.LongNames.push_names.Given as goal

-- the names so far, and those that are left
abbrev pub invariant-loop-name : goal.invariant-loop-name
invariant-loop-name l = l.out.items ++ names_bytes l.kind (shown l.name-iterator) ≡ l.fn.out.items ++ names_bytes l.kind (shown l.self.offsets.entries)
