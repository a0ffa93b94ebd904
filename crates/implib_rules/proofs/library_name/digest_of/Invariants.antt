use Rattle.std.proofs.Common.{map, take}
use Rattle.implib.specs.Definition.{export_view}
use Rattle.md5.specs.Md5.{Holds}
use Rattle.implib_rules.specs.LibraryName.{exports_taken}
use Rattle.implib_rules.proofs.library_name.digest_of.Given as goal

-- the hasher holds what is linked of the exports so far
abbrev pub invariant-loop-export : goal.invariant-loop-export
invariant-loop-export l = Holds l.hasher (exports_taken (map export_view (take l.export-index l.exports)))
