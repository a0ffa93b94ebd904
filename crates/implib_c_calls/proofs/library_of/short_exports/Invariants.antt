use Rattle.std.proofs.Common.{map, take}
use Rattle.implib.specs.Definition.{export_view}
use Rattle.implib_c_calls.specs.LibraryOf.{AreGiven}
use Rattle.implib_c_calls.specs.LibraryOf.{given_export}
use Rattle.implib_c_calls.proofs.library_of.short_exports.Given as goal

-- the exports so far are given
abbrev pub invariant-loop-index : goal.invariant-loop-index
invariant-loop-index l = AreGiven (take l.index (map given_export l.exports)) (map export_view l.given.items)
