-- Exports as C passes them, worked by hand: the flags are those of include/implib.h, written out
-- once more (this project's choice).
use Rattle.std.specs.Prelude.{◌≡◌, ℕ, [], ◌∷◌, List, codes, true}
use Rattle.implib.specs.Definition.{ExportView, empty_export}
use Rattle.implib_c_calls.specs.LibraryOf.{GivenExport, export_given, exports_asked}

-- an export of this name with these flags
abbrev pub passed : List ℕ → ℕ → GivenExport
passed name flags = record { name = name; target = []; ordinal = 0; flags = flags }

-- an export of a name in a definition
abbrev pub named : List ℕ → ExportView
named name = record empty_export { name = name }

-- what a definition has of exports
pub record WorkedExports : Type 0 where
  pub constant_flag : export_given (passed (codes "a") 4)
      ≡ record (named (codes "a")) { constant = true }
  pub private_flag : export_given (passed (codes "a") 8)
      ≡ record (named (codes "a")) { private = true }
  -- an alias of an export without a name asks for its ordinal
  pub nameless :
      exports_asked (record (passed (codes "f") 1) { ordinal = 5 }
      ∷ record (passed (codes "g") 0) { target = codes "f" } ∷ [])
      ≡ record (named (codes "f")) { ordinal = 5; no_name = true }
      ∷ record (named (codes "g")) { ordinal = 5; no_name = true } ∷ []
