-- Definitions of exports that are given without a text, worked by hand.
use Rattle.std.specs.Prelude.{ℕ, List, [], ◌∷◌, Option, None, Some, codes, true}
use Rattle.implib.specs.declared.flavor.Flavor.TheVariants.{Msvc}
use Rattle.implib.specs.declared.machine.MachineType.{MachineType}
use Rattle.implib.specs.declared.machine.MachineType.TheVariants.{AMD64, I386}
use Rattle.implib.specs.Definition.{DefinitionView, ExportView, empty_definition}
use Rattle.implib_rules.specs.Additions.{no_additions}
use Rattle.implib_rules.specs.declared.exports.ExportsRefusal.TheVariants.{NoName}
use Rattle.implib_rules.specs.Exports.{DefinitionOfExports, IsRefusalOfExports}
use Rattle.implib_rules.specs.Linked.{NamingView}
use Rattle.implib_rules.specs.Options.{LibraryOptionsView}
use Rattle.implib_rules.specs.WorkedNames.{killing, line, usual}

-- the options for Microsoft's linker
abbrev pub for_msvc : MachineType → NamingView → Option (List ℕ) → LibraryOptionsView
for_msvc machine naming dll =
    record {
      machine = machine;
      flavor = Msvc;
      dll = dll;
      naming = naming;
      additions = no_additions;
    }

-- a definition of this DLL, with this name of its library and these exports
abbrev pub of_dll : List ℕ → Option (List ℕ) → List ExportView → DefinitionView
of_dll dll library exports =
    record empty_definition { import_name = dll; library_name = library; exports = exports }

-- a name without an ending gets none, where it is given; a directory is cut off; the second `a` is
-- left out
pub record ExportsWorked : Type 0 where
  pub repeated : DefinitionOfExports
      (line (codes "a") [] ∷ record (line (codes "a") []) { is_data = true } ∷ [])
      (for_msvc AMD64 usual (Some (codes "d/zoo")))
      (of_dll (codes "zoo") (Some (codes "zoo"))
      (line (codes "a") [] ∷ record (line (codes "a") []) { is_data = true; private = true } ∷ []))
  pub target : DefinitionOfExports (line (codes "a") (codes "b") ∷ [])
      (for_msvc AMD64 usual (Some (codes "zoo.drv")))
      (of_dll (codes "zoo.drv") (Some (codes "zoo"))
      (record (line (codes "a") (codes "?b")) { asked_name = Some (codes "a") }
      ∷ record (line (codes "?b") []) { asked_name = Some (codes "b") } ∷ []))
  pub underscored : DefinitionOfExports (record (line (codes "f@8") []) { ordinal = 7 } ∷ [])
      (for_msvc I386 killing (Some (codes ".dll")))
      (of_dll (codes ".dll") None
      (record (line (codes "_f@8") []) { ordinal = 7; asked_name = Some (codes "f") } ∷ []))
  pub unnamed : IsRefusalOfExports (line (codes "a") [] ∷ []) (for_msvc AMD64 usual None) NoName
  pub directory : IsRefusalOfExports [] (for_msvc AMD64 usual (Some (codes "d/"))) NoName
