-- What the two flavours ask the DLL for.
use Rattle.std.specs.Prelude.{◌≡◌, ◌⊎◌, false, List, []}
use Rattle.std.specs.List.{Contains}
use Rattle.implib.specs.declared.flavor.Flavor.TheVariants.{Msvc, Gnu}
use Rattle.implib.specs.declared.machine.MachineType.{MachineType}
use Rattle.implib.specs.Definition.{ExportView}
use Rattle.implib.specs.Import.{name_asked}
use Rattle.implib_rules.specs.Linked.{NamingView, linked_export, linked_exports}

-- an export as it is linked is an import by name: not private, not by ordinal, and weak for nothing
pub record IsImportByName (e : ExportView) : Type 0 where
  pub public : e.private ≡ false
  pub by_name : e.no_name ≡ false
  pub not_weak : e.alias_target ≡ []

-- In Microsoft's flavour an export is weak for an import that asks for what it asks for itself in
-- GNU's.
pub record LeadsAlike (machine : MachineType) (naming : NamingView) (exports : List ExportView)
    (e : ExportView) : Type 0 where
  pub import : ExportView
  pub is_linked : Contains (linked_exports machine naming Msvc exports) import
  pub is_import : IsImportByName import
  pub leads : (linked_export machine naming Msvc exports e).alias_target ≡ import.name
  pub asks : name_asked machine import
      ≡ name_asked machine (linked_export machine naming Gnu exports e)

-- Each export that GNU's flavour imports by name is in Microsoft's flavour the same import, or is
-- weak for an import that asks for the same name.
abbrev pub AsksAlike : Type 0
AsksAlike =
    (machine : MachineType) (naming : NamingView) (exports : List ExportView) (e : ExportView) →
    Contains exports e → e.private ≡ false → e.no_name ≡ false →
    (linked_export machine naming Msvc exports e ≡ linked_export machine naming Gnu exports e)
    ⊎ LeadsAlike machine naming exports e
