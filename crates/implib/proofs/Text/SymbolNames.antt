-- The definition that a text means has no symbol names and gives no asked names.
use Rattle.std.proofs.Common.{arith, ◌≡◌, ℕ, true, List, [], ◌∷◌, map, refl}
use Rattle.std.specs.Prelude.{is_none}
use Rattle.std.specs.List.{list_all}
use Rattle.implib.specs.declared.machine.MachineType.{MachineType}
use Rattle.implib.specs.Definition.{DefinitionView, ExportView}
use Rattle.implib.specs.Text.Grammar.{Export}
use Rattle.implib.specs.Import.{is_empty_text}
use Rattle.implib.specs.Text.Meaning.{export_meaning}
use Rattle.implib.specs.Text.Parses.{Parses}
use Rattle.implib.specs.Renaming.{renamed_export}
use Rattle.implib.specs.Text.SymbolNames.{LacksSymbolNames}

-- exports as the text means them
parsed_lack : (machine : MachineType) (exports : List Export) → list_all (λ (e : ExportView). is_empty_text e.symbol_name) (map (export_meaning machine) exports) ≡ true
parsed_lack machine [] = refl
parsed_lack machine (e ∷ exports) = parsed_lack machine exports

-- the same under their names to link by
renamed_lack : (machine : MachineType) (exports : List Export)
    → list_all (λ (e : ExportView). is_empty_text e.symbol_name) (map renamed_export (map (export_meaning machine) exports)) ≡ true
renamed_lack machine [] = refl
renamed_lack machine (e ∷ exports) = renamed_lack machine exports

-- and none gives an asked name
parsed_ask : (machine : MachineType) (exports : List Export) → list_all (λ (e : ExportView). is_none e.asked_name) (map (export_meaning machine) exports) ≡ true
parsed_ask machine [] = refl
parsed_ask machine (e ∷ exports) = parsed_ask machine exports

renamed_ask : (machine : MachineType) (exports : List Export)
    → list_all (λ (e : ExportView). is_none e.asked_name) (map renamed_export (map (export_meaning machine) exports)) ≡ true
renamed_ask machine [] = refl
renamed_ask machine (e ∷ exports) = renamed_ask machine exports

pub parsed_lacks : (text : List ℕ) (machine : MachineType) (definition : DefinitionView) → Parses text machine definition → LacksSymbolNames definition
parsed_lacks text machine definition parsed = grind (arith, parsed_lack, parsed_ask, renamed_ask, renamed_lack)
