-- Exports under their names to link by.
use Rattle.std.proofs.Common.{arith, ◌≡◌, ℕ, true, List, [], ◌∷◌, map, Option, Some, None, refl, ap}
use Rattle.std.specs.Prelude.{is_none}
use Rattle.std.proofs.lemmas.Bool.{and_parts}
use Rattle.implib.specs.declared.def.definition.ModuleDef.{ModuleDef}
use Rattle.implib.specs.Definition.{DefinitionView, ExportView, definition_view, export_view}
use Rattle.implib.specs.Renaming.{name_to_link, renamed_export, renamed, is_renamed}

-- renaming leaves no external name
pub is_renamed-renamed : (exports : List ExportView) → is_renamed (map renamed_export exports) ≡ true
is_renamed-renamed [] = refl
is_renamed-renamed (e ∷ exports) = is_renamed-renamed exports

-- a definition that shows what renaming gave has no external name
pub is_renamed_after : (d : ModuleDef) (v : DefinitionView) → definition_view d ≡ renamed v → is_renamed (map export_view d.exports.items) ≡ true
is_renamed_after d v same = grind (arith, is_renamed-renamed)

same_without : (e : ExportView) (name : List ℕ) (external : Option (List ℕ)) → is_none external ≡ true → record e { name = name_to_link external name; ext_name = None } ≡ record e { name = name; ext_name = external }
same_without e name None none = refl
same_without e name (Some x) none = cc

-- renaming changes no export that has no external name
pub renamed-is_renamed : (exports : List ExportView) → is_renamed exports ≡ true → map renamed_export exports ≡ exports
renamed-is_renamed [] _ = refl
renamed-is_renamed (e ∷ exports) all = grind (arith, renamed-is_renamed exports (and_parts (is_none e.ext_name) (is_renamed exports) all).1, and_parts, same_without)

-- nor the definition of such exports
pub renamed_same : (d : DefinitionView) → is_renamed d.exports ≡ true → renamed d ≡ d
renamed_same d all = ap (λ (exports : List ExportView). record d { exports = exports }) (renamed-is_renamed d.exports all)

-- renaming twice is renaming once
pub renamed_twice : (d : DefinitionView) → renamed (renamed d) ≡ renamed d
renamed_twice d = renamed_same (renamed d) (is_renamed-renamed d.exports)
