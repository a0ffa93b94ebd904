-- Which of its two names an export is linked by.
use Rattle.std.specs.Prelude.{List, ℕ, Bool, map, is_none, Option, Some, None}
use Rattle.std.specs.List.{list_all}
use Rattle.implib.specs.Definition.{DefinitionView, ExportView}

-- an external name, where one is given, is the name to link by
abbrev pub name_to_link : Option (List ℕ) → List ℕ → List ℕ
name_to_link (Some external) name = external
name_to_link None name = name

-- The export under the name to link by. For example, that of `foo = bar` is linked by foo.
abbrev pub renamed_export : ExportView → ExportView
renamed_export e = record e { name = name_to_link e.ext_name e.name; ext_name = None }

-- each export under the name to link by
abbrev pub renamed : DefinitionView → DefinitionView
renamed d = record d { exports = map renamed_export d.exports }

-- whether no export has an external name beside its name
abbrev pub is_renamed : List ExportView → Bool
is_renamed exports = list_all (λ e. is_none e.ext_name) exports
