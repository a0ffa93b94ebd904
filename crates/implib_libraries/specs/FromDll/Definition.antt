-- The exports that a definition has of a DLL, so that its library imports what the DLL exports
-- (this project's own; docs/DLLTOOL.md, "From a DLL").
use Rattle.std.specs.Prelude.{ℕ, ◌+◌, ◌++◌, Bool, true, false, List, [], ◌∷◌, codes, decimal}
use Rattle.std.specs.Prelude.{Option, None, Some}
use Rattle.std.specs.List.{flat_map}
use Rattle.implib.specs.Definition.{ExportView, empty_export}
use Rattle.implib_dll.specs.declared.section.AddressKind.TheVariants.{Code, Data, Outside}
use Rattle.implib_dll.specs.Exports.{Exports, NameEntry, Target, Empty, Address, Forwarder}
use Rattle.implib_dll.specs.Lookup.{filled, target_at}
use Rattle.implib_dll.specs.Rows.{Row, rows_of}

-- Whether a target is data: an address that is in no section of code. The kind of a forwarder is
-- not in the DLL: it is linked as code.
abbrev pub is_data : Target → Bool
is_data Empty = false
is_data (Address address Code) = false
is_data (Address address Data) = true
is_data (Address address Outside) = true
is_data (Forwarder text) = false

-- the export of a name that leads to a target; the hint is its position in the name table
abbrev pub named_export : List ℕ → ℕ → Target → ExportView
named_export text position target =
    record empty_export { name = text; ordinal = position; is_data = is_data target }

-- a name for an export that has none: `ord_` and its ordinal
abbrev pub ordinal_name : ℕ → List ℕ
ordinal_name ordinal = codes "ord_" ++ decimal ordinal

-- the export of an ordinal that has no name
abbrev pub numbered_export : ℕ → Target → ExportView
numbered_export ordinal target = record empty_export {
  name = ordinal_name ordinal;
  ordinal = ordinal;
  no_name = true;
  is_data = is_data target;
}

-- the export of a name, if the name leads to a target
abbrev pub named_of : List ℕ → ℕ → Option Target → List ExportView
named_of text position None = []
named_of text position (Some target) = named_export text position target ∷ []

-- those of names, from a position on
unfoldable pub named_from : List Target → List NameEntry → ℕ → List ExportView
named_from targets [] position = []
named_from targets (n ∷ names) position =
    named_of n.text position (target_at targets n.index) ++ named_from targets names (position + 1)

-- the export of an ordinal, if there is a target
abbrev pub numbered_to : ℕ → Option Target → List ExportView
numbered_to ordinal None = []
numbered_to ordinal (Some target) = numbered_export ordinal target ∷ []

-- the target of an ordinal that has no name, if there is one
abbrev pub unnamed : List (List ℕ) → Target → Option Target
unnamed [] target = filled target
unnamed (name ∷ names) target = None

abbrev pub target_unnamed : Row → Option Target
target_unnamed row = unnamed row.names row.target

-- the export of a row, if it has a target and no name
abbrev pub numbered_of : Row → List ExportView
numbered_of row = numbered_to row.ordinal (target_unnamed row)

-- The exports of a DLL as a definition has them: first its names, in the order of the name table,
-- but for those that lead to nothing; then, in the order of ordinals, the targets without a name.
abbrev pub exports_of : Exports → List ExportView
exports_of e = named_from e.targets e.names 0 ++ flat_map numbered_of (rows_of e)
