-- Aliases of exports that the DLL has by their ordinals alone: they ask for the ordinal, since the
-- DLL has no name to ask for.
use Rattle.std.specs.Prelude.{ℕ, ◌&&◌, not, List, [], ◌∷◌, Option, None, Some, if◌then◌else◌, bytes_eq}
use Rattle.std.specs.Prelude.{drop, map, true}
use Rattle.std.specs.List.{find}
use Rattle.std.specs.Option.{option_and_then}
use Rattle.implib.specs.Definition.{DefinitionView, ExportView}
use Rattle.implib_rules.specs.Linked.{has_target, word_of}
use Rattle.implib_rules.specs.Views.{first_given}

-- the ordinal of an export without a name
abbrev pub nameless : ExportView → Option ℕ
nameless e = if e.no_name then Some e.ordinal else None

-- the ordinal that an export among others asks for by its word after `==`: that of the first export
-- of the word, if that is without a name
abbrev pub ordinal_asked : List ExportView → ExportView → Option ℕ
ordinal_asked exports e =
    if has_target e && not e.no_name
    then option_and_then nameless (find (λ x. bytes_eq e.alias_target (word_of x)) exports)
    else None

-- an export that asks for this ordinal, if one is given
abbrev pub asking : Option ℕ → ExportView → ExportView
asking None e = e
asking (Some number) e = record e { alias_target = []; no_name = true; ordinal = number }

-- A definition with such aliases by ordinal. For example, with `f @5 NONAME` the export `g == f` is
-- `g @5 NONAME`.
abbrev pub with_ordinals : DefinitionView → DefinitionView
with_ordinals d = record d {
  exports = map (λ e. asking (ordinal_asked d.exports e) e) d.exports;
}

-- View: exports that ask for the ordinals of a list, one by one.
abbrev pub asking_by : List (Option ℕ) → List ExportView → List ExportView
asking_by ordinals [] = []
asking_by ordinals (e ∷ exports) =
    asking (first_given ordinals) e ∷ asking_by (drop 1 ordinals) exports
