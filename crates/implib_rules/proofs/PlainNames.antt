-- Exports as they are linked have no symbol names.
use Rattle.std.proofs.Common.{arith, ◌≡◌, drop, ℕ, Bool, true, List, [], ◌∷◌, ◌++◌, Option, if◌then◌else◌, map, refl, sym, subst}
use Rattle.std.specs.Prelude.{◌&&◌, not}
use Rattle.std.specs.List.{AllByRecursion, filter, list_all}
use Rattle.implib.specs.declared.flavor.Flavor.{Flavor}
use Rattle.implib.specs.declared.machine.MachineType.{MachineType}
use Rattle.implib.specs.declared.machine.MachineType.TheVariants.{AMD64}
use Rattle.implib.specs.Definition.{DefinitionView, ExportView}
use Rattle.implib.specs.Import.{is_empty_text, public_exports}
use Rattle.implib.specs.Renaming.{renamed, renamed_export}
use Rattle.implib.proofs.Members.MemberReadings.{all_append}
use Rattle.implib.proofs.Text.SymbolNames.{parsed_lacks}
use Rattle.implib_rules.specs.Library.{DefinitionFor, definition_for}
use Rattle.implib_rules.specs.Additions.{AdditionsView, extended_exports, prefixed, underscored}
use Rattle.implib_rules.specs.Linked.{NamingView, adds_target, alias_symbol, is_among, linked_export, linked_to, new_target, own_symbol, target_import, targets_beside, with_target}
use Rattle.implib_rules.specs.Nameless.{asking, ordinal_asked, with_ordinals}
use Rattle.implib_rules.specs.Names.{is_program, own_name}
use Rattle.implib_rules.specs.Repeats.{left_out, repeats_behind, without_repeated}
use Rattle.implib_rules.specs.Options.{LibraryOptionsView}

-- the export has no symbol name
abbrev pub IsPlain : ExportView → Type 0
IsPlain e = e.symbol_name ≡ []

module _ (machine : MachineType) (naming : NamingView) (all : List ExportView) where
  either : (symbol : Option (List ℕ)) (e : ExportView) → e.symbol_name ≡ [] → IsPlain (linked_to machine naming symbol e)
  either symbol e plain = grind arith

  plain_linked : (flavor : Flavor) (exports : List ExportView) → list_all (λ e. is_empty_text e.symbol_name) exports ≡ true → AllByRecursion IsPlain (map (linked_export machine naming flavor all) exports)
  plain_linked flavor [] plain = tt
  plain_linked flavor (e ∷ exports) plain = grind (arith, either (alias_symbol machine naming flavor all e) e, plain_linked flavor exports)

  plain_target : (b : Bool) (e : ExportView) → AllByRecursion IsPlain (if b then target_import e ∷ [] else [])
  plain_target b e = grind arith

  plain_beside : (symbols : List (List ℕ)) (exports : List ExportView) → AllByRecursion IsPlain (targets_beside machine naming all symbols exports)
  plain_beside symbols [] = tt
  plain_beside symbols (e ∷ exports) =
      all_append IsPlain (new_target machine naming all symbols e) (targets_beside machine naming all (with_target machine naming all symbols e) exports)
      (plain_target (adds_target machine naming all e && not (is_among symbols (own_symbol e))) e)
      (plain_beside (with_target machine naming all symbols e) exports)

plain_public : (exports : List ExportView) → AllByRecursion IsPlain exports → AllByRecursion IsPlain (filter (λ e. not e.private) (map renamed_export exports))
plain_public [] plain = tt
plain_public (e ∷ exports) plain = grind (arith, plain_public exports plain.1)

plain_flagged : (flags : List Bool) (exports : List ExportView) → list_all (λ e. is_empty_text e.symbol_name) exports ≡ true
    → list_all (λ e. is_empty_text e.symbol_name) (left_out flags exports) ≡ true
plain_flagged flags [] plain = plain
plain_flagged flags (e ∷ exports) plain = grind (arith, plain_flagged (drop 1 flags) exports)

plain_left_out : (exports : List ExportView) → list_all (λ e. is_empty_text e.symbol_name) exports ≡ true
    → list_all (λ e. is_empty_text e.symbol_name) (without_repeated exports) ≡ true
unfolding without_repeated
plain_left_out exports plain = plain_flagged (repeats_behind [] exports) exports plain

module _ (machine : MachineType) (naming : NamingView) (a : AdditionsView) where
  plain_underscored : (exports : List ExportView) → list_all (λ e. is_empty_text e.symbol_name) exports ≡ true
      → list_all (λ e. is_empty_text e.symbol_name) (map (underscored machine naming a) exports) ≡ true
  plain_underscored [] plain = refl
  plain_underscored (e ∷ exports) plain = grind (arith, plain_underscored exports)

  plain_further : (prefix : List ℕ) (exports : List ExportView) → list_all (λ e. is_empty_text e.symbol_name) (map (prefixed machine naming prefix) exports) ≡ true
  plain_further prefix [] = refl
  plain_further prefix (e ∷ exports) = plain_further prefix exports

  plain_both : (first second : List ExportView) → list_all (λ e. is_empty_text e.symbol_name) first ≡ true → list_all (λ e. is_empty_text e.symbol_name) second ≡ true
      → list_all (λ e. is_empty_text e.symbol_name) (first ++ second) ≡ true
  plain_both [] second one two = two
  plain_both (e ∷ first) second one two = grind (arith, plain_both first second)

  plain_extended : (exports : List ExportView) → list_all (λ e. is_empty_text e.symbol_name) exports ≡ true
      → list_all (λ e. is_empty_text e.symbol_name) (extended_exports machine naming a exports) ≡ true
  plain_extended exports plain = grind (arith, plain_both, plain_underscored, plain_further)

-- no export of a definition that is made by the rules has a symbol name, if none had one before
pub plain_for : (options : LibraryOptionsView) (parsed : DefinitionView) (own : List ℕ) (program : Bool) → list_all (λ e. is_empty_text e.symbol_name) parsed.exports ≡ true
    → AllByRecursion IsPlain (public_exports (renamed (definition_for options parsed own program)))
plain_for options parsed own program lacks = grind (arith, all_append, plain_linked, plain_left_out, plain_extended, plain_public, plain_beside)

plain_ordinals : (all exports : List ExportView) → list_all (λ e. is_empty_text e.symbol_name) exports ≡ true
    → list_all (λ e. is_empty_text e.symbol_name) (map (λ e. asking (ordinal_asked all e) e) exports) ≡ true
plain_ordinals all [] plain = plain
plain_ordinals all (e ∷ exports) plain = grind (arith, plain_ordinals all exports)

-- so of the definition of a text
pub plain_of : (text : List ℕ) (options : LibraryOptionsView) (d : DefinitionView) → DefinitionFor text options d → AllByRecursion IsPlain (public_exports (renamed d))
plain_of text options d meant =
    subst (λ (x : DefinitionView). AllByRecursion IsPlain (public_exports (renamed x))) (sym meant.is)
    (plain_for options (with_ordinals meant.parsed) (own_name meant.heard) (is_program meant.heard)
    (plain_ordinals meant.parsed.exports meant.parsed.exports (parsed_lacks text AMD64 meant.parsed meant.parses).parsed))
