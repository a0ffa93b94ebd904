-- Exports as C passes them, read from the first to the last.
use Rattle.std.proofs.Common.{◌≡◌, ◌∙◌, ◌++◌, ◌+◌, ◌<◌, ℕ, List, [], ◌∷◌, Option, None, Some, ◌&&◌, ap, arith, get_or, length, map, refl, subst, sym, take}
use Rattle.std.proofs.lemmas.List.{get_or-map, length-map, map_more}
use Rattle.std.proofs.lemmas.List.Elements.{All-more}
use Rattle.std.proofs.lemmas.Option.{slice_get-get_or, slice_get-map}
use Rattle.std.specs.List.{list_all}
use Rattle.implib.specs.Definition.{ExportView}
use Rattle.implib.specs.Import.{is_empty_text}
use Rattle.implib_c_calls.specs.declared.export.Export.{Export}
use Rattle.implib_c_calls.specs.declared.export.ExportFault.{ExportFault}
use Rattle.implib_rules.specs.Exports.{LackSymbolNames}
use Rattle.implib_rules.specs.Nameless.{asking, ordinal_asked}
use Rattle.implib_c_calls.specs.LibraryOf.{AreGiven, GivenExport, IsAccepted, IsExportFault, IsFirstFault, export_given, exports_asked, exports_given, given_export}

-- none has a symbol name, whatever ordinals they ask for
kept : (number : Option ℕ) (e : ExportView) → (asking number e).symbol_name ≡ e.symbol_name
kept None e = refl
kept (Some number) e = refl

lack_asked : (all : List ExportView) (exports : List GivenExport) → LackSymbolNames (map (λ e. asking (ordinal_asked all e) e) (exports_given exports))
lack_asked all [] = refl
lack_asked all (e ∷ exports) =
    ap (λ name. is_empty_text name && list_all (λ e. is_empty_text e.symbol_name) (map (λ e. asking (ordinal_asked all e) e) (exports_given exports)))
    (kept (ordinal_asked all (export_given e)) (export_given e))
    ∙ lack_asked all exports

pub lack_symbol_names : (exports : List GivenExport) → LackSymbolNames (exports_asked exports)
lack_symbol_names exports = lack_asked (exports_given exports) exports

module _ (exports : List Export) (index : ℕ) (d : Export) (within : index < length exports) where
  -- one export more
  pub given_more : (name target : List ℕ) (before after : List ExportView) → AreGiven (take index (map given_export exports)) before
      → IsAccepted (given_export (get_or exports index d)) → name ≡ (given_export (get_or exports index d)).name → target ≡ (given_export (get_or exports index d)).target
      → after ≡ before ++ export_given (record (given_export (get_or exports index d)) { name = name; target = target }) ∷ []
      → AreGiven (take (index + 1) (map given_export exports)) after
  given_more name target before after given accepted name_is target_is pushed =
      let x = given_export (get_or exports index d) in
      let xs = map given_export exports in
      let here : get_or xs index x ≡ x = get_or-map given_export exports index d x within in
      let inside : index < length xs = omega (arith, within, length-map exports given_export) in
      record {
        accepted = All-more IsAccepted xs index x inside given.accepted (subst IsAccepted (sym here) accepted);
        are =
            pushed
            ∙ (ap (λ n. before ++ export_given (record x { name = n; target = target }) ∷ []) name_is
            ∙ (ap (λ t. before ++ export_given (record x { target = t }) ∷ []) target_is
            ∙ (ap (λ v. v ++ export_given x ∷ []) given.are
            ∙ (ap (λ y. exports_given (take index xs) ++ export_given y ∷ []) (sym here)
            ∙ sym (map_more export_given xs index x inside)))));
      }

  -- the first that is refused
  pub first_fault : (before : List ExportView) (fault : ExportFault) → AreGiven (take index (map given_export exports)) before
      → IsExportFault (given_export (get_or exports index d)) fault → IsFirstFault (map given_export exports) index fault
  first_fault before fault given is = grind (arith, get_or, slice_get-map, slice_get-get_or)
