-- The members for Microsoft's linker where an export may have a short import with a third text.
use Rattle.std.proofs.Common.{arith, ◌≡◌, ◌∙◌, ℕ, Bool, true, false, List, [], ◌∷◌, ◌++◌, Option, None, Some, Result, ap, drop, if◌then◌else◌, map, refl, subst, sym}
use Rattle.std.specs.Prelude.{IsErrAnd, not}
use Rattle.std.specs.List.{filter, flat_map, list_any}
use Rattle.std.proofs.lemmas.Bool.{cases_Bool, true≢false}
use Rattle.std.proofs.lemmas.List.{map-append}
use Rattle.std.proofs.lemmas.Option.{none-some}
use Rattle.std.proofs.lemmas.Slice.Eq.{bytes_eq-Decides}
use Rattle.implib.specs.declared.flavor.Flavor.TheVariants.{Msvc}
use Rattle.implib.specs.declared.machine.MachineType.{MachineType}
use Rattle.implib.specs.Definition.{DefinitionView, ExportView}
use Rattle.implib.specs.declared.error.Error.{Error}
use Rattle.implib.specs.Fault.{Cause, IfInvalid, MemberTooLong, OfCause}
use Rattle.implib.specs.Import.{is_alias, is_empty_text, public_exports}
use Rattle.implib.specs.Library.{LibraryView}
use Rattle.implib.specs.LibraryName.{NamesOfDll, names_for}
use Rattle.implib.specs.Members.MemberLists.{AreListsOf, ListsView, alias_specs, all_import_specs}
use Rattle.implib.specs.Members.Members.{is_too_long, member_specs, refusal}
use Rattle.implib.specs.Members.MemberSpec.{MemberSpec, MemberView, member_of}
use Rattle.implib.specs.Members.Msvc.{short_import_symbol}
use Rattle.implib.specs.Members.MsvcMembers.{header_specs, weak_specs}
use Rattle.implib.specs.Renaming.{renamed, renamed_export}
use Rattle.implib.proofs.Members.MemberMeanings.{reads_as_msvc}
use Rattle.implib.proofs.Members.Renaming.{renamed_twice}
use Rattle.implib_rules.specs.ExportAs.{IsExportAsLibrary, LaterView, export_as_refusal, export_as_specs, export_as_unless_private, exported_name, kept, kept_by, kept_definition, later_by, later_of, later_specs, later_specs_by, later_unless_private, placed}
use Rattle.implib_rules.specs.Linked.{makes}
use Rattle.implib_rules.proofs.Made.{all_made, held_by}
use Rattle.implib_rules.proofs.Targets.{neither}

-- what each export has, under its name to link by and unless it is private
each : {X : Type 0} (f : ExportView → List X) (exports : List ExportView)
    → flat_map (λ e. if e.private then [] else f (renamed_export e)) exports ≡ flat_map f (filter (λ e. not e.private) (map renamed_export exports))
each f [] = refl
each f (e ∷ exports) = grind (arith, each f exports)

pub laters_of_public : (machine : MachineType) (dll : NamesOfDll) (d : DefinitionView)
    → flat_map (later_unless_private machine dll) d.exports ≡ flat_map (later_of machine dll) (public_exports (renamed d))
laters_of_public machine dll d = each (later_of machine dll) d.exports

pub export_as_of_public : (machine : MachineType) (dll : NamesOfDll) (d : DefinitionView)
    → flat_map (export_as_unless_private machine dll) d.exports ≡ flat_map (export_as_specs machine dll) (public_exports (renamed d))
export_as_of_public machine dll d = each (export_as_specs machine dll) d.exports

-- an export is kept under its name to link by as it is under its own
kept_renamed_by : (o : Option (List ℕ)) (e : ExportView) → renamed_export (kept_by o e) ≡ kept_by o (renamed_export e)
kept_renamed_by o e = grind arith

kept_renamed_all : (machine : MachineType) (exports : List ExportView) → map renamed_export (map (kept machine) exports) ≡ map (kept machine) (map renamed_export exports)
kept_renamed_all machine [] = refl
kept_renamed_all machine (e ∷ exports) = simp (kept_renamed_by, kept_renamed_all machine exports)

pub kept_renamed : (machine : MachineType) (d : DefinitionView) → renamed (kept_definition machine d) ≡ kept_definition machine (renamed d)
kept_renamed machine d = ap (λ (exports : List ExportView). record d { exports = exports }) (kept_renamed_all machine d.exports)

-- so it is another symbol than the export's
other_symbol : (machine : MachineType) (symbol name : List ℕ) → is_empty_text name ≡ false → makes machine symbol name ≡ false → is_alias name symbol ≡ true
other_symbol machine symbol name full apart = grind (arith, neither, cases_Bool, true≢false, bytes_eq-Decides)

exported_alias : (machine : MachineType) (e : ExportView) (name : List ℕ) → exported_name machine (renamed_export e) ≡ Some name → is_alias name (short_import_symbol (renamed_export e)) ≡ true
exported_alias machine e name is = grind (arith, cases_Bool, none-some, other_symbol)

kept_private : (o : Option (List ℕ)) (e : ExportView) → (kept_by o e).private ≡ e.private
kept_private o e = grind arith

module _ (machine : MachineType) (dll : NamesOfDll) where
  module _ (e : ExportView) (laters : List LaterView) (rest : List MemberView) where
    -- and a short import stands in their place
    short_here : (a c : Bool) (first second : MemberSpec) (member : MemberView) → a ≡ true
        → placed (record { has_code = c; instead = Some member } ∷ laters)
        (map member_of (if c then (if a then first ∷ second ∷ [] else []) else drop 1 (if a then first ∷ second ∷ [] else [])) ++ rest)
        ≡ member ∷ placed laters rest
    short_here a c first second member is = grind (arith, true≢false)

    here : (o : Option (List ℕ)) → ((name : List ℕ) → o ≡ Some name → is_alias name (short_import_symbol e) ≡ true)
        → placed (later_by machine dll e o ++ laters) (map member_of (alias_specs machine dll.linked (kept_by o e)) ++ rest)
        ≡ map member_of (later_specs_by machine dll e o) ++ placed laters rest
    unfolding weak_specs
    here o alias = grind (arith, short_here)

  abbrev Public : List ExportView → List ExportView
  Public exports = filter (λ e. not e.private) (map renamed_export exports)

  abbrev KeptPublic : List ExportView → List ExportView
  KeptPublic exports = filter (λ e. not e.private) (map (kept machine) (map renamed_export exports))

  -- what all exports have after all imports
  pub placed_all : (exports : List ExportView)
      → placed (flat_map (later_of machine dll) (Public exports)) (map member_of (flat_map (alias_specs machine dll.linked) (KeptPublic exports)))
      ≡ map member_of (flat_map (later_specs machine dll) (Public exports))
  placed_all [] = refl
  placed_all (e ∷ exports) =
      ap (λ p. placed (flat_map (later_of machine dll) (if not e.private then renamed_export e ∷ Public exports else Public exports))
      (map member_of (flat_map (alias_specs machine dll.linked) (if not p then kept machine (renamed_export e) ∷ KeptPublic exports else KeptPublic exports))))
      (kept_private (exported_name machine (renamed_export e)) (renamed_export e))
      ∙ by (placed_all exports) e.private
    where
      by : placed (flat_map (later_of machine dll) (Public exports)) (map member_of (flat_map (alias_specs machine dll.linked) (KeptPublic exports)))
          ≡ map member_of (flat_map (later_specs machine dll) (Public exports))
          → (p : Bool)
          → placed (flat_map (later_of machine dll) (if not p then renamed_export e ∷ Public exports else Public exports))
          (map member_of (flat_map (alias_specs machine dll.linked) (if not p then kept machine (renamed_export e) ∷ KeptPublic exports else KeptPublic exports)))
          ≡ map member_of (flat_map (later_specs machine dll) (if not p then renamed_export e ∷ Public exports else Public exports))
      by others_are true = others_are
      by others_are false =
          let x = renamed_export e in
          let others = Public exports in
          let kept_others = KeptPublic exports in
          ap (placed (later_of machine dll x ++ flat_map (later_of machine dll) others))
          (map-append member_of (alias_specs machine dll.linked (kept machine x)) (flat_map (alias_specs machine dll.linked) kept_others))
          ∙ here x (flat_map (later_of machine dll) others) (map member_of (flat_map (alias_specs machine dll.linked) kept_others)) (exported_name machine x) (exported_alias machine e)
          ∙ ap (λ l. map member_of (later_specs machine dll x) ++ l) others_are
          ∙ sym (map-append member_of (later_specs machine dll x) (flat_map (later_specs machine dll) others))

module _ (d : DefinitionView) (machine : MachineType) where
  same_specs : (names : NamesOfDll) (exports : List ExportView) → names ≡ names_for Msvc d → exports ≡ d.exports
      → list_any is_too_long (flat_map (export_as_unless_private machine names) exports) ≡ list_any is_too_long (flat_map (export_as_unless_private machine (names_for Msvc d)) d.exports)
  same_specs names exports named exports_are = rw (named, exports_are) refl

  -- lists of the definition with aliases, and what stands in their place
  pub is_export_as_library : (library : LibraryView) (lists : ListsView) (names : NamesOfDll) (exports : List ExportView) (laters : List LaterView) (members : List MemberView)
      → library ≡ held_by (kept_definition machine d) machine Msvc → AreListsOf library.definition library.machine lists
      → names ≡ names_for Msvc d → exports ≡ d.exports
      → laters ≡ flat_map (later_unless_private machine names) exports
      → list_any is_too_long (flat_map (export_as_unless_private machine names) exports) ≡ false
      → members ≡ lists.header ++ (lists.imports ++ placed laters lists.aliases) → IsExportAsLibrary (renamed d) machine members
  is_export_as_library library lists names exports laters members held lists_of named exports_are later fits is =
      let e = renamed d in
      let k = kept_definition machine e in
      let dll = names_for Msvc d in
      let library_is : library ≡ record { definition = k; machine = machine; flavor = Msvc } =
      held ∙ ap (λ (x : DefinitionView). record { definition = x; machine = machine; flavor = Msvc }) (kept_renamed machine d) in
      let are = subst (λ (l : LibraryView). AreListsOf l.definition l.machine lists) library_is lists_of in
      let once : renamed k ≡ k = kept_renamed machine e ∙ ap (kept_definition machine) (renamed_twice d) in
      let header = header_specs machine dll in
      let imports = all_import_specs machine k in
      let others = flat_map (later_specs machine dll) (public_exports e) in
      let last : placed laters lists.aliases ≡ map member_of others =
      cc (later, named, exports_are, laters_of_public machine dll d, are.aliases, once, placed_all machine dll d.exports) in
      let all = map member_of (member_specs (renamed k) machine Msvc) in
      record {
        fit = ap (λ b. if b then Some MemberTooLong else None) (ap (list_any is_too_long) (sym (export_as_of_public machine dll d)) ∙ sym (same_specs names exports named exports_are) ∙ fits);
        all = all;
        made = all_made k machine lists are;
        reads = reads_as_msvc k machine all (all_made k machine lists are);
        is =
            cc (is, are.header, once, are.imports, last, map-append member_of imports others, map-append member_of header (imports ++ others));
      }

  -- why the members of such a definition are refused
  pub names_refused : (library : LibraryView) (cause : Cause) → library ≡ held_by (kept_definition machine d) machine Msvc
      → refusal library.definition library.machine Msvc ≡ Some cause → export_as_refusal (renamed d) machine ≡ Some cause
  names_refused library cause held refused = grind (arith, kept_renamed)

  pub too_long_refused : (library : LibraryView) (lists : ListsView) (names : NamesOfDll) (exports : List ExportView) (cause : Cause) → names ≡ names_for Msvc d → exports ≡ d.exports → library ≡ held_by (kept_definition machine d) machine Msvc
      → AreListsOf library.definition library.machine lists → cause ≡ MemberTooLong
      → list_any is_too_long (flat_map (export_as_unless_private machine names) exports) ≡ true
      → export_as_refusal (renamed d) machine ≡ Some cause
  too_long_refused library lists names exports cause named exports_are held lists_of is long = grind (arith, kept_renamed, export_as_of_public, same_specs)

-- an error that is handed on is refused for what it was
pub handed_on : {U : Type 0} (P Q : Cause → Type 0) (error : Error) (result : Result U Error) → IsErrAnd result (λ e. e ≡ error)
    → ((cause : Cause) → P cause → Q cause) → OfCause P error → IfInvalid result Q
handed_on P Q error result is so holds = grind arith

-- exports that are kept are those of the definition that is
pub held_kept : (d : DefinitionView) (machine : MachineType) (library : LibraryView) (exports : List ExportView)
    → library ≡ held_by (record d { exports = exports }) machine Msvc → exports ≡ map (kept machine) d.exports → library ≡ held_by (kept_definition machine d) machine Msvc
held_kept d machine library exports held kept_are = held ∙ ap (λ (l : List ExportView). held_by (record d { exports = l }) machine Msvc) kept_are
