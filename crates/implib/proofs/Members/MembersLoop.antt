-- The loop over a definition's exports: what is left to make.
use Rattle.std.proofs.Common.{arith, ◌≡◌, ℕ, suc, ◌+◌, ◌<◌, Bool, true, false, if◌then◌else◌, List, [], ◌∷◌, ◌++◌, length, drop, map, get_or, None, Result, Err, ap, sym, ◌∙◌, append_assoc, add-one}
use Rattle.std.specs.Prelude.{not}
use Rattle.std.specs.List.{filter, flat_map, list_all, list_any}
use Rattle.std.proofs.lemmas.List.{map-append}
use Rattle.std.proofs.lemmas.List.Folds.{list_any-append}
use Rattle.std.proofs.Math.Seq.{drop-cons}
use Rattle.implib.specs.declared.def.definition.ShortExport.{ShortExport}
use Rattle.implib.specs.declared.error.Error.{Error}
use Rattle.implib.specs.declared.error.Error.TheVariants.{Invalid, OutOfMemory}
use Rattle.implib.specs.declared.flavor.Flavor.TheVariants.{Msvc}
use Rattle.implib.specs.declared.machine.MachineType.{MachineType}
use Rattle.implib.specs.declared.msvc.members.MemberLists.{MemberLists}
use Rattle.implib.specs.Definition.{DefinitionView, ExportView, export_view}
use Rattle.implib.specs.Fault.{IfInvalid, MemberTooLong}
use Rattle.implib.specs.Import.{public_exports}
use Rattle.implib.specs.LibraryName.{NamesOfDll, names_for}
use Rattle.implib.specs.Members.MemberLists.{alias_specs, all_alias_specs, all_import_specs, import_specs}
use Rattle.implib.specs.Members.MemberSpec.{MemberSpec, MemberView, member_of}
use Rattle.implib.specs.Members.MsvcMembers.{export_specs, header_specs}
use Rattle.implib.specs.Members.Members.{has_u16_ordinal, is_too_long, member_specs}
use Rattle.implib.specs.Members.NameRules.{definition_names_refusal, name_refusal, names_refusal}
use Rattle.implib.specs.Views.Making.{MakesLists}
use Rattle.implib.proofs.Members.NotRefused.{first_none}

-- the members so far and those of the exports that are left are all; none so far is too long
pub record Left (machine : MachineType) (dll : NamesOfDll) (all : List MemberView) (long sound : Bool)
    (index : ℕ) (members : List MemberView) (exports : List ExportView) : Type 0 where
  pub named : names_refusal Msvc machine index exports ≡ None
  pub made : members ++ map member_of (flat_map (export_specs machine dll) (filter (λ e. not e.private) exports)) ≡ all
  pub fit : list_any is_too_long (flat_map (export_specs machine dll) (filter (λ e. not e.private) exports)) ≡ long
  pub ordinals : list_all has_u16_ordinal (filter (λ e. not e.private) exports) ≡ sound

module _ (machine : MachineType) (dll : NamesOfDll) (all : List MemberView) (long sound : Bool) (index : ℕ) (members : List MemberView) (e : ExportView) (exports : List ExportView) where
  rest_named : names_refusal Msvc machine index (e ∷ exports) ≡ None → names_refusal Msvc machine (index + 1) exports ≡ None
  rest_named named = (first_none (if e.private then None else name_refusal Msvc machine index e) (names_refusal Msvc machine (index + 1) exports) named).1

  kept : e.private ≡ false → filter (λ x. not x.private) (e ∷ exports) ≡ e ∷ filter (λ x. not x.private) exports
  kept public = ap (λ test. if not test then e ∷ filter (λ x. not x.private) exports else filter (λ x. not x.private) exports) public

  passed : e.private ≡ true → filter (λ x. not x.private) (e ∷ exports) ≡ filter (λ x. not x.private) exports
  passed private = ap (λ test. if not test then e ∷ filter (λ x. not x.private) exports else filter (λ x. not x.private) exports) private

  -- after a private export
  pub left_private : e.private ≡ true → Left machine dll all long sound index members (e ∷ exports) → Left machine dll all long sound (index + 1) members exports
  left_private private left = grind (arith, rest_named, passed)

  -- after an export whose members are made
  pub left_public : (extended : List MemberView) → e.private ≡ false → Left machine dll all long sound index members (e ∷ exports) →
      extended ≡ members ++ map member_of (export_specs machine dll e) → list_any is_too_long (export_specs machine dll e) ≡ false → has_u16_ordinal e ≡ true →
      Left machine dll all long sound (index + 1) extended exports
  left_public extended public left made short ordinal = grind (arith, rest_named, append_assoc, map-append, kept, list_any-append)

-- the exports from an index on are the one there and those after it
pub exports_from : (items : List ShortExport) (index : ℕ) (item : ShortExport) → index < length items → item ≡ get_or items index item →
    map export_view (drop index items) ≡ export_view item ∷ map export_view (drop (index + 1) items)
exports_from items index item below is =
    ap (map export_view) (drop-cons items index item below)
    ∙ (ap (λ (x : ShortExport). export_view x ∷ map export_view (drop (suc index) items)) (sym is)
    ∙ ap (λ n. export_view item ∷ map export_view (drop n items)) (sym (add-one index)))

-- what is listed, and what the exports that are left list, are all; none so far is too long
pub record Listed (machine : MachineType) (dll : NamesOfDll) (all_imports all_aliases : List MemberView) (long sound : Bool)
    (index : ℕ) (imports aliases : List MemberView) (exports : List ExportView) : Type 0 where
  pub named : names_refusal Msvc machine index exports ≡ None
  pub imported : imports ++ map member_of (flat_map (import_specs machine dll) (filter (λ e. not e.private) exports)) ≡ all_imports
  pub aliased : aliases ++ map member_of (flat_map (alias_specs machine dll.linked) (filter (λ e. not e.private) exports)) ≡ all_aliases
  pub fit : list_any is_too_long (flat_map (export_specs machine dll) (filter (λ e. not e.private) exports)) ≡ long
  pub ordinals : list_all has_u16_ordinal (filter (λ e. not e.private) exports) ≡ sound

-- what is found, one export more
more_found : (found more all : List MemberView) (these others : List MemberSpec) → more ≡ found ++ map member_of these
    → found ++ map member_of (these ++ others) ≡ all → more ++ map member_of others ≡ all
more_found found more all these others is whole = grind (arith, append_assoc, map-append)

module _ (machine : MachineType) (dll : NamesOfDll) (all_imports all_aliases : List MemberView) (long sound : Bool) (index : ℕ) (imports aliases : List MemberView) (e : ExportView) (exports : List ExportView) where
  -- after a private export
  pub listed_private : e.private ≡ true → Listed machine dll all_imports all_aliases long sound index imports aliases (e ∷ exports)
      → Listed machine dll all_imports all_aliases long sound (index + 1) imports aliases exports
  listed_private private before = grind (arith, passed, rest_named)

  -- after an export whose members are listed
  pub listed_public : (more_imports more_aliases : List MemberView) → e.private ≡ false
      → Listed machine dll all_imports all_aliases long sound index imports aliases (e ∷ exports)
      → more_imports ≡ imports ++ map member_of (import_specs machine dll e)
      → more_aliases ≡ aliases ++ map member_of (alias_specs machine dll.linked e)
      → list_any is_too_long (export_specs machine dll e) ≡ false → has_u16_ordinal e ≡ true
      → Listed machine dll all_imports all_aliases long sound (index + 1) more_imports more_aliases exports
  listed_public more_imports more_aliases public before imported aliased short ordinal =
      let same = kept machine dll all_imports long sound index imports e exports public in
      let these = filter (λ x. not x.private) exports in
      record {
        named = rest_named machine dll all_imports long sound index imports e exports before.named;
        imported =
            more_found imports more_imports all_imports (import_specs machine dll e) (flat_map (import_specs machine dll) these) imported
            (sym (ap (λ (x : List ExportView). imports ++ map member_of (flat_map (import_specs machine dll) x)) same) ∙ before.imported);
        aliased =
            more_found aliases more_aliases all_aliases (alias_specs machine dll.linked e) (flat_map (alias_specs machine dll.linked) these) aliased
            (sym (ap (λ (x : List ExportView). aliases ++ map member_of (flat_map (alias_specs machine dll.linked) x)) same) ∙ before.aliased);
        fit = grind (arith, list_any-append);
        ordinals = grind arith;
      }

  -- where a member of a public export is too long, one of all is
  pub long_of_listed : e.private ≡ false → Listed machine dll all_imports all_aliases long sound index imports aliases (e ∷ exports)
      → list_any is_too_long (export_specs machine dll e) ≡ true → long ≡ true
  long_of_listed public before is = grind (arith, kept, list_any-append)

-- at first nothing is listed
pub listed_at_first : (d : DefinitionView) (machine : MachineType) → definition_names_refusal d machine Msvc ≡ None
    → list_any is_too_long (header_specs machine (names_for Msvc d)) ≡ false
    → Listed machine (names_for Msvc d) (map member_of (all_import_specs machine d)) (map member_of (all_alias_specs machine d))
    (list_any is_too_long (member_specs d machine Msvc)) (list_all has_u16_ordinal (public_exports d)) 0 [] [] d.exports
listed_at_first d machine names header = grind (arith, first_none, list_any-append)

-- a call that fails
abbrev failed : Error → Result MemberLists Error
failed error = Err error

-- a call that fails only where a member is too long
pub lists_refused : (d : DefinitionView) (machine : MachineType) (error : Error)
    → IfInvalid (failed error) (λ cause. (cause ≡ MemberTooLong) × (list_any is_too_long (member_specs d machine Msvc) ≡ true))
    → MakesLists d machine (Err error)
lists_refused d machine (OutOfMemory refused) is = record { header = tt; imports = tt; aliases = tt; fit = tt; too_long = tt }
lists_refused d machine (Invalid fault) is = record { header = tt; imports = tt; aliases = tt; fit = tt; too_long = is }

pub cause_of_long : (error : Error) (a b : Bool) → (a ≡ true → b ≡ true)
    → IfInvalid {T = Unit {0}} (Err error) (λ cause. (cause ≡ MemberTooLong) × (a ≡ true))
    → IfInvalid (failed error) (λ cause. (cause ≡ MemberTooLong) × (b ≡ true))
cause_of_long (OutOfMemory refused) a b follows is = tt
cause_of_long (Invalid fault) a b follows is = (is.0, follows is.1)
