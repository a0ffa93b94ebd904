-- What is known of a definition that no rule refuses, in either flavour.
use Rattle.std.proofs.Common.{◌≡◌, ℕ, ◌+◌, ◌≤◌, Bool, true, false, if◌then◌else◌, ◌||◌, List, [], ◌∷◌, ◌++◌, codes, map, Option, Some, None, refl, ◌∙◌}
use Rattle.std.specs.Prelude.{◌==◌, ◌&&◌, bytes_eq, is_some, not, unwrap_or}
use Rattle.std.specs.List.{AllByRecursion, filter, list_all, list_any}
use Rattle.std.specs.Option.{option_map}
use Rattle.std.proofs.lemmas.Bool.{and_parts, ltb-false, or_from, or_parts}
use Rattle.std.proofs.lemmas.List.Folds.{list_any-append}
use Rattle.std.proofs.lemmas.Slice.Eq.{bytes_eq-Decides}
use Rattle.implib.specs.declared.flavor.Flavor.{Flavor}
use Rattle.implib.specs.declared.flavor.Flavor.TheVariants.{Msvc, Gnu}
use Rattle.implib.specs.declared.machine.MachineType.{MachineType}
use Rattle.implib.specs.Definition.{DefinitionView, ExportView, given_name}
use Rattle.implib.specs.Fault.{Cause, EmptyAskedName, EmptyImportName, EmptyLibraryName, LineEndInLibraryName, NoNameType, NulInImportName, NulInLibraryName, EmptyName, NulInExport, MemberTooLong}
use Rattle.implib.specs.Ascii.{line_feed, without_first}
use Rattle.implib.specs.LibraryName.{linked_in}
use Rattle.implib.specs.Import.{holds, is_empty_text, name_asked, public_exports}
use Rattle.implib.specs.Members.Members.{AreMembersOf, has_u16_ordinal, is_too_long, length_refusal, member_specs, refusal, renamed_refusal}
use Rattle.implib.specs.Members.MemberSpec.{MemberView, MemberSpec, file_size}
use Rattle.implib.specs.Members.NameRules.{asked_in, asks_another, definition_names_refusal, first_of_both, holds_nul, import_name_refusal, library_name_refusal, name_refusal, name_to_ask, names_refusal}
use Rattle.implib.specs.Renaming.{renamed, renamed_export}
use Rattle.implib.specs.Underscore.{asked_name, has_underscore}

-- an export by name asks for no other name than the one that it gives, if it gives one
abbrev pub AsksNoOther : Flavor → MachineType → ExportView → Type 0
AsksNoOther flavor machine e = e.no_name ≡ false → asks_another flavor machine e ≡ false

-- an export that is named, whose texts have no NUL and whose ordinal has 16 bits
pub record Sound (e : ExportView) : Type 0 where
  pub filled : is_empty_text e.name ≡ false
  pub name : holds 0 e.name ≡ false
  pub symbol_name : holds 0 e.symbol_name ≡ false
  pub alias_target : holds 0 e.alias_target ≡ false
  pub asked_name : holds 0 (given_name e) ≡ false
  pub ordinal : has_u16_ordinal e ≡ true

pub if_none : {X : Type 0} (test : Bool) (x : X) (otherwise : Option X) → (if test then Some x else otherwise) ≡ None → (test ≡ false) × (otherwise ≡ None)
if_none true x otherwise none = cc
if_none false x otherwise none = (refl, none)

pub first_none : (first second : Option Cause) → first_of_both first second ≡ None → (first ≡ None) × (second ≡ None)
first_none (Some cause) second none = cc
first_none None second none = (refl, none)

-- the name for the linker has no NUL
library_name_free : (name : List ℕ) → library_name_refusal (Some name) ≡ None → holds 0 name ≡ false
library_name_free name none =
    let filled = if_none (is_empty_text name) EmptyLibraryName (if holds 0 name then Some NulInLibraryName else if holds line_feed name then Some LineEndInLibraryName else None) none in
    (if_none (holds 0 name) NulInLibraryName _ filled.1).0

linked_name_free : (given : Option (List ℕ)) (dll : List ℕ) → library_name_refusal given ≡ None → holds 0 dll ≡ false → holds 0 (unwrap_or given dll) ≡ false
linked_name_free None dll none free = free
linked_name_free (Some name) dll none free = library_name_free name none

linked_dll_free : (given : Option (List ℕ)) (dll : List ℕ) → library_name_refusal given ≡ None → holds 0 dll ≡ false →
    holds 0 (unwrap_or (option_map (λ name. name ++ codes ".dll") given) dll) ≡ false
linked_dll_free None dll none free = free
linked_dll_free (Some name) dll none free =
    list_any-append (λ b. b == 0) name (codes ".dll") ∙ or_from (holds 0 name) false (library_name_free name none) refl

pub linked_free : (flavor : Flavor) (d : DefinitionView) → library_name_refusal d.library_name ≡ None → holds 0 d.import_name ≡ false → holds 0 (linked_in flavor d) ≡ false
linked_free Msvc d none free = linked_dll_free d.library_name d.import_name none free
linked_free Gnu d none free = linked_name_free d.library_name d.import_name none free

import_name_free : (name : List ℕ) → import_name_refusal name ≡ None → holds 0 name ≡ false
import_name_free name none =
    let filled = if_none (is_empty_text name) EmptyImportName (if holds 0 name then Some NulInImportName else None) none in
    (if_none (holds 0 name) NulInImportName None filled.1).0

sound_of : (flavor : Flavor) (machine : MachineType) (index : ℕ) (e : ExportView) → name_refusal flavor machine index e ≡ None → has_u16_ordinal e ≡ true → Sound e
sound_of flavor machine index e none ordinal =
    let filled = if_none (is_empty_text e.name) (EmptyName index) _ none in
    let free = if_none (holds_nul e) (NulInExport index) _ filled.1 in
    let three = or_parts (holds 0 e.name || holds 0 e.symbol_name || holds 0 e.alias_target) (holds 0 (given_name e)) free.0 in
    let two = or_parts (holds 0 e.name || holds 0 e.symbol_name) (holds 0 e.alias_target) three.0 in
    let one = or_parts (holds 0 e.name) (holds 0 e.symbol_name) two.0 in
    record { filled = filled.0; name = one.0; symbol_name = one.1; alias_target = two.1; asked_name = three.1; ordinal = ordinal }

by_name_alone : (no_name other : Bool) → (not no_name && other) ≡ false → no_name ≡ false → other ≡ false
by_name_alone true other none by_name = cc
by_name_alone false other none by_name = none

asks_of : (flavor : Flavor) (machine : MachineType) (index : ℕ) (e : ExportView) → name_refusal flavor machine index e ≡ None → AsksNoOther flavor machine e
asks_of flavor machine index e none =
    let filled = if_none (is_empty_text e.name) (EmptyName index) _ none in
    let free = if_none (holds_nul e) (NulInExport index) _ filled.1 in
    let something = if_none (not e.no_name && is_empty_text (name_to_ask flavor machine e)) (EmptyAskedName index) _ free.1 in
    let other = if_none (not e.no_name && asks_another flavor machine e) (NoNameType index) None something.1 in
    by_name_alone e.no_name (asks_another flavor machine e) other.0

all_ask : (flavor : Flavor) (machine : MachineType) (index : ℕ) (exports : List ExportView) → names_refusal flavor machine index exports ≡ None →
    AllByRecursion (AsksNoOther flavor machine) (filter (λ e. not e.private) exports)
all_ask flavor machine index [] none = tt
all_ask flavor machine index (e ∷ exports) none =
    let parts = first_none (if e.private then None else name_refusal flavor machine index e) (names_refusal flavor machine (index + 1) exports) none in
    by e.private parts.0 (all_ask flavor machine (index + 1) exports parts.1)
  where
    by : (private : Bool) → (if private then None else name_refusal flavor machine index e) ≡ None →
        AllByRecursion (AsksNoOther flavor machine) (filter (λ x. not x.private) exports) →
        AllByRecursion (AsksNoOther flavor machine) (if not private then e ∷ filter (λ x. not x.private) exports else filter (λ x. not x.private) exports)
    by true none others = others
    by false none others = (asks_of flavor machine index e none, others)

all_sound : (flavor : Flavor) (machine : MachineType) (index : ℕ) (exports : List ExportView) → names_refusal flavor machine index exports ≡ None →
    list_all has_u16_ordinal (filter (λ e. not e.private) exports) ≡ true → AllByRecursion Sound (filter (λ e. not e.private) exports)
all_sound flavor machine index [] none ordinals = tt
all_sound flavor machine index (e ∷ exports) none ordinals =
    let parts = first_none (if e.private then None else name_refusal flavor machine index e) (names_refusal flavor machine (index + 1) exports) none in
    by e.private parts.0 ordinals (all_sound flavor machine (index + 1) exports parts.1)
  where
    by : (private : Bool) → (if private then None else name_refusal flavor machine index e) ≡ None →
        list_all has_u16_ordinal (if not private then e ∷ filter (λ x. not x.private) exports else filter (λ x. not x.private) exports) ≡ true →
        (list_all has_u16_ordinal (filter (λ x. not x.private) exports) ≡ true → AllByRecursion Sound (filter (λ x. not x.private) exports)) →
        AllByRecursion Sound (if not private then e ∷ filter (λ x. not x.private) exports else filter (λ x. not x.private) exports)
    by true none ordinals others = others ordinals
    by false none ordinals others =
        let two = and_parts (has_u16_ordinal e) (list_all has_u16_ordinal (filter (λ x. not x.private) exports)) ordinals in
        (sound_of flavor machine index e none two.0, others two.1)

negated : (test : Bool) → not test ≡ false → test ≡ true
negated true none = refl
negated false none = cc

no_other : (given : Option (List ℕ)) (asked name : List ℕ) → (is_some given && not (bytes_eq asked (unwrap_or given []))) ≡ false → given ≡ Some name → asked ≡ name
no_other None asked name none is = cc
no_other (Some given) asked name none is =
    let same : asked ≡ given = (bytes_eq-Decides asked given).0 (negated (bytes_eq asked given) none) in
    let named : given ≡ name = cc in
    same ∙ named

-- an export that gives a name and asks for no other asks for that one
pub given_asked : (flavor : Flavor) (machine : MachineType) (e : ExportView) (name : List ℕ) → AsksNoOther flavor machine e → e.asked_name ≡ Some name → e.no_name ≡ false →
    asked_in flavor machine e ≡ name
given_asked flavor machine e name asks is by_name = no_other e.asked_name (asked_in flavor machine e) name (asks by_name) is

stripped_free : (stripped : Bool) (name : List ℕ) → holds 0 name ≡ false → holds 0 (if stripped then without_first name else name) ≡ false
stripped_free false name free = free
stripped_free true [] free = refl
stripped_free true (b ∷ name) free = (or_parts (b == 0) (holds 0 name) free).1

given_free : (given : Option (List ℕ)) (name : List ℕ) → holds 0 (unwrap_or given []) ≡ false → holds 0 name ≡ false → holds 0 (unwrap_or given name) ≡ false
given_free None name given_is name_is = name_is
given_free (Some given) name given_is name_is = given_is

-- the name that is asked for has no NUL
pub name_asked_free : (machine : MachineType) (e : ExportView) → Sound e → holds 0 (name_asked machine e) ≡ false
name_asked_free machine e sound =
    given_free e.asked_name (asked_name machine e.name) sound.asked_name (stripped_free (has_underscore machine e.name) e.name sound.name)

pub short_enough : (p : MemberSpec) → is_too_long p ≡ false → file_size p.contents ≤ 0xFFFF_FFFF
short_enough p short = ltb-false 0xFFFF_FFFF (file_size p.contents) short

-- what is known of a definition that breaks no rule on names
module _ (d : DefinitionView) (machine : MachineType) (flavor : Flavor) (names : definition_names_refusal (renamed d) machine flavor ≡ None) where
  library_refusals : (import_name_refusal d.import_name ≡ None)
      × (first_of_both (library_name_refusal d.library_name) (names_refusal flavor machine 0 (map renamed_export d.exports)) ≡ None)
  library_refusals = first_none (import_name_refusal d.import_name) _ names

  name_refusals : (library_name_refusal d.library_name ≡ None) × (names_refusal flavor machine 0 (map renamed_export d.exports) ≡ None)
  name_refusals = first_none (library_name_refusal d.library_name) (names_refusal flavor machine 0 (map renamed_export d.exports)) library_refusals.1

  pub text_free_by_names : holds 0 d.import_name ≡ false
  text_free_by_names = import_name_free d.import_name library_refusals.0

  pub linked_free_by_names : holds 0 (linked_in flavor d) ≡ false
  linked_free_by_names = linked_free flavor d name_refusals.0 text_free_by_names

  pub sound_by_names : list_all has_u16_ordinal (public_exports (renamed d)) ≡ true → AllByRecursion Sound (public_exports (renamed d))
  sound_by_names ordinals = all_sound flavor machine 0 (map renamed_export d.exports) name_refusals.1 ordinals

-- and of one that is not refused
module _ (d : DefinitionView) (machine : MachineType) (flavor : Flavor) (members : List MemberView) (made : AreMembersOf d machine flavor members) where
  refusals : (definition_names_refusal (renamed d) machine flavor ≡ None) × (length_refusal (member_specs (renamed d) machine flavor) ≡ None)
  unfolding refusal renamed_refusal
  refusals = first_none (definition_names_refusal (renamed d) machine flavor) (length_refusal (member_specs (renamed d) machine flavor)) made.accepted

  pub import_name_is_free : holds 0 d.import_name ≡ false
  import_name_is_free = text_free_by_names d machine flavor refusals.0

  pub linked_is_free : holds 0 (linked_in flavor d) ≡ false
  linked_is_free = linked_free_by_names d machine flavor refusals.0

  pub exports_sound : AllByRecursion Sound (public_exports (renamed d))
  exports_sound = sound_by_names d machine flavor refusals.0 made.ordinals

  pub exports_ask : AllByRecursion (AsksNoOther flavor machine) (public_exports (renamed d))
  exports_ask = all_ask flavor machine 0 (map renamed_export d.exports) (name_refusals d machine flavor refusals.0).1

  pub none_long : list_any is_too_long (member_specs (renamed d) machine flavor) ≡ false
  none_long = (if_none (list_any is_too_long (member_specs (renamed d) machine flavor)) MemberTooLong None refusals.1).0
