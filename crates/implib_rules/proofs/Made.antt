-- From the definition of bytes to its members and its library.
use Rattle.std.proofs.Common.{arith, ◌≡◌, ◌++◌, ◌∙◌, ℕ, Bool, List, [], Result, Some, false, true, ap, map, refl, subst, sym}
use Rattle.std.specs.Prelude.{IfOk}
use Rattle.std.proofs.lemmas.List.{map-append}
use Rattle.std.specs.List.{AllByRecursion}
use Rattle.std.specs.Str.{IsUtf8}
use Rattle.implib.specs.declared.flavor.Flavor.{Flavor}
use Rattle.implib.specs.declared.flavor.Flavor.TheVariants.{Msvc, Gnu}
use Rattle.implib.specs.declared.machine.MachineType.{MachineType}
use Rattle.implib.specs.Definition.{DefinitionView, ExportView}
use Rattle.implib.specs.Fault.{Cause}
use Rattle.implib.specs.Import.{public_exports}
use Rattle.implib.specs.Library.{LibraryView}
use Rattle.implib.specs.LibraryName.{names_for}
use Rattle.implib.specs.declared.error.Error.{Error}
use Rattle.implib.specs.Members.MemberLists.{AreListsOf, ListsView, all_alias_specs, all_import_specs}
use Rattle.implib.specs.Members.MsvcMembers.{header_specs}
use Rattle.implib.proofs.Members.MemberMeanings.{reads_as_msvc}
use Rattle.implib.specs.Members.Members.{AreMembersOf, member_specs}
use Rattle.implib.specs.Members.MemberSpec.{MemberView, member_of}
use Rattle.implib.specs.Members.ReadBack.{ReadBack}
use Rattle.implib.specs.Renaming.{renamed}
use Rattle.implib.proofs.Members.Renaming.{renamed_twice}
use Rattle.implib_rules.specs.Exports.{DefinitionOfExports, MembersOfExports, of_exports}
use Rattle.implib_rules.specs.Library.{DefinitionFor, MembersFor, RefusesMembers, definition_text}
use Rattle.implib_rules.specs.Older.{AreMadeWith, MembersWith, RefusesWith, refusal_with}
use Rattle.implib_rules.specs.ExportAs.{AreMadeFor, definition_made, refusal_made, specs_made}
use Rattle.implib_rules.specs.Linked.{NamingView}
use Rattle.implib_rules.specs.Order.{AreInOrder, LibraryReads, library_specs}
use Rattle.implib_rules.specs.Options.{LibraryOptionsView}
use Rattle.implib_rules.proofs.OrderedReadings.{reads_in_order}
use Rattle.implib_rules.proofs.PlainNames.{IsPlain, plain_for, plain_of}

module _ (d : DefinitionView) (machine : MachineType) where
  -- all members of a definition that has lists of members
  pub all_made : (lists : ListsView) → AreListsOf d machine lists → AreMembersOf d machine Msvc (map member_of (member_specs (renamed d) machine Msvc))
  all_made lists are = record { accepted = are.accepted; made = refl; ordinals = are.ordinals }

  -- the lists one after another are the members in order
  in_order_of_lists : (lists : ListsView) (members : List MemberView) → renamed d ≡ d → AreListsOf d machine lists
      → members ≡ lists.header ++ (lists.imports ++ lists.aliases) → AreInOrder d machine Msvc members
  in_order_of_lists lists members once are is =
      let header = header_specs machine (names_for Msvc (renamed d)) in
      let imports = all_import_specs machine (renamed d) in
      let aliases = all_alias_specs machine (renamed d) in
      let tail : lists.imports ++ lists.aliases ≡ map member_of (imports ++ aliases) =
      ap (λ t. t ++ lists.aliases) are.imports ∙ (ap (λ t. map member_of imports ++ t) are.aliases ∙ sym (map-append member_of imports aliases)) in
      record {
        all = map member_of (member_specs (renamed d) machine Msvc);
        made = all_made lists are;
        reads = reads_as_msvc d machine (map member_of (member_specs (renamed d) machine Msvc)) (all_made lists are);
        is =
            cc (is, are.header, tail, map-append member_of header (imports ++ aliases), once);
      }

-- what a library of one flavour holds
abbrev pub held_by : DefinitionView → MachineType → Flavor → LibraryView
held_by d machine flavor = record { definition = renamed d; machine = machine; flavor = flavor }

-- the lists of a library are those of its definition
pub in_order_of_library : (d : DefinitionView) (machine : MachineType) (library : LibraryView) (lists : ListsView) (members : List MemberView)
    → library ≡ held_by d machine Msvc → AreListsOf library.definition library.machine lists
    → members ≡ lists.header ++ (lists.imports ++ lists.aliases) → AreInOrder (renamed d) machine Msvc members
in_order_of_library d machine library lists members held are is =
    in_order_of_lists (renamed d) machine lists members (renamed_twice d)
    (subst (λ (l : LibraryView). AreListsOf l.definition l.machine lists) held are) is

-- and so are the members of one for GNU's linker
pub in_order_of_gnu : {T : Type 0} (shown : T → List MemberView) (d : DefinitionView) (machine : MachineType) (library : LibraryView) (result : Result T Error)
    → library ≡ held_by d machine Gnu
    → IfOk result (λ members. AreMembersOf library.definition library.machine Gnu (shown members))
    → IfOk result (λ members. ReadBack library.definition library.machine Gnu (shown members))
    → IfOk result (λ members. AreInOrder (renamed d) machine Gnu (shown members))
in_order_of_gnu shown d machine library result held made reads = grind (arith, renamed_twice)

read_in : (d : DefinitionView) (machine : MachineType) (flavor : Flavor) (all members : List MemberView)
    → AreMembersOf (renamed d) machine flavor all → ReadBack (renamed d) machine flavor all
    → AllByRecursion IsPlain (public_exports (renamed d))
    → members ≡ map member_of (library_specs (renamed d) machine flavor) → LibraryReads (renamed d) machine flavor members
read_in d machine Msvc all members made reads plain is = grind (arith, reads_in_order (renamed d) machine all members made reads.files (renamed_twice d) plain is)
read_in d machine Gnu all members made reads plain is = tt

-- without third texts the definition that is made is the one that is meant
pub made_is : (naming : NamingView) (machine : MachineType) (flavor : Flavor) (d : DefinitionView) → naming.exports_as ≡ false → definition_made naming machine flavor d ≡ d
made_is naming machine flavor d off = grind arith

-- and so are the members of its library
pub specs_are : (naming : NamingView) (machine : MachineType) (flavor : Flavor) (d : DefinitionView) → naming.exports_as ≡ false
    → specs_made naming machine flavor d ≡ library_specs d machine flavor
specs_are naming machine flavor d off = grind arith

read_for : (naming : NamingView) (d : DefinitionView) (machine : MachineType) (flavor : Flavor) (members : List MemberView)
    → AreMadeFor naming (renamed d) machine flavor members → naming.exports_as ≡ false
    → AllByRecursion IsPlain (public_exports (renamed d)) → LibraryReads (renamed d) machine flavor members
read_for naming d machine flavor members made off plain = grind (arith, made_is, read_in, specs_are)

-- the members of the library, in order, are those for the options
pub members_made : (bytes text : List ℕ) (options : LibraryOptionsView) (d : DefinitionView) (members : List MemberView)
    → (text ≡ definition_text bytes) × IsUtf8 (definition_text bytes) → DefinitionFor text options d
    → AreMadeFor options.naming (renamed d) options.machine options.flavor members → MembersFor bytes options members
members_made bytes text options d members found meant made = record {
  utf8 = found.1;
  definition = d;
  of_text = subst (λ (t : List ℕ). DefinitionFor t options d) found.0 meant;
  made_for = made;
  library_reads = λ off. read_for options.naming d options.machine options.flavor members made off (plain_of text options d meant);
}

-- a refusal of its members is one for the options
pub members_refused : (bytes text : List ℕ) (options : LibraryOptionsView) (d : DefinitionView) (cause : Cause)
    → (text ≡ definition_text bytes) × IsUtf8 (definition_text bytes) → DefinitionFor text options d
    → refusal_made options.naming options.machine options.flavor (renamed d) ≡ Some cause → RefusesMembers bytes options cause
members_refused bytes text options d cause found meant refused = grind arith

-- with older symbols or without, the members of the definition are those for the options
pub members_asked : (older : Bool) (bytes text : List ℕ) (options : LibraryOptionsView) (d : DefinitionView) (members : List MemberView)
    → (text ≡ definition_text bytes) × IsUtf8 (definition_text bytes) → DefinitionFor text options d
    → AreMadeWith older options (renamed d) members → MembersWith older bytes options members
members_asked true bytes text options d members found meant made = record {
  utf8 = found.1;
  definition = d;
  of_text = subst (λ (t : List ℕ). DefinitionFor t options d) found.0 meant;
  made = made;
}
members_asked false bytes text options d members found meant made = members_made bytes text options d members found meant made

-- and so is a refusal of them
pub refused_asked : (older : Bool) (bytes text : List ℕ) (options : LibraryOptionsView) (d : DefinitionView) (cause : Cause)
    → (text ≡ definition_text bytes) × IsUtf8 (definition_text bytes) → DefinitionFor text options d
    → refusal_with older options (renamed d) ≡ Some cause → RefusesWith older bytes options cause
refused_asked older bytes text options d cause found meant refused = grind (arith, members_refused)

-- the members of exports, in order
pub members_of_exports : (exports : List ExportView) (options : LibraryOptionsView) (d : DefinitionView) (members : List MemberView)
    → DefinitionOfExports exports options d → AreMadeFor options.naming (renamed d) options.machine options.flavor members → MembersOfExports exports options members
members_of_exports exports options d members meant made = record {
  definition = d;
  of_exports = meant;
  made_for = made;
  library_reads = λ plain off.
      read_for options.naming d options.machine options.flavor members made off
      (subst (λ (x : DefinitionView). AllByRecursion IsPlain (public_exports (renamed x))) (sym meant.is) (plain_for options (of_exports exports) [] false plain));
}

-- the text that is read of bytes is their definition's
pub found_in : (bytes text read : List ℕ) → read ≡ definition_text bytes → (text ≡ read) × IsUtf8 read → (text ≡ definition_text bytes) × IsUtf8 (definition_text bytes)
found_in bytes text read is found = (found.0 ∙ is, subst IsUtf8 is found.1)
