-- A library for Microsoft's linkers begins with the members of its DLL, and its definition is one.
use Rattle.std.proofs.Common.{◌≡◌, ℕ, ◌<◌, Bool, true, false, if◌then◌else◌, List, ◌++◌, drop, length, map, sym, subst, ap, ◌∙◌, arith}
use Rattle.std.specs.Str.{IsUtf8}
use Rattle.std.specs.List.{list_any}
use Rattle.std.proofs.lemmas.List.{length-map, map-append}
use Rattle.implib.specs.declared.flavor.Flavor.{Flavor}
use Rattle.implib.specs.declared.flavor.Flavor.TheVariants.{Msvc}
use Rattle.implib.specs.declared.machine.MachineType.{MachineType}
use Rattle.implib.specs.Definition.{DefinitionView}
use Rattle.implib.specs.Import.{holds}
use Rattle.implib.specs.LibraryName.{NamesOfDll, linked_dll, names_for}
use Rattle.implib.specs.Members.MemberSpec.{MemberSpec, MemberView, member_of}
use Rattle.implib.specs.declared.member.Member.{Member}
use Rattle.implib.specs.Library.{member_view}
use Rattle.implib.specs.Members.Members.{AreMembersOf, is_too_long}
use Rattle.implib.specs.Members.MsvcMembers.{descriptor_spec, header_specs, null_thunk_spec}
use Rattle.implib.specs.Members.MsvcObjects.{descriptor_symbol, null_thunk_symbol}
use Rattle.implib.specs.Renaming.{renamed}
use Rattle.implib.proofs.Members.NotRefused.{linked_is_free}
use Rattle.implib_archive.specs.Sources.{member_at, symbol_at}
use Rattle.implib_rules.specs.ExportAs.{definition_made, kept_definition, specs_made}
use Rattle.implib_rules.specs.Library.{DefinitionFor, MembersFor, definition_text}
use Rattle.implib_rules.specs.Linked.{NamingView}
use Rattle.implib_rules.specs.Options.{LibraryOptionsView}
use Rattle.implib_rules.proofs.Made.{found_in}
use Rattle.implib_rules.proofs.OneDefinition.{one_for}
use Rattle.implib_libraries.specs.NullDescriptor.Libraries.{AreHeadersFor, NamedMembersFor, with_named_null}
use Rattle.implib_libraries.specs.NullDescriptor.Named.{named_specs}

-- members that begin with those of a DLL
pub record Headed (machine : MachineType) (dll : NamesOfDll) (members : List MemberView) : Type 0 where
  pub rest : List MemberView
  pub is : members ≡ map member_of (header_specs machine dll) ++ rest

headed_by : (machine : MachineType) (dll : NamesOfDll) (first second : List MemberSpec) (test : Bool) (members : List MemberView)
    → members ≡ map member_of (if test then header_specs machine dll ++ first else header_specs machine dll ++ second) → Headed machine dll members
headed_by machine dll first second true members is = record { rest = map member_of first; is = is ∙ map-append member_of (header_specs machine dll) first }
headed_by machine dll first second false members is = record { rest = map member_of second; is = is ∙ map-append member_of (header_specs machine dll) second }

headed_in : (flavor : Flavor) → flavor ≡ Msvc → (naming : NamingView) (machine : MachineType) (d : DefinitionView) (members : List MemberView)
    → members ≡ map member_of (specs_made naming machine flavor d) → Headed machine (names_for Msvc d) members
headed_in flavor msvc naming machine d members is =
    headed_by machine (names_for Msvc d) _ _ naming.exports_as members (is ∙ ap (λ f. map member_of (specs_made naming machine f d)) msvc)

free_by : (machine : MachineType) (d : DefinitionView) (all : List MemberView) (test : Bool) → AreMembersOf (if test then kept_definition machine d else d) machine Msvc all
    → holds 0 (linked_dll d) ≡ false
free_by machine d all true made = linked_is_free (kept_definition machine d) machine Msvc all made
free_by machine d all false made = linked_is_free d machine Msvc all made

free_in : (flavor : Flavor) → flavor ≡ Msvc → (naming : NamingView) (machine : MachineType) (d : DefinitionView) (all : List MemberView)
    → AreMembersOf (definition_made naming machine flavor d) machine flavor all → holds 0 (linked_dll d) ≡ false
free_in flavor msvc naming machine d all made =
    free_by machine d all naming.exports_as (subst (λ f. AreMembersOf (definition_made naming machine f d) machine f all) msvc made)

-- of the library of a definition for Microsoft's linkers
module _ (bytes : List ℕ) (options : LibraryOptionsView) (members : List MemberView) (made : MembersFor bytes options members) (msvc : options.flavor ≡ Msvc) where
  pub headed : Headed options.machine (names_for Msvc made.definition) members
  headed = headed_in options.flavor msvc options.naming options.machine (renamed made.definition) members made.made_for.is

  pub library_free : holds 0 (linked_dll made.definition) ≡ false
  library_free = free_in options.flavor msvc options.naming options.machine (renamed made.definition) made.made_for.all made.made_for.made

  pub long_enough : 2 < length members
  unfolding header_specs
  long_enough = rw headed.is (omega arith)

  pub first_listed : 0 < length (member_at members 0).symbols
  unfolding header_specs descriptor_spec
  first_listed = rw headed.is (omega arith)

  pub third_listed : 0 < length (member_at members 2).symbols
  unfolding header_specs null_thunk_spec
  third_listed = rw headed.is (omega arith)

  pub first_symbol : symbol_at (member_at members 0) 0 ≡ descriptor_symbol (linked_dll made.definition)
  unfolding header_specs descriptor_spec
  first_symbol = ap (λ ms. symbol_at (member_at ms 0) 0) headed.is

  pub third_symbol : symbol_at (member_at members 2) 0 ≡ null_thunk_symbol (linked_dll made.definition)
  unfolding header_specs null_thunk_spec
  third_symbol = ap (λ ms. symbol_at (member_at ms 2) 0) headed.is

  -- the same by any definition of the text
  module _ (other : DefinitionView) (of_text : DefinitionFor (definition_text bytes) options other) where
    pub same : made.definition ≡ other
    same = one_for (definition_text bytes) options made.definition other made.utf8 made.of_text of_text

    pub other_free : holds 0 (linked_dll other) ≡ false
    other_free = subst (λ d. holds 0 (linked_dll d) ≡ false) same library_free

    pub first_symbol_by : symbol_at (member_at members 0) 0 ≡ descriptor_symbol (linked_dll other)
    first_symbol_by = first_symbol ∙ ap (λ d. descriptor_symbol (linked_dll d)) same

    pub third_symbol_by : symbol_at (member_at members 2) 0 ≡ null_thunk_symbol (linked_dll other)
    third_symbol_by = third_symbol ∙ ap (λ d. null_thunk_symbol (linked_dll d)) same

    pub names_by : names_for Msvc made.definition ≡ names_for Msvc other
    names_by = ap (names_for Msvc) same

    -- a member that is too long by these names is so by those of the definition
    pub too_long_by : (linked text : List ℕ) → linked ≡ linked_dll other → text ≡ other.import_name
        → list_any is_too_long (named_specs options.machine (record { linked = linked; text = text })) ≡ true
        → list_any is_too_long (named_specs options.machine (names_for Msvc made.definition)) ≡ true
    too_long_by linked text linked_is text_is =
        subst (λ (dll : NamesOfDll). list_any is_too_long (named_specs options.machine dll) ≡ true)
        (ap (λ l. record { linked = l; text = text }) linked_is ∙ ap (λ x. record { linked = linked_dll other; text = x }) text_is ∙ sym names_by)

  -- the two in front of the others
  pub named_made : (headers : List MemberView) (count : ℕ) → AreHeadersFor bytes options headers → count ≡ 2 → NamedMembersFor bytes options (headers ++ drop count members)
  named_made headers count are two = record {
    ordinary = members;
    members_for = made;
    is =
        ap (λ n. headers ++ drop n members) two
        ∙ ap (λ hs. hs ++ drop 2 members) (are.are ∙ ap (λ dll. map member_of (named_specs options.machine dll)) (sym (names_by are.definition are.of_text)))
        ∙ sym (ap (λ f. with_named_null options.machine f (names_for f made.definition) members) msvc);
  }

-- the two are two
pub two_headers : (headers : List Member) (bytes : List ℕ) (options : LibraryOptionsView) → AreHeadersFor bytes options (map member_view headers) → length headers ≡ 2
two_headers headers bytes options are = sym (length-map headers member_view) ∙ ap length are.are

-- the definition of the text that was read of bytes
pub of_bytes : (bytes text read : List ℕ) (options : LibraryOptionsView) (d : DefinitionView) → read ≡ definition_text bytes → (text ≡ read) × IsUtf8 read
    → DefinitionFor text options d → DefinitionFor (definition_text bytes) options d
of_bytes bytes text read options d is found meant = subst (λ t. DefinitionFor t options d) (found_in bytes text read is found).0 meant
