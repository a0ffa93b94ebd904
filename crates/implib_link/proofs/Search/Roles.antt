-- The members of a library in either flavour, by their roles: what each is listed for, and what a linker takes it for.
use Rattle.std.proofs.Common.{rules, arith, ◌≡◌, ℕ, Bool, true, false, List, [], ◌∷◌, Some, refl}
use Rattle.std.specs.Prelude.{slice_get}
use Rattle.implib.specs.declared.flavor.Flavor.{Flavor}
use Rattle.implib.specs.declared.flavor.Flavor.TheVariants.{Gnu, Msvc}
use Rattle.implib.specs.declared.machine.MachineType.{MachineType}
use Rattle.implib.specs.Definition.{ExportView}
use Rattle.implib.specs.Formats.Object.{Object, object_in}
use Rattle.implib.specs.Import.{imp_symbol, is_alias}
use Rattle.implib.specs.LibraryName.{linked_dll, linked_name, names_for}
use Rattle.implib.specs.Members.Gnu.{head_object, head_symbol, iname_symbol, tail_object, weak_name}
use Rattle.implib.specs.Members.GnuMembers.{export_spec, head_spec, tail_spec}
use Rattle.implib.specs.Members.Members.{AreMembersOf}
use Rattle.implib.specs.Members.MemberSpec.{MemberSpec, MemberView, member_of}
use Rattle.implib.specs.Members.Msvc.{short_import_symbol}
use Rattle.implib.specs.Members.MsvcMembers.{descriptor_spec, null_descriptor_spec, null_thunk_spec}
use Rattle.implib.specs.Members.MsvcObjects.{descriptor_symbol, null_descriptor_symbol, null_thunk_symbol}
use Rattle.implib.specs.Members.WeakExternal.{weak_object, weak_spec}
use Rattle.implib.specs.Formats.Layout.{entries_of, name_text, object_of}
use Rattle.implib.proofs.Link.Placement.{export, head, tail}
use Rattle.implib_link.specs.Flavors.Expansion.{expanded_in, with_section_symbols}
use Rattle.implib_link.specs.Flavors.Program.{IsFoundByName, ask_in, symbol_in, claimed_names}
use Rattle.implib_link.specs.Search.Search.{IsLibrary, Library, exports_of, has_weak, undefined_in}
use Rattle.implib_link.specs.Search.Libraries.{FlavorLibrary, msvc_among, symbols_in, is_short_alias}
use Rattle.implib_link.proofs.Flavors.Block.{asking, use_for, claimed_export, claimed_head, claimed_tail}
use Rattle.implib_link.proofs.Flavors.Inputs.{claims_asking, claims_descriptor, claims_null, claims_thunk, head_taken, tail_taken, export_taken, spec_taken, spec_held}
use Rattle.implib_link.proofs.Flavors.Expanded.{taken_descriptor, taken_null, taken_null_thunk}
use Rattle.implib_link.proofs.Search.ArchiveMembers.{export_of, head_of, tail_of, export_entries, export_object_is, head_object_is, tail_object_is, weak_object_is, weak_there, left_export, left_head, left_tail}
use Rattle.implib_link.proofs.Search.Lists.{among_at}
use Rattle.implib_link.proofs.Search.MsvcMembers.{asking_not_weak, descriptor_not_weak, left_asking, left_descriptor, left_null, left_thunk, null_not_weak, thunk_not_weak, weak_is_weak, IsPair, claims_weak, descriptor_is, descriptor_of, left_weak, null_is, null_of, short_is, short_of, taken_weak, thunk_is, thunk_of, weak_is}

-- a library in a flavour
abbrev pub in_flavor : Flavor → Library → FlavorLibrary
in_flavor flavor l = record { flavor = flavor; library = l }

-- What a member is: the descriptor or the head (`Top`), the null thunk or the tail (`Last`), the null descriptor, an export's own
-- member, or a weak external of an alias: of its symbol, or of its address (`true`).
pub data Role : Type 0 where
  Top : Role
  Last : Role
  Null : Role
  Own : ℕ → ExportView → Role
  Weak : ℕ → ExportView → Bool → Role

abbrev pub is_weak_role : Role → Bool
is_weak_role Top = false
is_weak_role Last = false
is_weak_role Null = false
is_weak_role (Own n e) = false
is_weak_role (Weak n e b) = true

-- The members in their roles.

abbrev pub weak_symbol : Flavor → ExportView → Bool → List ℕ
weak_symbol flavor e false = symbol_in flavor e
weak_symbol flavor e true = imp_symbol (symbol_in flavor e)

abbrev pub weak_target : ExportView → Bool → List ℕ
weak_target e false = e.alias_target
weak_target e true = imp_symbol e.alias_target

abbrev top_of : MachineType → Flavor → Library → MemberView
top_of machine Msvc l = descriptor_of machine l
top_of machine Gnu l = head_of machine l

abbrev last_of : MachineType → Flavor → Library → MemberView
last_of machine Msvc l = thunk_of machine l
last_of machine Gnu l = tail_of machine l

abbrev own_of : MachineType → Flavor → Library → ℕ → ExportView → MemberView
own_of machine Msvc l n e = short_of machine l e
own_of machine Gnu l n e = export_of machine l n e

abbrev weak_of : MachineType → Flavor → Library → ℕ → ExportView → Bool → MemberView
weak_of machine Msvc l n e b = member_of (weak_spec machine (linked_dll l.definition) (weak_symbol Msvc e b) (weak_target e b))
weak_of machine Gnu l n e b = member_of (weak_spec machine (weak_name (linked_name l.definition) n) (weak_symbol Gnu e b) (weak_target e b))

abbrev pub member : MachineType → Flavor → Library → Role → MemberView
member machine flavor l Top = top_of machine flavor l
member machine flavor l Last = last_of machine flavor l
member machine flavor l Null = null_of machine l
member machine flavor l (Own n e) = own_of machine flavor l n e
member machine flavor l (Weak n e b) = weak_of machine flavor l n e b

-- what they are listed for
abbrev pub top_symbol : MachineType → Flavor → Library → List ℕ
top_symbol machine Msvc l = descriptor_symbol (linked_dll l.definition)
top_symbol machine Gnu l = head_symbol machine (linked_name l.definition)

abbrev pub last_symbol : MachineType → Flavor → Library → List ℕ
last_symbol machine Msvc l = null_thunk_symbol (linked_dll l.definition)
last_symbol machine Gnu l = iname_symbol machine (linked_name l.definition)

abbrev pub symbols : MachineType → Flavor → Library → Role → List (List ℕ)
symbols machine flavor l Top = top_symbol machine flavor l ∷ []
symbols machine flavor l Last = last_symbol machine flavor l ∷ []
symbols machine flavor l Null = null_descriptor_symbol ∷ []
symbols machine flavor l (Own n e) = symbols_in flavor e
symbols machine flavor l (Weak n e b) = weak_symbol flavor e b ∷ []

-- what they leave to others
abbrev pub left_top : MachineType → Flavor → Library → List (List ℕ)
left_top machine Msvc l = null_descriptor_symbol ∷ null_thunk_symbol (linked_dll l.definition) ∷ []
left_top machine Gnu l = iname_symbol machine (linked_name l.definition) ∷ []

abbrev pub left : MachineType → Flavor → Library → Role → List (List ℕ)
left machine flavor l Top = left_top machine flavor l
left machine flavor l Last = []
left machine flavor l Null = []
left machine flavor l (Own n e) = top_symbol machine flavor l ∷ []
left machine flavor l (Weak n e b) = weak_target e b ∷ []

-- what a linker takes them for
abbrev top_object : MachineType → Flavor → Library → Object
top_object machine Msvc l = taken_descriptor machine (names_for Msvc l.definition)
top_object machine Gnu l = head machine (names_for Gnu l.definition)

abbrev last_object : MachineType → Flavor → Library → Object
last_object machine Msvc l = taken_null_thunk machine (names_for Msvc l.definition)
last_object machine Gnu l = tail machine (names_for Gnu l.definition)

abbrev own_object : MachineType → Flavor → Library → ExportView → Object
own_object machine Msvc l e = asking machine (names_for Msvc l.definition) e
own_object machine Gnu l e = export machine (names_for Gnu l.definition) e

abbrev pub object : MachineType → Flavor → Library → Role → Object
object machine flavor l Top = top_object machine flavor l
object machine flavor l Last = last_object machine flavor l
object machine flavor l Null = taken_null machine
object machine flavor l (Own n e) = own_object machine flavor l e
object machine flavor l (Weak n e b) = taken_weak machine (weak_symbol flavor e b) (weak_target e b)

-- Which roles names find: an export's own member, where no weak external is found in its place; of the null descriptors that of the
-- first library for Microsoft's linker.

abbrev pub IsOwn : Flavor → ExportView → Type 0
IsOwn Msvc e = is_short_alias e ≡ false
IsOwn Gnu e = Unit {0}

abbrev pub IsWeak : Flavor → ExportView → Bool → Type 0
IsWeak Msvc e b = is_short_alias e ≡ true
IsWeak Gnu e true = ⊥
IsWeak Gnu e false = (is_alias e.alias_target e.name ≡ true) × (e.is_data ≡ true)

abbrev pub IsNull : List Library → Flavor → Library → Type 0
IsNull shorts Msvc l = (rest : List Library) × (shorts ≡ l ∷ rest)
IsNull shorts Gnu l = ⊥

abbrev pub IsRole : List FlavorLibrary → FlavorLibrary → Role → Type 0
IsRole libraries l Top = Unit {0}
IsRole libraries l Last = Unit {0}
IsRole libraries l Null = IsNull (msvc_among libraries) l.flavor l.library
IsRole libraries l (Own n e) = (slice_get (exports_of l.library) n ≡ Some e) × IsOwn l.flavor e
IsRole libraries l (Weak n e b) = (slice_get (exports_of l.library) n ≡ Some e) × IsWeak l.flavor e b

-- What is so of members in all roles.

pub listed_as : (machine : MachineType) (flavor : Flavor) (l : Library) (r : Role) → (member machine flavor l r).symbols ≡ symbols machine flavor l r
unfolding descriptor_spec null_descriptor_spec null_thunk_spec head_spec tail_spec export_spec
listed_as machine flavor l r = grind arith

pub claims_as : (machine : MachineType) (flavor : Flavor) (l : Library) (r : Role) → claimed_names (object machine flavor l r) ≡ symbols machine flavor l r
claims_as machine Msvc l Top = claims_descriptor machine (names_for Msvc l.definition)
claims_as machine Gnu l Top = claimed_head machine (names_for Gnu l.definition)
claims_as machine Msvc l Last = claims_thunk machine (names_for Msvc l.definition)
claims_as machine Gnu l Last = claimed_tail machine (names_for Gnu l.definition)
claims_as machine flavor l Null = claims_null machine
claims_as machine Msvc l (Own n e) = claims_asking machine (names_for Msvc l.definition) (short_import_symbol e) (ask_in Msvc machine e) e.is_data e.constant
claims_as machine Gnu l (Own n e) = claimed_export machine (names_for Gnu l.definition) e
claims_as machine flavor l (Weak n e b) = claims_weak machine (weak_symbol flavor e b) (weak_target e b)

-- where the DLL's name leads linkers to the descriptor
pub left_as_role : (machine : MachineType) (flavor : Flavor) (l : Library) (r : Role) → IsFoundByName flavor (names_for flavor l.definition) → undefined_in (object machine flavor l r) ≡ left machine flavor l r
left_as_role machine Msvc l Top found = left_descriptor machine (names_for Msvc l.definition)
left_as_role machine Gnu l Top found = left_head machine (names_for Gnu l.definition)
left_as_role machine Msvc l Last found = left_thunk machine (names_for Msvc l.definition)
left_as_role machine Gnu l Last found = left_tail machine (names_for Gnu l.definition)
left_as_role machine flavor l Null found = left_null machine
left_as_role machine Msvc l (Own n e) found = grind (arith, left_asking machine (names_for Msvc l.definition) (short_import_symbol e) (ask_in Msvc machine e) (use_for e), use_for e)
left_as_role machine Gnu l (Own n e) found = left_export machine (names_for Gnu l.definition) e
left_as_role machine flavor l (Weak n e b) found = left_weak machine (weak_symbol flavor e b) (weak_target e b)

pub weak_as : (machine : MachineType) (flavor : Flavor) (l : Library) (r : Role) → has_weak (Some (object machine flavor l r)) ≡ is_weak_role r
unfolding head_object tail_object
weak_as machine Msvc l Last = thunk_not_weak machine (names_for Msvc l.definition)
weak_as machine flavor l Null = null_not_weak machine
weak_as machine Msvc l (Own n e) = asking_not_weak machine (names_for Msvc l.definition) (short_import_symbol e) (ask_in Msvc machine e) (use_for e)
weak_as machine Gnu l (Own n e) = export_entries machine (names_for Gnu l.definition) e
weak_as machine flavor l (Weak n e b) = weak_is_weak machine (weak_symbol flavor e b) (weak_target e b)
weak_as machine flavor l r = grind (arith, descriptor_not_weak)

-- What members for GNU's linker are read as: as objects, and so are they taken.
module _ (machine : MachineType) (l : Library) (made : IsLibrary machine l) where
  pub plain_as : (libraries : List FlavorLibrary) (r : Role) → IsRole libraries (in_flavor Gnu l) r → object_in (member machine Gnu l r).bytes ≡ Some (object machine Gnu l r)
  unfolding with_section_symbols weak_object object_of entries_of name_text
  plain_as libraries r is = grind (arith, head_object_is, tail_object_is, export_object_is, weak_object_is)

  gnu_taken : (libraries : List FlavorLibrary) (r : Role) → IsRole libraries (in_flavor Gnu l) r → expanded_in machine (member machine Gnu l r).bytes ≡ Some (object machine Gnu l r)
  gnu_taken libraries Top is = head_taken l.definition machine l.members made
  gnu_taken libraries Last is = tail_taken l.definition machine l.members made
  gnu_taken libraries (Own n e) is = export_taken l.definition machine l.members made n e is.0
  gnu_taken libraries (Weak n e false) is =
      let p : MemberSpec = weak_spec machine (weak_name (linked_name l.definition) n) e.name e.alias_target in
      spec_taken l.definition machine l.members made p _ _ refl (spec_held l.definition machine l.members made n e p is.0 (weak_there machine l made n e is.1.0)) (weak_object_is machine l made n e is.0 is.1.0)
  gnu_taken libraries r is = grind arith

-- What a linker for a machine takes members for.

pub pair : (e : ExportView) (b : Bool) → IsPair e (weak_symbol Msvc e b) (weak_target e b)
pair e b = grind arith

pub taken_as : (machine : MachineType) (libraries : List FlavorLibrary) (flavor : Flavor) (l : Library) (r : Role) → AreMembersOf l.definition machine flavor l.members →
    IsRole libraries (in_flavor flavor l) r → expanded_in machine (member machine flavor l r).bytes ≡ Some (object machine flavor l r)
taken_as machine libraries Gnu l r made is = gnu_taken machine l made libraries r is
taken_as machine libraries Msvc l Top made is = descriptor_is machine l made
taken_as machine libraries Msvc l Last made is = thunk_is machine l made
taken_as machine libraries Msvc l Null made is = null_is machine l made
taken_as machine libraries Msvc l (Own n e) made is = short_is machine l made e (among_at e (exports_of l) n is.0)
taken_as machine libraries Msvc l (Weak n e b) made is = search (rules, weak_is, among_at, pair)
