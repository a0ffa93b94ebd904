-- The members for Microsoft's linker in three lists, an alias without its short import
-- (docs/FORMATS.md, "Members for Microsoft's linker in three lists").
use Rattle.std.specs.Prelude.{◌≡◌, ℕ, Bool, true, ◌&&◌, not, List, [], ◌∷◌, None, drop}
use Rattle.std.specs.Prelude.{if◌then◌else◌, map}
use Rattle.std.specs.List.{flat_map, list_all}
use Rattle.implib.specs.declared.flavor.Flavor.TheVariants.{Msvc}
use Rattle.implib.specs.declared.machine.MachineType.{MachineType}
use Rattle.implib.specs.declared.msvc.members.MemberLists.{MemberLists}
use Rattle.implib.specs.Definition.{DefinitionView, ExportView}
use Rattle.implib.specs.Import.{is_alias, public_exports}
use Rattle.implib.specs.Library.{member_view}
use Rattle.implib.specs.LibraryName.{NamesOfDll, names_for}
use Rattle.implib.specs.Members.Members.{has_u16_ordinal, refusal}
use Rattle.implib.specs.Members.MemberSpec.{MemberSpec, MemberView, member_of}
use Rattle.implib.specs.Members.Msvc.{short_import_symbol}
use Rattle.implib.specs.Members.MsvcMembers.{header_specs, short_import_spec, weak_specs}
use Rattle.implib.specs.Renaming.{renamed}

-- what the lists of members show
pub record ListsView : Type 0 where
  pub header : List MemberView
  pub imports : List MemberView
  pub aliases : List MemberView

-- what the program's lists of members show
abbrev pub lists_view : MemberLists → ListsView
lists_view lists = record {
  header = map member_view lists.header.items;
  imports = lists.imports.members;
  aliases = map member_view lists.aliases.items;
}

-- whether an export, as it is linked, is an alias: its symbol is weak for another
abbrev pub is_weak : ExportView → Bool
is_weak e = is_alias e.alias_target (short_import_symbol e)

-- the specification of the short import of an export; an alias has none
abbrev pub import_specs : MachineType → NamesOfDll → ExportView → List MemberSpec
import_specs machine dll e = if is_weak e then [] else short_import_spec machine dll e ∷ []

-- whether an export is a function, which has a symbol beside that of its address
abbrev pub has_code : ExportView → Bool
has_code e = not e.is_data && not e.constant

-- of what is made for the symbol of an alias and for its address, what the lists have: for data the
-- latter alone
abbrev pub kept_of_alias : {X : Type 0} → ExportView → List X → List X
kept_of_alias e both = if has_code e then both else drop 1 both

-- the specifications of the weak externals of an alias; another export has none
abbrev pub alias_specs : MachineType → List ℕ → ExportView → List MemberSpec
alias_specs machine linked e = kept_of_alias e (weak_specs machine linked e)

-- the short imports of exports that are no aliases, in the order of the exports
abbrev pub all_import_specs : MachineType → DefinitionView → List MemberSpec
all_import_specs machine d = flat_map (import_specs machine (names_for Msvc d)) (public_exports d)

-- the weak externals of those that are, in their order
abbrev pub all_alias_specs : MachineType → DefinitionView → List MemberSpec
all_alias_specs machine d =
    flat_map (alias_specs machine (names_for Msvc d).linked) (public_exports d)

-- The lists are those of the definition, which is not refused. For example, of zoo.dll with a, weak
-- for b, and with e: three members, the short import of e, and the weak externals of a and
-- `__imp_a`.
pub record AreListsOf (d : DefinitionView) (machine : MachineType)
    (lists : ListsView) : Type 0 where
  pub accepted : refusal d machine Msvc ≡ None
  pub header : lists.header ≡ map member_of (header_specs machine (names_for Msvc (renamed d)))
  pub imports : lists.imports ≡ map member_of (all_import_specs machine (renamed d))
  pub aliases : lists.aliases ≡ map member_of (all_alias_specs machine (renamed d))
  pub ordinals : list_all has_u16_ordinal (public_exports (renamed d)) ≡ true
