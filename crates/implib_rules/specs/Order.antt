-- The members of a library in the order of llvm-dlltool, and what they are read as
-- (docs/DECISIONS.md, "A program in place of dlltool").
use Rattle.std.specs.Prelude.{◌≡◌, not, List, ◌++◌, Some, drop, map, slice_get}
use Rattle.std.specs.List.{filter, flat_map}
use Rattle.std.specs.Option.{option_and_then, option_map}
use Rattle.implib.specs.declared.flavor.Flavor.{Flavor}
use Rattle.implib.specs.declared.flavor.Flavor.TheVariants.{Msvc, Gnu}
use Rattle.implib.specs.declared.machine.MachineType.{MachineType}
use Rattle.implib.specs.Definition.{DefinitionView}
use Rattle.implib.specs.Formats.File.{AnAlias, AnImport, declared_by, dll_in, file_in, meaning_in}
use Rattle.implib.specs.Import.{Alias, Import, aliases_for, expected_import, public_exports}
use Rattle.implib.specs.LibraryName.{names_for}
use Rattle.implib.specs.Members.MemberLists.{all_alias_specs, all_import_specs, is_weak}
use Rattle.implib.specs.Members.MemberLists.{kept_of_alias}
use Rattle.implib.specs.Members.Members.{AreMembersOf, member_specs}
use Rattle.implib.specs.Members.MemberSpec.{MemberSpec, MemberView, member_of}
use Rattle.implib.specs.Members.MsvcMembers.{header_specs}
use Rattle.implib.specs.Members.ReadBack.{ReadBack}

-- the members for Microsoft's linker: those of the DLL, the short imports of the exports that are
-- no aliases, in their order, and last the weak externals of the others, in the order of theirs
abbrev pub msvc_specs : MachineType → DefinitionView → List MemberSpec
msvc_specs machine d =
    header_specs machine (names_for Msvc d)
    ++ (all_import_specs machine d ++ all_alias_specs machine d)

-- the members of a library
abbrev pub library_specs : DefinitionView → MachineType → Flavor → List MemberSpec
library_specs d machine Msvc = msvc_specs machine d
library_specs d machine Gnu = member_specs d machine Gnu

-- The members of a library, in order; all members of its definition are read back as it says.
pub record AreInOrder (d : DefinitionView) (machine : MachineType) (flavor : Flavor)
    (members : List MemberView) : Type 0 where
  -- all members of the definition, which is not refused
  pub all : List MemberView
  pub made : AreMembersOf d machine flavor all
  pub reads : ReadBack d machine flavor all
  -- those of the library
  pub is : members ≡ map member_of (library_specs d machine flavor)

-- the imports of the exports that are no aliases
abbrev pub own_imports : MachineType → DefinitionView → List Import
own_imports machine d =
    map (expected_import machine d.import_name) (filter (λ e. not (is_weak e)) (public_exports d))

-- the aliases: of the symbol, but for data, and of its address
abbrev pub own_aliases : DefinitionView → List Alias
own_aliases d =
    flat_map (λ e. kept_of_alias e (aliases_for e.name e.alias_target)) (public_exports d)

-- What the members for Microsoft's linker are read as.
pub record ReadsInOrder (d : DefinitionView) (machine : MachineType)
    (members : List MemberView) : Type 0 where
  -- each member declares exactly its archive symbols
  pub declared : map (λ m. option_map declared_by (file_in m.bytes)) members
      ≡ map (λ m. Some m.symbols) members
  -- the first member, the import descriptor, names the DLL
  pub dll : option_and_then (λ m. dll_in m.bytes) (slice_get members 0) ≡ Some d.import_name
  -- after the first three, the members mean the imports of the exports that are no aliases, and
  -- then the aliases, each once and in order, and nothing else
  pub meanings : map (λ m. meaning_in m.bytes) (drop 3 members)
      ≡ map Some (map AnImport (own_imports machine d) ++ map AnAlias (own_aliases d))

-- what the members of a flavour are read as beside what all members are
abbrev pub LibraryReads : DefinitionView → MachineType → Flavor → List MemberView → Type 0
LibraryReads d machine Msvc members = ReadsInOrder d machine members
LibraryReads d machine Gnu members = Unit {0}
