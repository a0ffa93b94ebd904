-- What the bytes of the members in three lists are read as.
use Rattle.std.specs.Prelude.{◌≡◌, not, List, Option, Some, map, slice_get}
use Rattle.std.specs.List.{filter, flat_map}
use Rattle.std.specs.Option.{option_and_then}
use Rattle.implib.specs.declared.flavor.Flavor.TheVariants.{Msvc}
use Rattle.implib.specs.declared.machine.MachineType.{MachineType}
use Rattle.implib.specs.Definition.{DefinitionView, ExportView}
use Rattle.implib.specs.Formats.File.{AnAlias, AnImport, dll_in, file_in, meaning_in}
use Rattle.implib.specs.Import.{Alias, aliases_for, public_exports}
use Rattle.implib.specs.LibraryName.{names_for}
use Rattle.implib.specs.Members.MemberLists.{ListsView, all_alias_specs, all_import_specs, is_weak}
use Rattle.implib.specs.Members.MemberLists.{kept_of_alias}
use Rattle.implib.specs.Members.MemberSpec.{MemberSpec, MemberView}
use Rattle.implib.specs.Members.Msvc.{short_import_symbol}
use Rattle.implib.specs.Members.MsvcMembers.{header_specs}
use Rattle.implib.specs.Members.ReadBack.{file_of, import_written}
use Rattle.implib.specs.Renaming.{renamed}

-- the aliases of an export, as the lists have them: for data that of the address alone
abbrev pub aliases_kept : ExportView → List Alias
aliases_kept e = kept_of_alias e (aliases_for (short_import_symbol e) e.alias_target)

-- each member of a list is read as it is specified: an object as its table, a short import as its
-- fields
abbrev pub AreReadAs : List MemberSpec → List MemberView → Type 0
AreReadAs specs members =
    map (λ (m : MemberView). file_in m.bytes) members
    ≡ map (λ (p : MemberSpec). Some (file_of p.contents)) specs

-- What the lists are read as. For example, of zoo.dll with a, weak for b, and with e: the import
-- descriptor of zoo.dll, the null descriptor and the null thunk; the import of e; and the aliases
-- of a and `__imp_a`.
pub record ListsReadBack (d : DefinitionView) (machine : MachineType)
    (lists : ListsView) : Type 0 where
  pub header : AreReadAs (header_specs machine (names_for Msvc (renamed d))) lists.header
  pub imports : AreReadAs (all_import_specs machine (renamed d)) lists.imports
  pub aliases : AreReadAs (all_alias_specs machine (renamed d)) lists.aliases
  -- the first member names the DLL
  pub dll : option_and_then (λ (m : MemberView). dll_in m.bytes) (slice_get lists.header 0)
      ≡ Some d.import_name
  -- the short imports mean, in order, the imports of the exports that are no aliases
  pub imported : map (λ (m : MemberView). meaning_in m.bytes) lists.imports
      ≡ map (λ (e : ExportView). Some (AnImport (import_written machine d.import_name e)))
      (filter (λ (e : ExportView). not (is_weak e)) (public_exports (renamed d)))
  -- the others mean, in order, the aliases of those that are
  pub weak : map (λ (m : MemberView). meaning_in m.bytes) lists.aliases
      ≡ map (λ (a : Alias). Some (AnAlias a)) (flat_map aliases_kept (public_exports (renamed d)))
