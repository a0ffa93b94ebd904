-- Which members and which library exports have that are given without a text, and when they have
-- none.
use Rattle.std.specs.Prelude.{◌≡◌, ℕ, [], true, false, List, None, Some, length}
use Rattle.std.specs.List.{list_all}
use Rattle.implib.specs.Definition.{DefinitionView, ExportView, empty_definition}
use Rattle.implib.specs.Fault.{Cause, cause_of}
use Rattle.implib.specs.Import.{is_empty_text}
use Rattle.implib.specs.Members.MemberSpec.{MemberView}
use Rattle.implib.specs.Renaming.{renamed}
use Rattle.implib_archive.specs.declared.error.Fault.{Fault as ArchiveFault}
use Rattle.implib_archive.specs.Archive.{archive_of}
use Rattle.implib_archive.specs.Refusal.{refusal_of}
use Rattle.implib_rules.specs.declared.exports.ExportsRefusal.{ExportsRefusal}
use Rattle.implib_rules.specs.declared.exports.ExportsRefusal.TheVariants.{NoName, Members}
use Rattle.implib_rules.specs.declared.exports.ExportsRefusal.TheVariants.{OutOfMemory}
use Rattle.implib_rules.specs.Library.{definition_for, kind_for}
use Rattle.implib_rules.specs.Names.{lacks_name}
use Rattle.implib_rules.specs.Options.{LibraryOptionsView}
use Rattle.implib_rules.specs.ExportAs.{AreMadeFor, refusal_made}
use Rattle.implib_rules.specs.Order.{LibraryReads}

-- the definition with these exports and nothing else: no name of the DLL, and all numbers 0
abbrev pub of_exports : List ExportView → DefinitionView
of_exports exports = record empty_definition { exports = exports }

-- The definition of exports for these options: by the rules that a text's definition is made by,
-- under the name of the DLL that is given. There is no heading, so it is no program's.
pub record DefinitionOfExports (exports : List ExportView) (options : LibraryOptionsView)
    (definition : DefinitionView) : Type 0 where
  pub named : lacks_name options.dll [] ≡ false
  pub is : definition ≡ definition_for options (of_exports exports) [] false

-- no export has a symbol name; none of a text has one
abbrev pub LackSymbolNames : List ExportView → Type 0
LackSymbolNames exports = list_all (λ e. is_empty_text e.symbol_name) exports ≡ true

-- The members of the library of exports: those of their definition, in the order of llvm-dlltool,
-- and without the short imports of aliases. They are read back as it says.
pub record MembersOfExports (exports : List ExportView) (options : LibraryOptionsView)
    (members : List MemberView) : Type 0 where
  pub definition : DefinitionView
  pub of_exports : DefinitionOfExports exports options definition
  -- the definition is not refused, and these are its members in order
  pub made_for : AreMadeFor options.naming (renamed definition) options.machine options.flavor
      members
  -- where no export has a symbol name, and no short import a third text, they are read as it says
  pub library_reads :
      LackSymbolNames exports → options.naming.exports_as ≡ false
      → LibraryReads (renamed definition) options.machine options.flavor members

-- the exports have a definition for this, whose members are refused
pub record RefusesExports (exports : List ExportView) (options : LibraryOptionsView)
    (cause : Cause) : Type 0 where
  pub definition : DefinitionView
  pub of_exports : DefinitionOfExports exports options definition
  pub refused : refusal_made options.naming options.machine options.flavor (renamed definition)
      ≡ Some cause

-- why exports have no definition for these options
abbrev pub IsRefusalOfDefinition : LibraryOptionsView → ExportsRefusal → Type 0
IsRefusalOfDefinition options NoName = lacks_name options.dll [] ≡ true
IsRefusalOfDefinition options (Members fault) = ⊥
IsRefusalOfDefinition options OutOfMemory = Unit {0}

-- why exports have no members
abbrev pub IsRefusalOfExports : List ExportView → LibraryOptionsView → ExportsRefusal → Type 0
IsRefusalOfExports exports options NoName = lacks_name options.dll [] ≡ true
IsRefusalOfExports exports options (Members fault) = RefusesExports exports options (cause_of fault)
IsRefusalOfExports exports options OutOfMemory = Unit {0}

-- the bytes of the library of exports: the archive of their members
pub record IsLibraryOfExports (exports : List ExportView) (options : LibraryOptionsView)
    (file : List ℕ) : Type 0 where
  pub members : List MemberView
  pub members_are : MembersOfExports exports options members
  pub accepted : refusal_of (kind_for options.flavor (length members)) members ≡ None
  pub is : file ≡ archive_of (kind_for options.flavor (length members)) members

-- the exports have members for this, which an archive cannot carry
pub record RefusesArchiveOfExports (exports : List ExportView) (options : LibraryOptionsView)
    (fault : ArchiveFault) : Type 0 where
  pub members : List MemberView
  pub members_are : MembersOfExports exports options members
  pub refused : refusal_of (kind_for options.flavor (length members)) members ≡ Some fault
