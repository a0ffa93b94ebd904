-- Names of libraries, repeats that are left out, a whole definition, kinds of archives, exit
-- statuses and byte order marks, worked by hand.
-- The digits are those of md5sum.
use Rattle.std.specs.Prelude.{◌≡◌, ℕ, true, List, [], ◌∷◌, Option, None, Some, codes, map}
use Rattle.implib.specs.declared.def.position.Position.{Position}
use Rattle.implib.specs.declared.error.Fault.{Fault}
use Rattle.implib.specs.declared.flavor.Flavor.TheVariants.{Msvc, Gnu}
use Rattle.implib_archive.specs.declared.error.Fault.{Fault as ArchiveFault}
use Rattle.implib_archive.specs.declared.kind.Kind.TheVariants.{Coff, Gnu as GnuKind}
use Rattle.implib.specs.Definition.{DefinitionView, ExportView, empty_definition, empty_export}
use Rattle.implib_rules.specs.Additions.{no_additions}
use Rattle.implib_rules.specs.declared.library.Refusal.TheVariants.{NotUtf8, Syntax, NoName}
use Rattle.implib_rules.specs.declared.library.Refusal.TheVariants.{Members, Archive, OutOfMemory}
use Rattle.implib_rules.specs.Library.{definition_for, kind_for, status_of, without_mark}
use Rattle.implib_rules.specs.LibraryName.{exports_taken, gnu_library_name, msvc_library_name}
use Rattle.implib.specs.declared.machine.MachineType.TheVariants.{AMD64}
use Rattle.implib_rules.specs.Options.{LibraryOptionsView}
use Rattle.implib_rules.specs.Repeats.{without_repeated}
use Rattle.implib_rules.specs.WorkedNames.{usual}

-- a definition of a DLL with exports as they are linked
abbrev pub of_exports : List ℕ → List ExportView → DefinitionView
of_exports dll exports = record empty_definition { import_name = dll; exports = exports }

-- a function
abbrev pub function : List ℕ → ExportView
function word = record empty_export { name = word }

-- an export of which each part is taken in
abbrev pub filled_export : ExportView
filled_export = record empty_export {
  name = codes "_a";
  asked_name = Some (codes "a");
  alias_target = codes "_b";
  ordinal = 0x1234;
  no_name = true;
  is_data = true;
}

-- what is taken in of exports, but for private ones
pub record ExportsTaken : Type 0 where
  pub parts : exports_taken
      (filled_export ∷ record (function (codes "c")) { private = true } ∷ function (codes "d") ∷ [])
      ≡ 0x5F ∷ 0x61 ∷ 0 ∷ 0x61 ∷ 0 ∷ 0x5F ∷ 0x62 ∷ 0 ∷ 0x34 ∷ 0x12 ∷ 0x6E ∷ 0x64
      ∷ 0x64 ∷ 0 ∷ 0 ∷ 0 ∷ 0 ∷ 0 ∷ 0x2D ∷ 0x2D ∷ []

-- the name for GNU's linker
pub record GnuLibrariesNamed : Type 0 where
  pub no_export : gnu_library_name (of_exports (codes "zoo.dll") [])
      ≡ codes "zoo.dll_d41d8cd98f00b204"
  pub first : gnu_library_name
      (of_exports (codes "kernel32.dll")
      (function (codes "ExitProcess") ∷ function (codes "GetStdHandle") ∷ []))
      ≡ codes "kernel32.dll_abc2aeefe38647de"
  pub second : gnu_library_name
      (of_exports (codes "kernel32.dll")
      (function (codes "ExitProcess") ∷ function (codes "WriteFile") ∷ []))
      ≡ codes "kernel32.dll_16834b715b4ee572"

-- the name for Microsoft's linker, by the DLL's
abbrev pub named_for_msvc : List ℕ → Option (List ℕ)
named_for_msvc dll = msvc_library_name (of_exports dll [])

pub record MsvcLibrariesNamed : Type 0 where
  pub library : named_for_msvc (codes "zoo.dll") ≡ Some (codes "zoo")
  pub driver : named_for_msvc (codes "zoo.drv") ≡ Some (codes "zoo")
  pub capitals : named_for_msvc (codes "KERNEL32.DLL") ≡ Some (codes "KERNEL32")
  pub bare : named_for_msvc (codes "zoo") ≡ Some (codes "zoo")
  pub two_stops : named_for_msvc (codes "a.b.dll") ≡ Some (codes "a.b")
  pub empty_ending : named_for_msvc (codes "zoo.") ≡ Some (codes "zoo")
  pub ending_alone : named_for_msvc (codes ".dll") ≡ None

-- an export that is left out
abbrev pub gone : ExportView → ExportView
gone e = record e { private = true }

-- data of a word
abbrev pub data_of : List ℕ → ExportView
data_of word = record (function word) { is_data = true }

-- which exports are left out
pub record RepeatsWorked : Type 0 where
  pub as_data : without_repeated (function (codes "two") ∷ data_of (codes "two") ∷ [])
      ≡ function (codes "two") ∷ gone (data_of (codes "two")) ∷ []
  pub target : without_repeated
      (function (codes "hypot")
      ∷ record (function (codes "hypot")) { alias_target = codes "_hypot" } ∷ [])
      ≡ function (codes "hypot")
      ∷ gone (record (function (codes "hypot")) { alias_target = codes "_hypot" }) ∷ []
  pub private_first : without_repeated
      (gone (function (codes "a")) ∷ data_of (codes "a") ∷ function (codes "a") ∷ [])
      ≡ gone (function (codes "a")) ∷ data_of (codes "a") ∷ gone (function (codes "a")) ∷ []
  pub external : without_repeated
      (function (codes "f") ∷ record (function (codes "f")) { ext_name = Some (codes "g") }
      ∷ data_of (codes "g") ∷ [])
      ≡ function (codes "f") ∷ record (function (codes "f")) { ext_name = Some (codes "g") }
      ∷ gone (data_of (codes "g")) ∷ []
  pub three : without_repeated
      (function (codes "a") ∷ function (codes "b") ∷ function (codes "a") ∷ function (codes "c")
      ∷ function (codes "b") ∷ function (codes "a") ∷ [])
      ≡ function (codes "a") ∷ function (codes "b") ∷ gone (function (codes "a"))
      ∷ function (codes "c") ∷ gone (function (codes "b")) ∷ gone (function (codes "a")) ∷ []

-- a library for Microsoft's linker on AMD64, of the definition's own DLL
abbrev pub for_msvc : LibraryOptionsView
for_msvc = record {
  machine = AMD64;
  flavor = Msvc;
  dll = None;
  naming = usual;
  additions = no_additions;
}

-- The definition of a program zoo with two exports of one word, of which the second asks for
-- another: it is left out, and adds no target.
pub record DefinitionsMade : Type 0 where
  pub repeated : definition_for for_msvc
      (of_exports [] (function (codes "a")
      ∷ record (function (codes "a")) { alias_target = codes "b" } ∷ [])) (codes "d/zoo") true
      ≡ record (of_exports (codes "zoo.exe")
      (function (codes "a")
      ∷ record (function (codes "a")) { asked_name = Some (codes "b"); private = true } ∷ []))
      { library_name = Some (codes "zoo") }

-- the kind of an archive, by the number of its members
pub record KindsChosen : Type 0 where
  pub msvc : map (kind_for Msvc) (0 ∷ 65534 ∷ 65535 ∷ 65536 ∷ [])
      ≡ Coff ∷ Coff ∷ GnuKind ∷ GnuKind ∷ []
  pub gnu : map (kind_for Gnu) (0 ∷ 65534 ∷ 65535 ∷ 65536 ∷ [])
      ≡ GnuKind ∷ GnuKind ∷ GnuKind ∷ GnuKind ∷ []

-- the exit status for each refusal
pub record StatusesChosen : Type 0 where
  pub not_utf8 : (position : Position) → status_of (NotUtf8 position) ≡ 1
  pub syntax : (fault : Fault) (position : Position) → status_of (Syntax fault position) ≡ 1
  pub no_name : status_of NoName ≡ 1
  pub members : (fault : Fault) (position : Position) → status_of (Members fault position) ≡ 1
  pub archive : (fault : ArchiveFault) → status_of (Archive fault) ≡ 1
  pub out_of_memory : status_of OutOfMemory ≡ 3

-- the text of bytes: one whole byte order mark in front of it is cut off
pub record MarksCut : Type 0 where
  pub marked : without_mark (0xEF ∷ 0xBB ∷ 0xBF ∷ 0x41 ∷ []) ≡ 0x41 ∷ []
  pub twice : without_mark (0xEF ∷ 0xBB ∷ 0xBF ∷ 0xEF ∷ 0xBB ∷ 0xBF ∷ []) ≡ 0xEF ∷ 0xBB ∷ 0xBF ∷ []
  pub behind : without_mark (0x41 ∷ 0xEF ∷ 0xBB ∷ 0xBF ∷ []) ≡ 0x41 ∷ 0xEF ∷ 0xBB ∷ 0xBF ∷ []
  pub not_whole : without_mark (0xEF ∷ 0xBB ∷ []) ≡ 0xEF ∷ 0xBB ∷ []
  pub other : without_mark (0xEF ∷ 0xBB ∷ 0xBE ∷ []) ≡ 0xEF ∷ 0xBB ∷ 0xBE ∷ []

-- what was worked by hand of libraries
pub record LibrariesWorked : Type 0 where
  pub taken : ExportsTaken
  pub gnu : GnuLibrariesNamed
  pub msvc : MsvcLibrariesNamed
  pub left_out : RepeatsWorked
  pub made : DefinitionsMade
  pub kinds : KindsChosen
  pub statuses : StatusesChosen
  pub marks : MarksCut
