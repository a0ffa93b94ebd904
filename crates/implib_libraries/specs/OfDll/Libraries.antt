-- What the library of a DLL asks for, from the DLL's exports to the bytes of its members and back.
use Rattle.std.specs.Prelude.{◌≡◌, ℕ, Bool, true, false, ◌&&◌, not, List, [], ◌∷◌, All, Some}
use Rattle.std.specs.Prelude.{bytes_eq, drop, map, reverse}
use Rattle.std.specs.List.{list_any}
use Rattle.std.specs.Option.{option_and_then}
use Rattle.implib.specs.declared.flavor.Flavor.{Flavor}
use Rattle.implib.specs.declared.flavor.Flavor.TheVariants.{Msvc, Gnu}
use Rattle.implib.specs.declared.machine.MachineType.TheVariants.{I386}
use Rattle.implib.specs.Formats.File.{AnImport, File, file_in, meaning_in}
use Rattle.implib.specs.Import.{Import}
use Rattle.implib.specs.Members.GnuReader.{meaning_with}
use Rattle.implib.specs.Members.MemberSpec.{MemberView}
use Rattle.implib.specs.Members.ReadBack.{file_at}
use Rattle.implib_dll.specs.Exports.{Exports}
use Rattle.implib_libraries.specs.FromDll.Definition.{exports_of}
use Rattle.implib_libraries.specs.FromDll.Laws.{Fits, IsFoundAtOnce, asks_of}
use Rattle.implib_rules.specs.Additions.{no_additions}
use Rattle.implib_rules.specs.Exports.{MembersOfExports}
use Rattle.implib_rules.specs.Names.{dll_name}
use Rattle.implib_rules.specs.Linked.{NamingView}
use Rattle.implib_rules.specs.Options.{LibraryOptionsView}
use Rattle.implib_libraries.specs.OfDll.Decorated.{decorated_exports}
use Rattle.implib_libraries.specs.OfDll.Decorations.{DecorationView}

-- names are asked for whole, by one of the first three name types, and nothing is added
pub record AsksForWords (options : LibraryOptionsView) : Type 0 where
  pub whole : options.naming.kills_at ≡ false
  pub no_third_text : options.naming.exports_as ≡ false
  pub nothing_added : options.additions ≡ no_additions

-- whether no word stands twice
abbrev pub are_different : List (List ℕ) → Bool
are_different [] = true
are_different (word ∷ words) =
    not (list_any (λ other. bytes_eq other word) words) && are_different words

-- whether the exports of a DLL have different words
abbrev pub words_differ : Exports → Bool
words_differ e = are_different (map (λ x. x.name) (exports_of e))

-- The members for GNU's linker are read, by their bytes alone, as these imports: the first is the
-- tail, the second the head, and the others, read backwards, an import each.
pub record GnuReadsAs (members : List MemberView) (imports : List Import) : Type 0 where
  pub tail : File
  pub head : File
  pub tail_read : file_at members 0 ≡ Some tail
  pub head_read : file_at members 1 ≡ Some head
  pub read : map (λ m. option_and_then (meaning_with head tail) (file_in m.bytes))
      (reverse (drop 2 members)) ≡ map (λ i. Some (AnImport i)) imports

-- Members are read, by their bytes alone, as these imports, in order, and nothing else. Of those
-- for Microsoft's linker the first three are the DLL's.
abbrev pub ReadsAs : Flavor → List MemberView → List Import → Type 0
ReadsAs Msvc members imports =
    map (λ m. meaning_in m.bytes) (drop 3 members) ≡ map (λ i. Some (AnImport i)) imports
ReadsAs Gnu members imports = GnuReadsAs members imports

-- members are read as imports of a DLL that ask for exactly what it exports, and a loader finds
-- each ask at once
pub record AsksForExports (e : Exports) (options : LibraryOptionsView)
    (members : List MemberView) : Type 0 where
  pub imports : List Import
  pub read : ReadsAs options.flavor members imports
  pub dll : map (λ i. i.dll) imports ≡ map (λ i. dll_name options.dll [] false) imports
  pub asks : map (λ i. i.ask) imports ≡ asks_of e
  pub found : All (IsFoundAtOnce e) (map (λ i. i.ask) imports)

-- The members of a DLL's library, whose exports have different words, ask for exactly what the DLL
-- exports.
abbrev pub LibrariesAskForExports : Type 0
LibrariesAskForExports =
    (e : Exports) (options : LibraryOptionsView) (members : List MemberView) → Fits e →
    AsksForWords options
    → words_differ e ≡ true → MembersOfExports (exports_of e) options members
    → AsksForExports e options members

-- whether the exports of a DLL have different words with the symbols of a file
abbrev pub decorated_differ : NamingView → List DecorationView → Exports → Bool
decorated_differ naming decorations e =
    are_different (map (λ x. x.name) (decorated_exports naming decorations e))

-- With the symbols of a file, on I386, they ask for the same: only the symbols are others.
abbrev pub DecoratedLibrariesAskForExports : Type 0
DecoratedLibrariesAskForExports =
    (e : Exports) (decorations : List DecorationView) (options : LibraryOptionsView)
    (members : List MemberView) → Fits e → AsksForWords options
    → options.machine ≡ I386 → decorated_differ options.naming decorations e ≡ true
    → MembersOfExports (decorated_exports options.naming decorations e) options members
    → AsksForExports e options members
