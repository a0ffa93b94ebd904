-- What the exports of a text ask their DLL for: the words of the text; and those of a definition
-- made by hand, the names that they give.
use Rattle.std.specs.Prelude.{◌≡◌, ◌⊎◌, ℕ, false, true, List, [], ◌∷◌, Some}
use Rattle.std.specs.List.{AllByRecursion, flat_map}
use Rattle.implib.specs.declared.flavor.Flavor.{Flavor}
use Rattle.implib.specs.declared.machine.MachineType.{MachineType}
use Rattle.implib.specs.Definition.{DefinitionView, ExportView}
use Rattle.implib.specs.Formats.GnuReading.{ask_by_gnu}
use Rattle.implib.specs.Formats.ShortImport.{ask_of_short_import}
use Rattle.implib.specs.Text.Grammar.{Export, Statement}
use Rattle.implib.specs.Import.{Name, expected_ask, name_asked, public_exports}
use Rattle.implib.specs.Machine.{has_leading_underscore}
use Rattle.implib.specs.Members.Msvc.{short_import_of}
use Rattle.implib.specs.Text.Meaning.{exports_in}
use Rattle.implib.specs.Members.NameRules.{asked_in}
use Rattle.implib.specs.Text.Parses.{Parses}
use Rattle.implib.specs.Renaming.{renamed}

-- the word by which others know an export: the one that the text gives it first, unchanged
abbrev pub external_word : Export → List ℕ
external_word e = e.word

-- the exports of a text, in order
abbrev pub exports_of_text : List Statement → List Export
exports_of_text statements = flat_map exports_in statements

-- Where an export asks by name, it asks for this word: by what is expected, and in either flavour,
-- by its short import for Microsoft's linker and by its object for GNU's. For example, `_f@8` on
-- I386 asks for `_f@8`.
pub record AsksFor (machine : MachineType) (e : ExportView) (word : List ℕ) : Type 0 where
  pub expected : e.no_name ≡ false → name_asked machine e ≡ word
  pub in_each_flavor : (flavor : Flavor) → e.no_name ≡ false → asked_in flavor machine e ≡ word

-- there are as many exports as in the text, and each asks for its own word
abbrev pub EachAsksForItsWord : MachineType → List ExportView → List Export → Type 0
EachAsksForItsWord machine [] [] = Unit {0}
EachAsksForItsWord machine [] (e ∷ exports) = ⊥
EachAsksForItsWord machine (view ∷ views) [] = ⊥
EachAsksForItsWord machine (view ∷ views) (e ∷ exports) =
    AsksFor machine view (external_word e) × EachAsksForItsWord machine views exports

-- each export of a text that means this definition, under its name to link by, asks for its word in
-- the text
abbrev pub AsksForWords : (text : List ℕ) (machine : MachineType) (definition : DefinitionView) →
    Parses text machine definition → Type 0
AsksForWords text machine definition parsed =
    EachAsksForItsWord machine (renamed definition).exports (exports_of_text parsed.statements)

-- Where an export gives an asked name and asks by name, it asks for exactly that name: by what is
-- expected, and by its member of this flavour. For example, on I386 `_f@8` that gives `f@8` asks
-- for `f@8`.
pub record AsksForGiven (flavor : Flavor) (machine : MachineType) (e : ExportView) : Type 0 where
  pub expected : (name : List ℕ) → e.asked_name ≡ Some name → e.no_name ≡ false →
      expected_ask machine e ≡ Name name e.ordinal
  pub by_member : (name : List ℕ) → e.asked_name ≡ Some name → e.no_name ≡ false →
      asked_in flavor machine e ≡ name

-- each export of a definition that is not private, under its name to link by, asks for the name
-- that it gives
abbrev pub AskForGivenNames : Flavor → MachineType → DefinitionView → Type 0
AskForGivenNames flavor machine d =
    AllByRecursion (AsksForGiven flavor machine) (public_exports (renamed d))

-- By the short import of an export that gives no symbol name, or on I386, GNU `ld` asks the DLL for
-- what lld does.
-- For example, on AMD64 no short import of `__f` is made to ask for `_f`: lld would, and GNU `ld`
-- ask for `__f`.
abbrev pub LinkersAskAlike : Type 0
LinkersAskAlike =
    (machine : MachineType) (dll : List ℕ) (e : ExportView) →
    (e.symbol_name ≡ []) ⊎ (has_leading_underscore machine ≡ true) →
    ask_by_gnu (short_import_of machine dll e) ≡ ask_of_short_import (short_import_of machine dll e)
