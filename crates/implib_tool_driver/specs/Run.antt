-- What a run of the program does with its devices.
use Rattle.std.specs.Prelude.{◌≡◌, ◌⊎◌, ℕ, Bool, true, false, List, [], ◌∷◌, ◌++◌, map, reverse}
use Rattle.std.specs.Prelude.{drop, Option, Some, Result, IfSome, OnOk, IfErr, flat_map}
use Rattle.std.specs.List.{filter_map}
use Rattle.std.specs.Option.{option_and_then}
use Rattle.std.specs.Io.KnownBytes.{Appends, IsAtEnd, Keeps}
use Rattle.std.specs.Str.{IsUtf8}
use Rattle.implib.specs.declared.error.Error.{Error}
use Rattle.implib.specs.declared.error.Error.TheVariants as error
use Rattle.implib.specs.declared.flavor.Flavor.{Flavor}
use Rattle.implib.specs.declared.flavor.Flavor.TheVariants.{Msvc, Gnu}
use Rattle.implib.specs.declared.machine.MachineType.{MachineType}
use Rattle.implib.specs.Definition.{DefinitionView}
use Rattle.implib.specs.Fault.{Cause, cause_of}
use Rattle.implib.specs.Formats.File.{File, Meaning, file_in, meaning_in}
use Rattle.implib.specs.Members.GnuReader.{meaning_with}
use Rattle.implib.specs.Import.{aliases_of, imports_of}
use Rattle.implib.specs.Members.MemberSpec.{MemberView}
use Rattle.implib.specs.Text.Parses.{Refuses}
use Rattle.implib.specs.Members.OfText.{HasNoMembers, MembersOf}
use Rattle.implib.specs.Members.ReadBack.{alias_among, file_at, import_among}
use Rattle.implib_tool_driver.specs.declared.run.RunError.{RunError}
use Rattle.implib_tool_driver.specs.declared.run.RunError.TheVariants.{Refused, NotUtf8, Read}
use Rattle.implib_tool_driver.specs.declared.run.RunError.TheVariants.{Write, OutOfMemory}
use Rattle.implib.specs.Beginning.{AppendsBeginning}
use Rattle.implib_tool_driver.specs.Listing.{listing_of}
use Rattle.implib_tool_driver.specs.Documents.{Documents}

-- the first two members for GNU's linker, the tail and the head, are these files
pub record BeginWith (members : List MemberView) (tail head : File) : Type 0 where
  pub tail_read : file_at members 0 ≡ Some tail
  pub head_read : file_at members 1 ≡ Some head

-- what the members are read as, in the definition's order: for Microsoft's linker each after the
-- first three by itself, for GNU's each after the tail and the head, with these two, from the last
-- to the first
abbrev pub AreReadAs : Flavor → List MemberView → List Meaning → Type 0
AreReadAs Msvc members meanings = map (λ m. meaning_in m.bytes) (drop 3 members) ≡ map Some meanings
AreReadAs Gnu members meanings =
    (tail : File) × (head : File) × BeginWith members tail head
    × (map (λ m. option_and_then (meaning_with head tail) (file_in m.bytes))
    (reverse (drop 2 members))
    ≡ map Some meanings)

-- the members are read as the imports and the aliases of a definition, each once and in order, and
-- as nothing else
pub record ReadAsParsed (parsed : DefinitionView) (machine : MachineType) (flavor : Flavor)
    (members : List MemberView) : Type 0 where
  pub meanings : List Meaning
  pub read : AreReadAs flavor members meanings
  pub imports : filter_map import_among meanings ≡ imports_of machine parsed
  pub aliases : filter_map alias_among meanings ≡ aliases_of parsed

-- the members are those of the document, and are read as the imports and the aliases that it means
pub record MembersOfDocument (text : List ℕ) (machine : MachineType) (flavor : Flavor)
    (members : List MemberView) : Type 0 where
  pub members_of : MembersOf text machine flavor members
  pub read_as_parsed : ReadAsParsed members_of.of_text.parsed machine flavor members

-- a text is refused by the grammar, or for what it means
abbrev pub IsRefused : List ℕ → MachineType → Flavor → Cause → Type 0
IsRefused text machine flavor cause = Refuses text cause ⊎ HasNoMembers text machine flavor cause

-- for each text, in order, its members
abbrev pub EachMade : MachineType → Flavor → List (List ℕ) → List (List MemberView) → Type 0
EachMade machine flavor [] [] = Unit {0}
EachMade machine flavor [] (members ∷ lists) = ⊥
EachMade machine flavor (text ∷ texts) [] = ⊥
EachMade machine flavor (text ∷ texts) (members ∷ lists) =
    MembersOfDocument text machine flavor members × EachMade machine flavor texts lists

-- the listing shows the members of each document of the text, in order
pub record Lists (text : List ℕ) (machine : MachineType) (flavor : Flavor)
    (listing : List ℕ) : Type 0 where
  pub documents : List (List ℕ)
  pub lists : List (List MemberView)
  pub divided : Documents text documents
  pub made : EachMade machine flavor documents lists
  pub listed : listing ≡ flat_map listing_of lists

-- a document of the text is refused for this cause, and those before it have members
pub record FirstRefused (text : List ℕ) (machine : MachineType) (flavor : Flavor) (cause : Cause)
    : Type 0 where
  pub before : List (List ℕ)
  pub document : List ℕ
  pub after : List (List ℕ)
  pub lists : List (List MemberView)
  pub divided : Documents text (before ++ document ∷ after)
  pub made : EachMade machine flavor before lists
  pub refused : IsRefused document machine flavor cause

-- what is known of the devices: the bytes that the reader has left and those that the writer has,
-- if they are known, whether they have failed, and whether the writer takes no byte in a write that
-- fails
pub record Devices : Type 0 where
  pub remaining : Option (List ℕ)
  pub reader_failed : Bool
  pub contents : Option (List ℕ)
  pub writer_failed : Bool
  pub writer_keeps : Bool

-- the devices: the reader's bytes and whether it has failed, and the same of the writer
abbrev pub devices : Option (List ℕ) → Bool → Option (List ℕ) → Bool → Bool → Devices
devices remaining reader_failed contents writer_failed writer_keeps = record {
  remaining = remaining;
  reader_failed = reader_failed;
  contents = contents;
  writer_failed = writer_failed;
  writer_keeps = writer_keeps;
}

-- the reader is read to its end, and the writer has the listing of the text after what it had
pub record IsDone (machine : MachineType) (flavor : Flavor) (before after : Devices) : Type 0 where
  pub reader : after.reader_failed ≡ false
  pub writer : after.writer_failed ≡ false
  pub read : IsAtEnd after.remaining
  pub utf8 : IfSome before.remaining IsUtf8
  pub written : IfSome before.remaining (λ text.
      (listing : List ℕ) × Lists text machine flavor listing
      × Appends before.contents after.contents listing)

-- no device has failed, and nothing is written
pub record NothingWritten (before after : Devices) : Type 0 where
  pub reader : after.reader_failed ≡ false
  pub writer : after.writer_failed ≡ false
  pub unwritten : Keeps before.contents after.contents

-- what an error of the library becomes
abbrev pub run_error : Error → RunError
run_error (error.Invalid fault) = Refused fault
run_error (error.OutOfMemory refused) = OutOfMemory

-- when each error comes, and what it leaves: the writer's error alone comes where the listing was
-- made, and leaves a beginning of it with a writer that takes no byte in a write that fails
abbrev pub HasCause : MachineType → Flavor → Devices → Devices → RunError → Type 0
HasCause machine flavor before after (Refused fault) =
    NothingWritten before after × IfSome before.remaining IsUtf8
    × IfSome before.remaining (λ text. FirstRefused text machine flavor (cause_of fault))
HasCause machine flavor before after NotUtf8 =
    NothingWritten before after × IfSome before.remaining (λ text. ¬ (IsUtf8 text))
HasCause machine flavor before after Read =
    (after.reader_failed ≡ true) × (after.writer_failed ≡ false)
    × Keeps before.contents after.contents
HasCause machine flavor before after Write =
    (after.reader_failed ≡ false) × (after.writer_failed ≡ true) × IfSome before.remaining IsUtf8
    × IfSome before.remaining (λ text.
    (listing : List ℕ) × Lists text machine flavor listing
    × (before.writer_keeps ≡ true → AppendsBeginning before.contents after.contents listing))
HasCause machine flavor before after OutOfMemory = NothingWritten before after

-- what a run answers, and what it does
pub record Runs (machine : MachineType) (flavor : Flavor) (before after : Devices)
    (answer : Result (Unit {0}) RunError) : Type 0 where
  pub done : OnOk answer (IsDone machine flavor before after)
  pub fault : IfErr answer (HasCause machine flavor before after)
