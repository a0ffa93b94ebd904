-- Which bytes the library of a definition has, and when there is none.
use Rattle.std.specs.Prelude.{◌≡◌, ◌⊎◌, ℕ, IfErr, [], ◌∷◌, Bool, true, false, List, Option, None}
use Rattle.std.specs.Prelude.{Some, if◌then◌else◌, drop, length, nat_eq, nat_lt}
use Rattle.std.specs.List.{starts_with}
use Rattle.std.specs.declared.result.Result.{Result}
use Rattle.std.specs.Io.KnownBytes.{Appends}
use Rattle.std.specs.Str.{IsUtf8}
use Rattle.implib.specs.declared.error.ParseError.{ParseError}
use Rattle.implib.specs.declared.error.ParseError.TheVariants as parse
use Rattle.implib.specs.declared.flavor.Flavor.{Flavor}
use Rattle.implib.specs.declared.flavor.Flavor.TheVariants.{Msvc, Gnu}
use Rattle.implib.specs.declared.machine.MachineType.TheVariants.{AMD64}
use Rattle.implib.specs.Definition.{DefinitionView}
use Rattle.implib.specs.declared.def.position.Position.{Position}
use Rattle.implib.specs.Fault.{Cause, cause_of, export_index}
use Rattle.implib.specs.Members.Members.{refusal}
use Rattle.implib.specs.Members.MemberSpec.{MemberView}
use Rattle.implib.specs.Renaming.{renamed}
use Rattle.implib.specs.Text.Parses.{Parses, RefusesAt}
use Rattle.implib.specs.Text.Position.{position_at}
use Rattle.implib.specs.Text.Heard.{Heard, IsHeard}
use Rattle.implib_archive.specs.declared.error.Error.{Error as ArchiveError}
use Rattle.implib_archive.specs.declared.error.Error.TheVariants as archive
use Rattle.implib_archive.specs.declared.error.Fault.{Fault as ArchiveFault}
use Rattle.implib_archive.specs.declared.error.WriteError.{WriteError}
use Rattle.implib_archive.specs.declared.kind.Kind.{Kind}
use Rattle.implib_archive.specs.declared.kind.Kind.TheVariants.{Coff, Gnu as GnuKind}
use Rattle.implib_archive.specs.Archive.{archive_of}
use Rattle.implib_archive.specs.Refusal.{refusal_of}
use Rattle.implib.specs.Beginning.{AppendsBeginning}
use Rattle.implib_rules.specs.declared.library.LibraryError.{LibraryError}
use Rattle.implib_rules.specs.declared.library.LibraryError.TheVariants.{Refused, Writing}
use Rattle.implib_rules.specs.declared.library.Refusal.{Refusal}
use Rattle.implib_rules.specs.declared.library.Refusal.TheVariants.{NotUtf8, Syntax, NoName}
use Rattle.implib_rules.specs.declared.library.Refusal.TheVariants.{Members, Archive, OutOfMemory}
use Rattle.implib_rules.specs.Additions.{extended}
use Rattle.implib_rules.specs.LibraryName.{with_library_name}
use Rattle.implib_rules.specs.Linked.{linked}
use Rattle.implib_rules.specs.Nameless.{with_ordinals}
use Rattle.implib_rules.specs.Names.{dll_name, is_program, lacks_name, own_name}
use Rattle.implib_rules.specs.ExportAs.{AreMadeFor, refusal_made}
use Rattle.implib_rules.specs.Forms.{IsFormed, IsMisplacedAt, IsOpenAt, open_quote}
use Rattle.implib_rules.specs.Order.{LibraryReads}
use Rattle.implib_rules.specs.Places.{IsAtFault}
use Rattle.implib_rules.specs.Plain.{plain_text}
use Rattle.implib_rules.specs.Repeats.{without_repeats}
use Rattle.implib_rules.specs.Options.{LibraryOptionsView}
use Rattle.implib_rules.specs.Utf8.{IsNotUtf8At}

-- the refusals of errors of the libraries
abbrev pub parse_refusal : ParseError → Refusal
parse_refusal (parse.Invalid fault position) = Syntax fault position
parse_refusal (parse.OutOfMemory refused) = OutOfMemory

abbrev pub archive_refusal : ArchiveError → Refusal
archive_refusal (archive.Invalid fault) = Archive fault
archive_refusal (archive.OutOfMemory refused) = OutOfMemory

-- bytes without the byte order mark of UTF-8 in front of them (the Unicode Standard, "Byte Order
-- Mark")
abbrev pub without_mark : List ℕ → List ℕ
without_mark bytes =
    if starts_with nat_eq bytes (0xEF ∷ 0xBB ∷ 0xBF ∷ []) then drop 3 bytes else bytes

-- The text of a definition: its bytes without a byte order mark, in the grammar of `implib`
-- (Plain).
abbrev pub definition_text : List ℕ → List ℕ
definition_text bytes = plain_text (without_mark bytes)

-- the definition under the name of its DLL, with what options add to its exports, without repeats,
-- each export as it is linked, and with the name of its library
abbrev pub definition_for : LibraryOptionsView → DefinitionView → List ℕ → Bool → DefinitionView
definition_for options parsed own program =
    with_library_name options.machine options.flavor
    (linked options.machine options.naming options.flavor
    (without_repeats (extended options.machine options.naming options.additions
    (record parsed { import_name = dll_name options.dll own program }))))

-- The definition of a text for these options: what the text means with its words as they are
-- written, which is what it means on AMD64, under the name of the DLL, which is the one given or
-- that of the first heading with one; aliases of exports without names by ordinal; with what
-- options add to its exports; of the exports of one word the first alone, each as it is linked on
-- the machine; and with the name of its library for the linker.
pub record DefinitionFor (text : List ℕ) (options : LibraryOptionsView)
    (definition : DefinitionView) : Type 0 where
  pub parsed : DefinitionView
  pub parses : Parses text AMD64 parsed
  pub heard : List Heard
  pub is_heard : IsHeard text heard
  -- its quotes are closed in their lines, and its ordinals are ordinals
  pub formed : IsFormed text heard
  pub named : lacks_name options.dll (own_name heard) ≡ false
  pub is : definition
      ≡ definition_for options (with_ordinals parsed) (own_name heard) (is_program heard)

-- the text is a definition, but neither has it a name of the DLL nor is one given
pub record LacksName (text : List ℕ) (options : LibraryOptionsView) : Type 0 where
  pub parsed : DefinitionView
  pub parses : Parses text AMD64 parsed
  pub heard : List Heard
  pub is_heard : IsHeard text heard
  pub formed : IsFormed text heard
  pub unnamed : lacks_name options.dll (own_name heard) ≡ true

-- a syntax error of a text: a quote that its line does not close; else the parser's; else a wrong
-- ordinal
abbrev pub IsSyntaxErrorAt : List ℕ → Cause → Position → Type 0
IsSyntaxErrorAt text cause position =
    IsOpenAt text cause position
    ⊎ (((open_quote text ≡ None)
    × (RefusesAt text cause position.offset × (position ≡ position_at text position.offset)))
    ⊎ IsMisplacedAt text cause position)

-- why a text has no definition for these options
abbrev pub IsRefusalOfText : List ℕ → LibraryOptionsView → Refusal → Type 0
IsRefusalOfText text options (NotUtf8 position) = ⊥
IsRefusalOfText text options (Syntax fault position) =
    IsSyntaxErrorAt text (cause_of fault) position
IsRefusalOfText text options NoName = LacksName text options
IsRefusalOfText text options (Members fault position) = ⊥
IsRefusalOfText text options (Archive fault) = ⊥
IsRefusalOfText text options OutOfMemory = Unit {0}

-- The members of the library that is asked for: those of the definition of the bytes, in the order
-- of llvm-dlltool, and without the short imports of aliases. They are read back as it says.
pub record MembersFor (bytes : List ℕ) (options : LibraryOptionsView)
    (members : List MemberView) : Type 0 where
  pub utf8 : IsUtf8 (definition_text bytes)
  pub definition : DefinitionView
  pub of_text : DefinitionFor (definition_text bytes) options definition
  -- the definition is not refused, and these are its members in order
  pub made_for : AreMadeFor options.naming (renamed definition) options.machine options.flavor
      members
  -- where no short import has a third text, they are read as it says
  pub library_reads : options.naming.exports_as ≡ false →
      LibraryReads (renamed definition) options.machine options.flavor members

-- the bytes have a definition for this, whose members are refused
pub record RefusesMembers (bytes : List ℕ) (options : LibraryOptionsView)
    (cause : Cause) : Type 0 where
  pub utf8 : IsUtf8 (definition_text bytes)
  pub definition : DefinitionView
  pub of_text : DefinitionFor (definition_text bytes) options definition
  pub refused : refusal_made options.naming options.machine options.flavor (renamed definition)
      ≡ Some cause

-- the text of the bytes has no definition, for this
pub record RefusesText (bytes : List ℕ) (options : LibraryOptionsView)
    (why : Refusal) : Type 0 where
  pub utf8 : IsUtf8 (definition_text bytes)
  pub refused : IsRefusalOfText (definition_text bytes) options why

-- why bytes have no members
abbrev pub IsRefusalOfMembers : List ℕ → LibraryOptionsView → Refusal → Type 0
IsRefusalOfMembers bytes options (NotUtf8 position) = IsNotUtf8At (definition_text bytes) position
IsRefusalOfMembers bytes options (Syntax fault position) =
    RefusesText bytes options (Syntax fault position)
IsRefusalOfMembers bytes options NoName = RefusesText bytes options NoName
IsRefusalOfMembers bytes options (Members fault position) =
    RefusesMembers bytes options (cause_of fault)
    × IsAtFault (definition_text bytes) (cause_of fault) position
IsRefusalOfMembers bytes options (Archive fault) = ⊥
IsRefusalOfMembers bytes options OutOfMemory = Unit {0}

-- whether memory was refused
abbrev pub is_out_of_memory : Refusal → Bool
is_out_of_memory OutOfMemory = true
is_out_of_memory _ = false

-- the library has this many members
pub record HasMembers (bytes : List ℕ) (options : LibraryOptionsView) (count : ℕ) : Type 0 where
  pub members : List MemberView
  pub members_for : MembersFor bytes options members
  pub are : count ≡ length members

-- there are no members, and not for want of memory
pub record HasNoMembers (bytes : List ℕ) (options : LibraryOptionsView) (count : ℕ) : Type 0 where
  pub why : Refusal
  pub is_refused : IsRefusalOfMembers bytes options why
  pub has_memory : is_out_of_memory why ≡ false
  pub none : count ≡ 0

-- the number of members that the warnings are of; for GNU's linker none needs it
abbrev pub CountsMembers : List ℕ → LibraryOptionsView → Flavor → ℕ → Type 0
CountsMembers bytes options Gnu count = count ≡ 0
CountsMembers bytes options Msvc count =
    HasMembers bytes options count ⊎ HasNoMembers bytes options count

-- The kind of archive for a number of members: Microsoft's for its linker, if the second linker
-- member can number them; else GNU's, as llvm-dlltool writes it then.
abbrev pub kind_for : Flavor → ℕ → Kind
kind_for Msvc count = if nat_lt count 65535 then Coff else GnuKind
kind_for Gnu count = GnuKind

-- the bytes of the library that is asked for: the archive of the members
pub record IsLibrary (bytes : List ℕ) (options : LibraryOptionsView) (file : List ℕ) : Type 0 where
  pub members : List MemberView
  pub members_for : MembersFor bytes options members
  pub accepted : refusal_of (kind_for options.flavor (length members)) members ≡ None
  pub is : file ≡ archive_of (kind_for options.flavor (length members)) members

-- the kind of the archive of members
abbrev pub kind_of : Flavor → List MemberView → Kind
kind_of flavor members = kind_for flavor (length members)

-- why members have no archive for a flavour
abbrev pub IsRefusalOfArchive : Flavor → List MemberView → Refusal → Type 0
IsRefusalOfArchive flavor members (Archive fault) =
    refusal_of (kind_of flavor members) members ≡ Some fault
IsRefusalOfArchive flavor members OutOfMemory = Unit {0}
IsRefusalOfArchive flavor members _ = ⊥

-- the bytes have members for this, which an archive cannot carry
pub record RefusesArchive (bytes : List ℕ) (options : LibraryOptionsView)
    (fault : ArchiveFault) : Type 0 where
  pub members : List MemberView
  pub members_for : MembersFor bytes options members
  pub refused : refusal_of (kind_for options.flavor (length members)) members ≡ Some fault

-- why bytes have no library
abbrev pub IsRefusalOfBytes : List ℕ → LibraryOptionsView → Refusal → Type 0
IsRefusalOfBytes bytes options (NotUtf8 position) =
    IsRefusalOfMembers bytes options (NotUtf8 position)
IsRefusalOfBytes bytes options (Syntax fault position) =
    IsRefusalOfMembers bytes options (Syntax fault position)
IsRefusalOfBytes bytes options NoName = IsRefusalOfMembers bytes options NoName
IsRefusalOfBytes bytes options (Members fault position) =
    IsRefusalOfMembers bytes options (Members fault position)
IsRefusalOfBytes bytes options (Archive fault) = RefusesArchive bytes options fault
IsRefusalOfBytes bytes options OutOfMemory = Unit {0}

-- the library was written after what a writer had
pub record WritesLibrary (bytes : List ℕ) (options : LibraryOptionsView)
    (before after : Option (List ℕ)) : Type 0 where
  pub file : List ℕ
  pub is_library : IsLibrary bytes options file
  pub written : Appends before after file

-- a beginning of the library was written after what a writer had
pub record BreaksOff (bytes : List ℕ) (options : LibraryOptionsView)
    (before after : Option (List ℕ)) (cause : WriteError) : Type 0 where
  pub file : List ℕ
  pub is_library : IsLibrary bytes options file
  pub begun : AppendsBeginning before after file

-- if there is no library, its refusal is so
abbrev pub IfRefused : {T : Type 0} → Result T LibraryError → (Refusal → Type 0) → Type 0
IfRefused result so =
    IfErr result (λ error. elim error [ Refused refusal ↦ so refusal | Writing cause ↦ Unit {0} ])

-- if writing failed, its cause is so
abbrev pub IfBrokenOff : {T : Type 0} → Result T LibraryError → (WriteError → Type 0) → Type 0
IfBrokenOff result so =
    IfErr result (λ error. elim error [ Refused refusal ↦ Unit {0} | Writing cause ↦ so cause ])

-- the exit status for a refusal: 1, and 3 for want of memory
abbrev pub status_of : Refusal → ℕ
status_of OutOfMemory = 3
status_of _ = 1

-- where a fault of an export is
abbrev pub position_of_export : Position → Option ℕ → Option Position
position_of_export position None = None
position_of_export position (Some index) = Some position

-- where a refusal is, if it is not of the whole definition
abbrev pub position_of : Refusal → Option Position
position_of (NotUtf8 position) = Some position
position_of (Syntax fault position) = Some position
position_of NoName = None
position_of (Members fault position) = position_of_export position (export_index (cause_of fault))
position_of (Archive fault) = None
position_of OutOfMemory = None
