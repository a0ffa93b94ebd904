-- What the program answers with, by what its files hold (docs/CHECK.md).
use Rattle.std.specs.Prelude.{◌≡◌, ◌⊎◌, ℕ, ◌==◌, ◌&&◌, ◌||◌, not, Bool, true, false, List, [], ◌++◌, Option}
use Rattle.std.specs.Prelude.{Err, None, Ok, Some, IfSome, codes, length, map}
use Rattle.std.specs.Option.{is_some, option_map}
use Rattle.implib_dll.specs.Exports.{exports_in}
use Rattle.implib_dll.specs.Imports.{imports_in}
use Rattle.implib_dll.specs.declared.section.Layout.TheVariants.{File}
use Rattle.implib_compare.specs.DllCheck.Folders.{AreKnown, listings}
use Rattle.implib_options.specs.Given.{all, has}
use Rattle.implib_options.specs.Table.{help_lines}
use Rattle.implib_options.specs.Words.{IsRead, Reading}
use Rattle.implib_options.specs.declared.table.Meaning.TheVariants.{Input, Json, Search}
use Rattle.implib_options.specs.declared.table.Words.TheVariants.{Check}
use Rattle.implib_read.specs.Archives.{Archive, archive_in}
use Rattle.implib_read.specs.Classes.{MemberRead, members_read}
use Rattle.implib_read.specs.Identity.{dlls_of}
use Rattle.implib_check_driver.specs.Against.{DefinitionAgainst, LibraryAgainst, begins_archive}
use Rattle.implib_check_driver.specs.Against.{begins_dll}
use Rattle.implib_check_driver.specs.Answer.{AnswerView, IsSaid, no_library, saying}
use Rattle.implib_check_driver.specs.Calls.{CheckView, DefineView, is_searching}
use Rattle.implib_check_driver.specs.Checking.{CheckedAs}
use Rattle.implib_check_driver.specs.Defining.{DefinesFor, IsUndefined}
use Rattle.implib_check_driver.specs.DefinitionText.{definition_text}
use Rattle.implib_check_driver.specs.Differences.{IsSameAnswer}
use Rattle.implib_check_driver.specs.Exported.{IsExportsAnswer}
use Rattle.implib_check_driver.specs.Listing.{doubts, identify_answer, list_answer, works_answer}
use Rattle.implib_check_driver.specs.OfDlls.{HasNoLibrary, IsLibraryOfDll}
use Rattle.implib_check_driver.specs.Starting.{IsProgramAnswer}
use Rattle.implib_check_driver.specs.Targets.{has_arm64ec, options_of}
use Rattle.implib_check_driver.specs.Tasks.{Asked, Checks, Compares, Defines, Help, Identifies}
use Rattle.implib_check_driver.specs.Tasks.{Joins, Lists, ListsExports, Searches, TaskView, Version}
use Rattle.implib_check_driver.specs.Tasks.{WorksOf, task_of}
use Rattle.implib_check_driver.specs.Through.{AreKnownFor, Through, through}
use Rattle.implib_check_driver.specs.Together.{IsJoinedAnswer, first_none}
use Rattle.implib_check_driver.specs.declared.program.TheConstants.{END, FRONT, VERSION}
use Rattle.implib_check_driver.specs.declared.defining.Undefined.{Undefined}
use Rattle.implib_check_driver.specs.declared.defining.Undefined.TheVariants as undefined

-- whether a call asks for more of a DLL: its exports, or where its forwarders lead
abbrev pub asks_for_dll : CheckView → Bool
asks_for_dll check = check.lists_unasked || is_searching check

-- what is said where there is no DLL of which more is asked
abbrev pub no_dll_text : List ℕ
no_dll_text = codes "no DLL, and --all or --search asks for one"

-- the answer for a library beside a definition: 2 where more of a DLL is asked for
abbrev pub IsAnswerChecked : Bool → CheckView → List ℕ → List ℕ → Option (List ℕ) → AnswerView →
    Type 0
IsAnswerChecked json check library definition native a =
    (asks_for_dll check ≡ true → a ≡ saying 2 check.definition no_dll_text)
    × (asks_for_dll check ≡ false →
    CheckedAs json check library definition native (archive_in library) a)

-- whether a call asks for a library for ARM64EC, or for one of a native definition
abbrev pub asks_for_arm64ec : CheckView → Bool
asks_for_arm64ec check = check.arm64ec || is_some check.native

-- the answer for a definition beside a DLL: 2 where its library is to be for ARM64EC
abbrev pub DefinitionBeside : Through → CheckView → List ℕ → List ℕ → AnswerView → Type 0
DefinitionBeside others check definition dll a =
    (asks_for_arm64ec check ≡ true
    → a ≡ saying 2 check.definition (codes "arm64ec: not supported beside a DLL"))
    × (asks_for_arm64ec check ≡ false →
    DefinitionAgainst others check definition (exports_in File dll) a)

-- the answer for a library or a definition beside a DLL: 2 where it is a DLL itself
abbrev pub IsAnswerBeside : Through → CheckView → List ℕ → List ℕ → AnswerView → Type 0
IsAnswerBeside others check first dll a =
    (begins_archive first ≡ true → LibraryAgainst others check first dll a)
    × ((begins_archive first ≡ false → begins_dll first ≡ true
    → a ≡ saying 2 check.library (codes "a DLL, and no library or definition"))
    × (begins_archive first ≡ false → begins_dll first ≡ false →
    DefinitionBeside others check first dll a))

-- the answer for a library or a definition beside a DLL or a definition, and a native one
abbrev pub IsAnswerWith : Bool → Through → CheckView → List ℕ → List ℕ → Option (List ℕ) →
    AnswerView → Type 0
IsAnswerWith json others check first second native a =
    (begins_dll second ≡ true → IsAnswerBeside others check first second a)
    × (begins_dll second ≡ false → IsAnswerChecked json check first second native a)

-- what is known of the bytes of a native definition, whose file may be given
abbrev pub native_seen : (List ℕ → Option (List ℕ)) → Option (List ℕ) → Option (Option (List ℕ))
native_seen seen None = Some None
native_seen seen (Some path) = option_map Some (seen path)

-- what is said of the answer where the bytes of all files are known
abbrev pub AnswersAll : Bool → Through → CheckView → Option (List ℕ) → Option (List ℕ) →
    Option (Option (List ℕ)) → AnswerView → Type 0
AnswersAll json others check first second native a = IfSome first
    (λ f. IfSome second (λ d. IfSome native (λ n. IsAnswerWith json others check f d n a)))

-- The same, and where forwarders are followed, where the bytes of all files and the names in all
-- folders are known.
abbrev pub AnswersBeside : Bool → (List ℕ → Option (List ℕ)) →
    (List ℕ → Option (List (List ℕ))) → CheckView → AnswerView → Type 0
AnswersBeside json seen listed check a =
    (file : List ℕ → List ℕ) (names : List ℕ → List (List ℕ)) →
    AreKnownFor seen listed check file names
    → AnswersAll json (through file (listings names check.folders) check) check
    (seen check.library) (seen check.definition) (native_seen seen check.native) a

-- The answer for an archive of one DLL whose definition is asked for: the text that says its
-- imports, where one does.
pub record IsDefinedAs (hints : Bool) (define : DefineView) (ar : Archive)
    (a : AnswerView) : Type 0 where
  pub text : List ℕ
  pub says : text ≡ definition_text hints (options_of define (members_read ar.members))
      (members_read ar.members)
  pub defines : DefinesFor define.older_symbols text
      (options_of define (members_read ar.members)) (members_read ar.members)
  pub is : a ≡ record {
    status = 0;
    out = text;
    err = doubts true define.library (members_read ar.members);
  }

-- the status of a library without a definition: 4 where a member may import what is not read
abbrev pub undefined_status : Undefined → ℕ
undefined_status undefined.Unread = 4
undefined_status (undefined.Refused refusal) = 1
undefined_status (undefined.Different told) = 1

-- an answer of a status, of lines of standard error alone behind some
pub record IsBehind (status : ℕ) (err : List ℕ) (a : AnswerView) : Type 0 where
  pub lines : List ℕ
  pub is : a ≡ record { status = status; out = []; err = err ++ lines }

-- the answer for an archive without a definition
pub record IsUndefinedAs (hints : Bool) (define : DefineView) (ar : Archive)
    (a : AnswerView) : Type 0 where
  pub why : Undefined
  pub undefined : IsUndefined hints define.older_symbols
      (options_of define (members_read ar.members)) (members_read ar.members) why
  pub is : IsBehind (undefined_status why)
      (doubts true define.library (members_read ar.members)) a

-- the answer for an archive that has no definition: 1 where it is not of one DLL, or has an import
-- for ARM64EC
abbrev pub IsNoneDefined : DefineView → Archive → AnswerView → Type 0
IsNoneDefined define ar a = IsBehind 1 (doubts true define.library (members_read ar.members)) a

-- whether a definition is of members: they are of one DLL, and not for ARM64EC
abbrev pub is_definable : List MemberRead → Bool
is_definable members = (length (dlls_of members) == 1) && not (has_arm64ec members)

-- the answer for an archive, or for bytes that are none, whose definition is asked for, with hints
-- as ordinals or as comments
abbrev pub DefinedAs : Bool → DefineView → List ℕ → Option Archive → AnswerView → Type 0
DefinedAs hints define library None a = a ≡ no_library define.library library
DefinedAs hints define library (Some ar) a =
    (is_definable (members_read ar.members) ≡ false → IsNoneDefined define ar a)
    × (is_definable (members_read ar.members) ≡ true
    → IsDefinedAs hints define ar a ⊎ IsUndefinedAs hints define ar a)

-- The answer for a DLL whose definition is asked for: that of its library, where it has one.
pub record IsDllDefined (define : DefineView) (dll : List ℕ) (a : AnswerView) : Type 0 where
  pub library : List ℕ
  pub is_library : IsLibraryOfDll define dll library
  pub defined : DefinedAs true define library (archive_in library) a

-- the answer for a library or a DLL whose definition is asked for
abbrev pub IsDefineAnswer : DefineView → List ℕ → AnswerView → Type 0
IsDefineAnswer define f a =
    (begins_dll f ≡ false → DefinedAs false define f (archive_in f) a)
    × (begins_dll f ≡ true → IsDllDefined define f a ⊎ HasNoLibrary define f a)

-- what is said of the answer for libraries in one link, where the bytes of all files are known
abbrev pub AnswersJoined : (List ℕ → Option (List ℕ)) → List (List ℕ) → AnswerView → Type 0
AnswersJoined seen paths a =
    (file : List ℕ → List ℕ) → AreKnown seen file →
    IsJoinedAnswer paths (map file paths) (first_none paths (map file paths)) a

-- what is said of the answer for a program beside folders, where the bytes of all files and the
-- names in all folders are known
abbrev pub AnswersProgram : Bool → (List ℕ → Option (List ℕ)) →
    (List ℕ → Option (List (List ℕ))) → List ℕ → List (List ℕ) → AnswerView → Type 0
AnswersProgram json seen listed program folders a =
    (file : List ℕ → List ℕ) (names : List ℕ → List (List ℕ)) → AreKnown seen file →
    AreKnown listed names
    → IsProgramAnswer json program file (listings names folders) (imports_in File (file program)) a

-- an answer of a text alone on standard output
abbrev pub text_alone : List ℕ → AnswerView
text_alone text = record { status = 0; out = text; err = [] }

-- what is printed for `--help`: the options, with a text in front and one behind
abbrev pub help_text : List ℕ
help_text = FRONT.now ++ help_lines Check ++ END.now

-- the answer to what a command line asks for
abbrev pub AnswersTask : Bool → (List ℕ → Option (List ℕ)) → (List ℕ → Option (List (List ℕ))) →
    TaskView → AnswerView → Type 0
AnswersTask json seen names (Lists path) a =
    IfSome (seen path) (λ f. a ≡ list_answer json path f)
AnswersTask json seen names (ListsExports path) a =
    IfSome (seen path) (λ f. IsExportsAnswer path (exports_in File f) a)
AnswersTask json seen names (Identifies path strict) a =
    IfSome (seen path) (λ f. a ≡ identify_answer strict path f)
AnswersTask json seen names (WorksOf path) a =
    IfSome (seen path) (λ f. a ≡ works_answer json path f)
AnswersTask json seen names (Compares left right) a = IfSome (seen left)
    (λ l. IfSome (seen right)
    (λ r. IsSameAnswer json left right l r (archive_in l) (archive_in r) a))
AnswersTask json seen names Help a = a ≡ text_alone help_text
AnswersTask json seen names Version a = a ≡ text_alone VERSION.now
AnswersTask json seen names (Defines define) a =
    IfSome (seen define.library) (λ f. IsDefineAnswer define f a)
AnswersTask json seen names (Joins paths) a = AnswersJoined seen paths a
AnswersTask json seen names (Checks check) a = AnswersBeside json seen names check a
AnswersTask json seen names (Searches path folders) a =
    AnswersProgram json seen names path folders a

-- the answer to what options and files ask for: 2 where they are wrong
abbrev pub AnswersAsked : Bool → (List ℕ → Option (List ℕ)) →
    (List ℕ → Option (List (List ℕ))) → Asked TaskView → AnswerView → Type 0
AnswersAsked json seen names (Ok task) a = AnswersTask json seen names task a
AnswersAsked json seen names (Err wrong) a = IsSaid 2 (codes "implib_check") a

-- the same of what words are read as, or what is wrong with them
abbrev pub AnswersReading : (List ℕ → Option (List ℕ)) → (List ℕ → Option (List (List ℕ))) →
    Reading → AnswerView → Type 0
AnswersReading seen names (Ok given) a =
    AnswersAsked (has Json given) seen names (task_of given (all Input given) (all Search given)) a
AnswersReading seen names (Err fault) a = IsSaid 2 (codes "implib_check") a

-- The answer to the words of a command line. They are read as one thing (`HaveOneReading` of
-- `implib_options`).
pub record Answers (seen : List ℕ → Option (List ℕ)) (names : List ℕ → Option (List (List ℕ)))
    (words : List (List ℕ)) (a : AnswerView) : Type 0 where
  pub reading : Reading
  pub read : IsRead Check words reading
  pub is : AnswersReading seen names reading a
