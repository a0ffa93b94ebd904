-- What `implib_library_with` answers: the library that the program `implib_dlltool` makes of the
-- text under these options (`implib_rules`).
use Rattle.std.specs.Prelude.{◌≡◌, ℕ, ◌+◌, ◌≤◌, ◌==◌, ◌⊎◌, List, [], ◌∷◌, length}
use Rattle.std.specs.Prelude.{Option, None, Some, IfSome, nat_eq, nat_lt, if◌then◌else◌}
use Rattle.std.specs.List.{starts_with}
use Rattle.std.specs.Option.{IsSome}
use Rattle.std.specs.Str.{IsUtf8}
use Rattle.implib.specs.Conversions.{machine_numbered}
use Rattle.implib.specs.Fault.{cause_of, export_index}
use Rattle.implib_rules.specs.Additions.{no_additions}
use Rattle.implib_rules.specs.declared.library.Refusal.{Refusal}
use Rattle.implib_rules.specs.declared.library.Refusal.TheVariants as refusal
use Rattle.implib_rules.specs.Library.{IsLibrary, IsRefusalOfBytes, definition_text}
use Rattle.implib_rules.specs.Linked.{NamingView}
use Rattle.implib_rules.specs.Options.{LibraryOptionsView}
use Rattle.implib_libraries.specs.NullDescriptor.Libraries.{IsNamedLibrary, IsRefusalOfNamedLibrary}
use Rattle.implib_c_calls.specs.declared.library_with.OptionsArguments.{OptionsArguments}
use Rattle.implib_c_calls.specs.declared.outcome.Failure.{Failure}
use Rattle.implib_c_calls.specs.declared.outcome.Failure.TheVariants.{DllNotUtf8, NoArchive}
use Rattle.implib_c_calls.specs.declared.outcome.Failure.TheVariants.{NoDllName, NotUtf8}
use Rattle.implib_c_calls.specs.declared.outcome.Failure.TheVariants.{OutOfMemory, RefusedAt}
use Rattle.implib_c_calls.specs.declared.outcome.Failure.TheVariants.{SyntaxError, UnknownFlags}
use Rattle.implib_c_calls.specs.declared.outcome.Failure.TheVariants.{UnknownFlavor}
use Rattle.implib_c_calls.specs.declared.outcome.Failure.TheVariants.{UnknownMachine}
use Rattle.implib_c_calls.specs.Answer.{flavor_numbered}
use Rattle.implib_c_calls.specs.Flags.{has_flag}
use Rattle.implib_c_calls.specs.Given.{IsBecause, Leaves}

-- the options as C passes them: numbers, and the bytes of a name
pub record GivenOptions : Type 0 where
  pub machine : ℕ
  pub flavor : ℕ
  pub flags : ℕ
  -- 0 where no name of the DLL is given
  pub has_dll : ℕ
  pub dll : List ℕ

-- the options of these numbers and these bytes
abbrev pub options_passed : ℕ → ℕ → ℕ → ℕ → List ℕ → GivenOptions
options_passed machine flavor flags has_dll dll = record {
  machine = machine;
  flavor = flavor;
  flags = flags;
  has_dll = has_dll;
  dll = dll;
}

-- the view of options
abbrev pub given_options : OptionsArguments → GivenOptions
given_options o = options_passed o.machine o.flavor o.flags o.has_dll o.dll.now

-- how names are read, and asked for, with these flags: 1 is the option `-k`, 2
-- `--no-leading-underscore`, 4 `--export-as`, and 8 what LIB's words have besides
abbrev pub naming_numbered : ℕ → Option NamingView
naming_numbered flags =
    if nat_lt flags 16 then Some (record {
      is_plain = has_flag flags 2;
      kills_at = has_flag flags 1;
      exports_as = has_flag flags 4;
      keeps_decorated = has_flag flags 8;
    })
    else None

-- the DLL's name, where one is given
abbrev pub dll_given : GivenOptions → Option (List ℕ)
dll_given given = if given.has_dll == 0 then None else Some given.dll

-- what is given are these options
pub record AreOptions (given : GivenOptions) (options : LibraryOptionsView) : Type 0 where
  pub machine_is : machine_numbered given.machine ≡ Some options.machine
  pub flavor_is : flavor_numbered given.flavor ≡ Some options.flavor
  pub naming_is : naming_numbered given.flags ≡ Some options.naming
  pub additions_are : options.additions ≡ no_additions
  pub dll_is : options.dll ≡ dll_given given
  pub dll_utf8 : IfSome (dll_given given) IsUtf8

-- what is given are options, with which this holds
pub record WithOptions (given : GivenOptions) (P : LibraryOptionsView → Type 0) : Type 0 where
  pub options : LibraryOptionsView
  pub are_options : AreOptions given options
  pub holds : P options

-- what is given are no options, for the first cause from the left: the machine, the flavour, the
-- flags, the name
abbrev pub IsOptionFault : GivenOptions → Failure → Type 0
IsOptionFault given UnknownMachine = machine_numbered given.machine ≡ None
IsOptionFault given UnknownFlavor =
    IsSome (machine_numbered given.machine) × (flavor_numbered given.flavor ≡ None)
IsOptionFault given UnknownFlags =
    IsSome (machine_numbered given.machine) × IsSome (flavor_numbered given.flavor)
    × (naming_numbered given.flags ≡ None)
IsOptionFault given DllNotUtf8 =
    IsSome (machine_numbered given.machine) × IsSome (flavor_numbered given.flavor)
    × IsSome (naming_numbered given.flags) × (dll_given given ≡ Some given.dll)
    × ¬ (IsUtf8 given.dll)
IsOptionFault given _ = ⊥

-- what is given are no options, or with these there is nothing
abbrev pub LacksWith : GivenOptions → (LibraryOptionsView → Failure → Type 0) → Failure → Type 0
LacksWith given Lacks why = IsOptionFault given why ⊎ WithOptions given (λ options. Lacks options why)

-- how many bytes of a text are a byte order mark of UTF-8: 3 or 0
abbrev pub mark_length : List ℕ → ℕ
mark_length text = if starts_with nat_eq text (0xEF ∷ 0xBB ∷ 0xBF ∷ []) then 3 else 0

-- the offset of an export at fault, if a cause is one's; else 0
abbrev pub place_of_export : ℕ → Option ℕ → ℕ
place_of_export offset None = 0
place_of_export offset (Some index) = offset

-- What a refusal becomes. What is at fault is an offset in the text, whose byte order mark counts:
-- the first byte that is not UTF-8; the token that is a syntax error; the name of an export, where
-- the fault is one's; else 0.
abbrev pub failure_at : List ℕ → Refusal → Failure
failure_at text (refusal.NotUtf8 position) = NotUtf8 (mark_length text + position.offset)
failure_at text (refusal.Syntax fault position) =
    SyntaxError fault (mark_length text + position.offset)
failure_at text refusal.NoName = NoDllName
failure_at text (refusal.Members fault position) =
    RefusedAt fault
    (place_of_export (mark_length text + position.offset) (export_index (cause_of fault)))
failure_at text (refusal.Archive fault) = NoArchive fault
failure_at text refusal.OutOfMemory = OutOfMemory

-- what a call leaves, by what the library of options is, and why there is none
abbrev pub AnswersAs : (LibraryOptionsView → List ℕ → Type 0) →
    (LibraryOptionsView → Refusal → Type 0) → List ℕ → GivenOptions → List ℕ → List ℕ →
    ℕ → ℕ → ℕ → Type 0
AnswersAs IsMade IsRefused text given =
    Leaves (λ file. WithOptions given (λ options. IsMade options file))
    (LacksWith given (λ options. IsBecause (failure_at text) (IsRefused options)))

-- what a call for the library leaves that the program makes
abbrev pub LibraryWithAnswers : List ℕ → GivenOptions → List ℕ → List ℕ → ℕ → ℕ → ℕ → Type 0
LibraryWithAnswers text = AnswersAs (IsLibrary text) (IsRefusalOfBytes text) text

-- what one for the same library leaves, with a null descriptor that is named after it
-- (`implib_libraries`)
abbrev pub NamedLibraryAnswers : List ℕ → GivenOptions → List ℕ → List ℕ → ℕ → ℕ → ℕ → Type 0
NamedLibraryAnswers text = AnswersAs (IsNamedLibrary text) (IsRefusalOfNamedLibrary text) text

-- View: the offset of a refusal is one of the text without its byte order mark, or of its end.
abbrev pub IsWithin : List ℕ → Refusal → Type 0
IsWithin text (refusal.NotUtf8 position) = position.offset ≤ length (definition_text text)
IsWithin text (refusal.Syntax fault position) = position.offset ≤ length (definition_text text)
IsWithin text (refusal.Members fault position) = position.offset ≤ length (definition_text text)
IsWithin text _ = Unit {0}
