-- What the options of a command line ask for (this project's choice, after GNU dlltool and
-- llvm-dlltool).
use Rattle.std.specs.Prelude.{◌≡◌, ◌==◌, ℕ, Bool, true, false, ◌&&◌, ◌||◌, not, List, [], ◌∷◌}
use Rattle.std.specs.Prelude.{Option, None, Some, Result, Ok, Err, codes, if◌then◌else◌, is_some}
use Rattle.std.specs.Prelude.{length, map, nat_eq, nat_lt}
use Rattle.std.specs.Char.{to_ascii_lowercase}
use Rattle.std.specs.List.{before_first, ends_with, position_or_len, starts_with}
use Rattle.std.specs.Option.{option_map}
use Rattle.std.specs.Str.{bytes_eq}
use Rattle.implib.specs.declared.flavor.Flavor.{Flavor}
use Rattle.implib.specs.declared.flavor.Flavor.TheVariants.{Msvc, Gnu}
use Rattle.implib.specs.declared.machine.MachineType.{MachineType}
use Rattle.implib.specs.declared.machine.MachineType.TheVariants.{I386, ARMNT, AMD64, ARM64}
use Rattle.implib_driver.specs.declared.identity.Wanted.{Wanted}
use Rattle.implib_driver.specs.declared.identity.Wanted.TheVariants.{Dlls, Members, OneDll}
use Rattle.implib_driver.specs.declared.machine.LibraryMachine.{LibraryMachine}
use Rattle.implib_driver.specs.declared.machine.LibraryMachine.TheVariants.{Arm64ec, Ordinary}
use Rattle.implib_driver.specs.declared.request.Arm64ecWish.{Arm64ecWish}
use Rattle.implib_driver.specs.declared.request.CallError.{CallError}
use Rattle.implib_driver.specs.declared.request.CallError.TheVariants as error
use Rattle.implib_driver.specs.declared.request.CalledAs.{CalledAs}
use Rattle.implib_driver.specs.declared.request.CalledAs.TheVariants as called
use Rattle.implib_driver.specs.declared.request.CalledAs.TheVariants.{Itself, Llvm}
use Rattle.implib_driver.specs.declared.request.Caller.{Caller}
use Rattle.implib_driver.specs.declared.request.CallFault.{CallFault}
use Rattle.implib_driver.specs.declared.request.CallFault.TheVariants as fault
use Rattle.implib_driver.specs.declared.request.Request.{Request}
use Rattle.implib_driver.specs.declared.request.Task.{Task}
use Rattle.implib_driver.specs.declared.request.Task.TheVariants as task
use Rattle.implib.specs.Conversions.{flavor_named}
use Rattle.implib.specs.Machine.{has_leading_underscore}
use Rattle.implib_options.specs.declared.table.Meaning.TheVariants.{NativeDefinition, DelayedOutput}
use Rattle.implib_options.specs.declared.table.Meaning.TheVariants.{Definition, Input, Output}
use Rattle.implib_options.specs.declared.table.Meaning.TheVariants.{Machine, Dll}
use Rattle.implib_options.specs.declared.table.Meaning.TheVariants.{Flavor as FlavorSetting}
use Rattle.implib_options.specs.declared.table.Meaning.TheVariants.{Assembler, AssemblerFlags}
use Rattle.implib_options.specs.declared.table.Meaning.TheVariants.{TemporaryPrefix, FurtherPrefix}
use Rattle.implib_options.specs.declared.table.Meaning.TheVariants.{Identify, Decorations, Search}
use Rattle.implib_options.specs.declared.table.Meaning.TheVariants.{Help, IdentifyStrict}
use Rattle.implib_options.specs.declared.table.Meaning.TheVariants.{KeepsDecorated, KillAt}
use Rattle.implib_options.specs.declared.table.Meaning.TheVariants.{ListsMembers, LeadingUnderscore}
use Rattle.implib_options.specs.declared.table.Meaning.TheVariants.{NoLeadingUnderscore, Verbose}
use Rattle.implib_options.specs.declared.table.Meaning.TheVariants.{Version, ExportAs}
use Rattle.implib_options.specs.declared.table.Meaning.TheVariants.{AddUnderscore}
use Rattle.implib_options.specs.declared.table.Meaning.TheVariants.{AddStdcallUnderscore}
use Rattle.implib_options.specs.declared.table.Meaning.TheVariants.{CompatImplib}
use Rattle.implib_options.specs.Given.{GivenView, all, given_view, has, is_last, last}
use Rattle.implib_rules.specs.Additions.{AdditionsView}
use Rattle.implib_rules.specs.Linked.{NamingView}
use Rattle.implib_rules.specs.Names.{last_part}
use Rattle.implib_rules.specs.Options.{LibraryOptionsView, library_options_view}
use Rattle.implib_driver.specs.Machines.{library_machine_called, machine_type}

-- the library that is asked for
pub record RequestView : Type 0 where
  -- the file of the definition, or of the DLL
  pub definition : List ℕ
  -- the file of the library
  pub output : Option (List ℕ)
  -- the file of the library of delayed imports
  pub delayed : Option (List ℕ)
  -- what it is made for; for ARM64EC, ARM64 and Microsoft's linkers
  pub library : LibraryOptionsView
  -- where the library is for ARM64EC, the file of the native definition, if there is one
  pub arm64ec : Option (Option (List ℕ))
  -- the file that has the symbols of a DLL's names
  pub decorations : Option (List ℕ)
  -- the folders of further DLLs
  pub search : List (List ℕ)
  -- whether addresses have their older symbols too
  pub older_symbols : Bool
  -- whether warnings are written
  pub is_verbose : Bool

-- the view of what is asked for beside a library for ARM64EC
abbrev pub wish_view : Arm64ecWish → Option (List ℕ)
wish_view wish = option_map (λ text. text.now) wish.native

-- the view of a request of the program
abbrev pub request_view : Request → RequestView
request_view r = record {
  definition = r.definition.now;
  output = option_map (λ text. text.now) r.output;
  delayed = option_map (λ text. text.now) r.delayed;
  library = library_options_view r.library;
  arm64ec = option_map wish_view r.arm64ec;
  decorations = option_map (λ text. text.now) r.decorations;
  search = all Search (map given_view r.options.now);
  older_symbols = r.older_symbols;
  is_verbose = r.is_verbose;
}

-- what a command line asks for
pub data TaskView : Type 0 where
  AsksHelp : TaskView
  AsksVersion : TaskView
  -- the DLLs of the library in a file, which have to be one where that is strict
  AsksIdentity : List ℕ → Wanted → TaskView
  Asks : RequestView → TaskView

-- the view of a task of the program
abbrev pub task_view : Task → TaskView
task_view task.Help = AsksHelp
task_view task.Version = AsksVersion
task_view (task.Identify wish) = AsksIdentity wish.library.now wish.wanted
task_view (task.Make request) = Asks (request_view request)

-- why options ask for nothing that can be done
pub data CallFaultView : Type 0 where
  LacksDefinition : CallFaultView
  HasTwoInputs : CallFaultView
  IsUnknownMachine : List ℕ → CallFaultView
  IsUnknownFlavor : List ℕ → CallFaultView
  HasEmptyDll : CallFaultView
  GoesToStandard : CallFaultView
  HasEmptyOutput : CallFaultView
  HasEmptyDefinition : CallFaultView
  IsOtherArchitecture : CallFaultView
  HasNoUnderscore : CallFaultView
  HasNoOlderSymbols : CallFaultView
  ReplacesDefinition : CallFaultView
  ReplacesDecorations : CallFaultView
  ReplacesSearched : CallFaultView
  HasOneOutput : CallFaultView
  HasNoDelay : CallFaultView
  DelaysForMicrosoft : CallFaultView
  DecoratesDefinition : CallFaultView
  SearchesForDefinition : CallFaultView
  IsArm64ecForGnu : CallFaultView
  HasNativeElsewhere : CallFaultView
  HasEmptyNative : CallFaultView
  ReplacesNative : CallFaultView
  HasOneInput : CallFaultView

-- the view of a fault of the program
abbrev pub call_fault_view : CallFault → CallFaultView
call_fault_view fault.NoDefinition = LacksDefinition
call_fault_view fault.TwoInputs = HasTwoInputs
call_fault_view (fault.UnknownMachine name) = IsUnknownMachine name.now
call_fault_view (fault.UnknownFlavor name) = IsUnknownFlavor name.now
call_fault_view fault.EmptyDll = HasEmptyDll
call_fault_view fault.OutputToStandard = GoesToStandard
call_fault_view fault.EmptyOutput = HasEmptyOutput
call_fault_view fault.EmptyDefinition = HasEmptyDefinition
call_fault_view fault.OtherArchitecture = IsOtherArchitecture
call_fault_view fault.NoUnderscore = HasNoUnderscore
call_fault_view fault.NoOlderSymbols = HasNoOlderSymbols
call_fault_view fault.OutputIsDefinition = ReplacesDefinition
call_fault_view fault.OutputIsDecorations = ReplacesDecorations
call_fault_view fault.OutputIsSearched = ReplacesSearched
call_fault_view fault.OneOutput = HasOneOutput
call_fault_view fault.NoDelay = HasNoDelay
call_fault_view fault.DelayForMicrosoft = DelaysForMicrosoft
call_fault_view fault.DecoratedDefinition = DecoratesDefinition
call_fault_view fault.SearchedDefinition = SearchesForDefinition
call_fault_view fault.Arm64ecForGnu = IsArm64ecForGnu
call_fault_view fault.NativeElsewhere = HasNativeElsewhere
call_fault_view fault.EmptyNative = HasEmptyNative
call_fault_view fault.OutputIsNative = ReplacesNative
call_fault_view fault.OneInput = HasOneInput

-- a value that is asked for, or what is wrong
abbrev pub Asked : Type 0 → Type 0
Asked A = Result A CallFaultView

-- the error is that what is asked for is refused for this, or memory was
abbrev pub IsCallRefusal : {A : Type 0} → Asked A → CallError → Type 0
IsCallRefusal asked (error.Refused fault) = asked ≡ Err (call_fault_view fault)
IsCallRefusal asked error.OutOfMemory = Unit {0}

-- with a value that is asked for, more
abbrev pub with : {A B : Type 0} → Asked A → (A → Asked B) → Asked B
with (Ok value) more = more value
with (Err fault) more = Err fault

-- the machine of a name, in letters of any case
abbrev pub machine_named : List ℕ → Option LibraryMachine
machine_named name = library_machine_called (map to_ascii_lowercase name)

-- whether a text begins with this one
abbrev pub begins_with : List ℕ → List ℕ → Bool
begins_with text front = starts_with nat_eq text front

-- the architectures that are not supported, as targets and programs for them are named
abbrev pub is_other_architecture : List ℕ → Bool
is_other_architecture name =
    if bytes_eq name (codes "arm64e") then true
    else if bytes_eq name (codes "aarch64_be") then true
    else if bytes_eq name (codes "armeb") then true
    else if bytes_eq name (codes "thumb") then true
    else if bytes_eq name (codes "thumbeb") then true
    else if bytes_eq name (codes "riscv32") then true
    else if bytes_eq name (codes "riscv64") then true
    else if bytes_eq name (codes "loongarch32") then true
    else if bytes_eq name (codes "loongarch64") then true
    else if bytes_eq name (codes "ia64") then true
    else if bytes_eq name (codes "alpha") then true
    else if bytes_eq name (codes "mips") then true
    else if bytes_eq name (codes "mipsel") then true
    else if bytes_eq name (codes "mips64") then true
    else if bytes_eq name (codes "mips64el") then true
    else if bytes_eq name (codes "sh3") then true
    else if bytes_eq name (codes "sh4") then true
    else if bytes_eq name (codes "sparc") then true
    else if bytes_eq name (codes "sparc64") then true
    else if bytes_eq name (codes "powerpc") then true
    else if bytes_eq name (codes "powerpc64") then true
    else if bytes_eq name (codes "powerpc64le") then true
    else if bytes_eq name (codes "ppc") then true
    else if bytes_eq name (codes "ppc64") then true
    else if bytes_eq name (codes "ppc64le") then true
    else if bytes_eq name (codes "s390x") then true
    else if bytes_eq name (codes "wasm32") then true
    else if bytes_eq name (codes "wasm64") then true
    else if bytes_eq name (codes "mcore") then true
    else false

-- the machine of an architecture that has this name
abbrev pub architecture_named : List ℕ → Option LibraryMachine
architecture_named name =
    if bytes_eq name (codes "i386") then Some (Ordinary I386)
    else if bytes_eq name (codes "i486") then Some (Ordinary I386)
    else if bytes_eq name (codes "i586") then Some (Ordinary I386)
    else if bytes_eq name (codes "i686") then Some (Ordinary I386)
    else if bytes_eq name (codes "i786") then Some (Ordinary I386)
    else if bytes_eq name (codes "i886") then Some (Ordinary I386)
    else if bytes_eq name (codes "i986") then Some (Ordinary I386)
    else if bytes_eq name (codes "arm") then Some (Ordinary ARMNT)
    else if bytes_eq name (codes "aarch64") then Some (Ordinary ARM64)
    else if bytes_eq name (codes "arm64") then Some (Ordinary ARM64)
    else if bytes_eq name (codes "arm64ec") then Some Arm64ec
    else None

-- the machine of an architecture, as the first part of a target's name: by the name, or ARMNT for
-- the forms of armv7; AMD64 for what is none, and none for an architecture that is not supported
abbrev pub machine_of_architecture : List ℕ → Option LibraryMachine
machine_of_architecture name =
    if is_some (architecture_named name) then architecture_named name
    else if begins_with name (codes "armv7") then Some (Ordinary ARMNT)
    else if is_other_architecture name then None
    else Some (Ordinary AMD64)

-- the byte is `-`
abbrev pub is_minus : ℕ → Bool
is_minus b = b == 45

-- the machine of a program's name: that of the architecture before its first `-`, as in
-- aarch64-w64-mingw32-dlltool; AMD64 without a `-`
abbrev pub machine_of_name : List ℕ → Option LibraryMachine
machine_of_name name =
    if nat_lt (position_or_len is_minus name) (length name)
    then machine_of_architecture (before_first is_minus name)
    else Some (Ordinary AMD64)

-- whether a text, which is not empty, is within another
abbrev pub holds_text : List ℕ → List ℕ → Bool
holds_text [] text = false
holds_text (b ∷ bytes) text = begins_with (b ∷ bytes) text || holds_text bytes text

-- whose ways a program's name asks for: llvm-dlltool's, GNU dlltool's, or its own
abbrev pub called_as : List ℕ → CalledAs
called_as name =
    if holds_text name (codes "llvm-dlltool") then Llvm
    else if holds_text name (codes "dlltool") && not (holds_text name (codes "implib_dlltool"))
    then called.Gnu
    else Itself

-- what the name that the program is called by says
abbrev pub caller_of : List ℕ → Caller
caller_of program = record {
  machine = machine_of_name (last_part program);
  called_as = called_as (last_part program);
}

-- whether an option is given that only GNU dlltool has a use for: those who do link by GNU's
-- linker, whatever the ending of the library's name (rustc ends it in .lib)
abbrev pub has_gnu_habits : List GivenView → Bool
has_gnu_habits options =
    is_some (last Assembler options) || is_some (last AssemblerFlags options)
    || is_some (last TemporaryPrefix options)
    || is_some (last DelayedOutput options)

-- the flavour by the ending of a file's name
abbrev pub flavor_by_ending : Option (List ℕ) → Flavor
flavor_by_ending None = Gnu
flavor_by_ending (Some path) =
    if ends_with nat_eq path (codes ".lib") then Msvc
    else if ends_with nat_eq path (codes ".LIB") then Msvc
    else Gnu

-- the flavour on I386 and AMD64: GNU's, but for a library in .lib without GNU dlltool's options and
-- name
abbrev pub usual_flavor : CalledAs → Bool → Option (List ℕ) → Flavor
usual_flavor Itself habits output = if habits then Gnu else flavor_by_ending output
usual_flavor _ habits output = Gnu

-- The flavour where none is given: Microsoft's on ARMNT and ARM64, whose stubs for GNU's linker are
-- not complete, and where the program is called as llvm-dlltool is.
abbrev pub default_flavor : CalledAs → MachineType → Bool → Option (List ℕ) → Flavor
default_flavor Llvm machine habits output = Msvc
default_flavor called ARMNT habits output = Msvc
default_flavor called ARM64 habits output = Msvc
default_flavor called I386 habits output = usual_flavor called habits output
default_flavor called AMD64 habits output = usual_flavor called habits output

-- the machine, if its name is one
abbrev pub known_machine : List ℕ → Option LibraryMachine → Asked LibraryMachine
known_machine name (Some machine) = Ok machine
known_machine name None = Err (IsUnknownMachine name)

-- the machine without a name, if the program's name is not of another architecture
abbrev pub unnamed_machine : Option LibraryMachine → Asked LibraryMachine
unnamed_machine (Some machine) = Ok machine
unnamed_machine None = Err IsOtherArchitecture

-- the machine that is named, or the one without a name
abbrev pub machine_or : Option LibraryMachine → Option (List ℕ) → Asked LibraryMachine
machine_or unnamed None = unnamed_machine unnamed
machine_or unnamed (Some name) = known_machine name (machine_named name)

-- the machine that options name, or the one without a name
abbrev pub machine_in : Option LibraryMachine → List GivenView → Asked LibraryMachine
machine_in unnamed options = machine_or unnamed (last Machine options)

-- the flavour, if its name is one
abbrev pub known_flavor : List ℕ → Option Flavor → Asked Flavor
known_flavor name (Some flavor) = Ok flavor
known_flavor name None = Err (IsUnknownFlavor name)

-- the flavour that is named, or the one without a name
abbrev pub flavor_or : Flavor → Option (List ℕ) → Asked Flavor
flavor_or unnamed None = Ok unnamed
flavor_or unnamed (Some name) = known_flavor name (flavor_named name)

-- the flavour for a machine and a library of this file
abbrev pub flavor_in : CalledAs → MachineType → Option (List ℕ) → List GivenView → Asked Flavor
flavor_in called machine output options =
    flavor_or (default_flavor called machine (has_gnu_habits options) output)
    (last FlavorSetting options)

-- the DLL's name, unless it is empty or ends in a directory
abbrev pub dll_or : Option (List ℕ) → Asked (Option (List ℕ))
dll_or None = Ok None
dll_or (Some name) = if nat_eq (length (last_part name)) 0 then Err HasEmptyDll else Ok (Some name)

-- the DLL's name that options give
abbrev pub dll_in : List GivenView → Asked (Option (List ℕ))
dll_in options = dll_or (last Dll options)

-- a library's file, which is not standard output (whose place it would take, Apart says)
abbrev pub output_or : Option (List ℕ) → Asked (Option (List ℕ))
output_or None = Ok None
output_or (Some path) =
    if bytes_eq path (codes "-") then Err GoesToStandard
    else if bytes_eq path [] then Err HasEmptyOutput
    else Ok (Some path)

-- the files of the library, and of that of delayed imports, that options give
abbrev pub output_in : List GivenView → Asked (Option (List ℕ))
output_in options = output_or (last Output options)

abbrev pub delayed_in : List GivenView → Asked (Option (List ℕ))
delayed_in options = output_or (last DelayedOutput options)

-- the file of the native definition, which has a name, and is not standard input if the definition
-- is
abbrev pub native_or : List ℕ → Option (List ℕ) → Asked (Option (List ℕ))
native_or definition None = Ok None
native_or definition (Some path) =
    if bytes_eq path [] then Err HasEmptyNative
    else if bytes_eq path (codes "-") && bytes_eq definition (codes "-") then Err HasOneInput
    else Ok (Some path)

-- what is asked for beside a library for ARM64EC, which is for Microsoft's linkers; for other
-- machines there is no native definition
abbrev pub arm64ec_or : LibraryMachine → Flavor → List ℕ → Option (List ℕ) →
    Asked (Option (Option (List ℕ)))
arm64ec_or (Ordinary machine) flavor definition None = Ok None
arm64ec_or (Ordinary machine) flavor definition (Some path) = Err HasNativeElsewhere
arm64ec_or Arm64ec Gnu definition given = Err IsArm64ecForGnu
arm64ec_or Arm64ec Msvc definition given =
    with (native_or definition given) (λ native. Ok (Some native))

-- what options ask for beside a library for ARM64EC, if the machine is that
abbrev pub arm64ec_in : LibraryMachine → Flavor → List ℕ → List GivenView →
    Asked (Option (Option (List ℕ)))
arm64ec_in machine flavor definition options =
    arm64ec_or machine flavor definition (last NativeDefinition options)

-- Whether imports can be delayed: I386 and AMD64 have the code, and Microsoft's linkers delay the
-- imports of an ordinary library by their option `/delayload`.
abbrev pub can_delay : MachineType → Flavor → Asked (Unit {0})
can_delay ARMNT flavor = Err HasNoDelay
can_delay ARM64 flavor = Err HasNoDelay
can_delay I386 Msvc = Err DelaysForMicrosoft
can_delay AMD64 Msvc = Err DelaysForMicrosoft
can_delay I386 Gnu = Ok tt
can_delay AMD64 Gnu = Ok tt

-- whether they can where that is asked for
abbrev pub delay_for : MachineType → Flavor → Option (List ℕ) → Asked (Unit {0})
delay_for machine flavor None = Ok tt
delay_for machine flavor (Some path) = can_delay machine flavor

-- How options want names to be read. Of the two about C's underscore the last counts, and one is
-- asked for only where there is one.
abbrev pub naming_in : MachineType → List GivenView → Asked NamingView
naming_in machine options =
    if is_last LeadingUnderscore NoLeadingUnderscore options && not (has_leading_underscore machine)
    then Err HasNoUnderscore
    else Ok (record {
      is_plain = is_last NoLeadingUnderscore LeadingUnderscore options;
      kills_at = has KillAt options;
      exports_as = has ExportAs options;
      keeps_decorated = has KeepsDecorated options;
    })

-- what options add to the exports
abbrev pub additions_in : List GivenView → AdditionsView
additions_in options = record {
  prefix = last FurtherPrefix options;
  underscore = has AddUnderscore options;
  stdcall_underscore = has AddStdcallUnderscore options;
}

-- older symbols of addresses, if they are asked for, which no short import can declare
abbrev pub older_symbols_or : Flavor → Bool → Asked Bool
older_symbols_or Msvc true = Err HasNoOlderSymbols
older_symbols_or Msvc false = Ok false
older_symbols_or Gnu asked = Ok asked

-- whether options ask for older symbols of addresses
abbrev pub older_symbols_in : Flavor → List GivenView → Asked Bool
older_symbols_in flavor options = older_symbols_or flavor (has CompatImplib options)

-- the definition's file, which has a name
abbrev pub definition_or : Option (List ℕ) → Asked (List ℕ)
definition_or None = Err LacksDefinition
definition_or (Some path) = if bytes_eq path [] then Err HasEmptyDefinition else Ok path

-- the library that is asked for, of this definition
abbrev pub request_of : Caller → List GivenView → Option (List ℕ) → Asked RequestView
request_of caller options given =
    with (definition_or given) (λ definition.
    with (output_in options) (λ output.
    with (delayed_in options) (λ delayed.
    with (machine_in caller.machine options) (λ machine.
    with (flavor_in caller.called_as (machine_type machine) output options) (λ flavor.
    with (arm64ec_in machine flavor definition options) (λ arm64ec.
    with (dll_in options) (λ dll.
    with (naming_in (machine_type machine) options) (λ naming.
    with (delay_for (machine_type machine) flavor delayed) (λ delays.
    with (older_symbols_in flavor options) (λ older_symbols.
    Ok (record {
      definition = definition;
      output = output;
      delayed = delayed;
      library = record {
        machine = machine_type machine;
        flavor = flavor;
        dll = dll;
        naming = naming;
        additions = additions_in options;
      };
      arm64ec = arm64ec;
      decorations = last Decorations options;
      search = all Search options;
      older_symbols = older_symbols;
      is_verbose = has Verbose options;
    })))))))))))

-- the file to make a library of: the definition's, or the one that is given without an option, but
-- not both
abbrev pub input_of : Option (List ℕ) → List (List ℕ) → Asked (Option (List ℕ))
input_of definition [] = Ok definition
input_of None (path ∷ []) = Ok (Some path)
input_of (Some definition) (path ∷ []) = Err HasTwoInputs
input_of definition (path ∷ other ∷ paths) = Err HasTwoInputs

-- the file that options give to make a library of
abbrev pub input_in : List GivenView → Asked (Option (List ℕ))
input_in options = input_of (last Definition options) (all Input options)

-- the library that options ask for
abbrev pub request_in : Caller → List GivenView → Asked RequestView
request_in caller options = with (input_in options) (request_of caller options)

-- the library that options ask for where it is one of a DLL for this machine
abbrev pub request_for : Caller → List GivenView → MachineType → Asked RequestView
request_for caller options machine =
    request_in (record caller { machine = Some (Ordinary machine) }) options

-- a library, as what is asked for
abbrev pub made : Asked RequestView → Asked TaskView
made (Ok request) = Ok (Asks request)
made (Err fault) = Err fault

-- the DLLs of a library, where one is given
abbrev pub identity_or : Asked TaskView → Wanted → Option (List ℕ) → Asked TaskView
identity_or task wanted None = task
identity_or task wanted (Some library) = Ok (AsksIdentity library wanted)

-- what is printed of a library
abbrev pub wanted_of : List GivenView → Wanted
wanted_of options =
    if has ListsMembers options then Members
    else if has IdentifyStrict options then OneDll
    else Dlls

-- what options ask for, where the program is called so
abbrev pub task_of : Caller → List GivenView → Asked TaskView
task_of caller options =
    if has Help options then Ok AsksHelp
    else if has Version options then Ok AsksVersion
    else identity_or (made (request_in caller options)) (wanted_of options)
    (last Identify options)
