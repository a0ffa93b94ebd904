-- The arguments of the program, and its exit status (this project's choice).
use Rattle.std.specs.Prelude.{◌≡◌, ◌⊎◌, ℕ, Bool, true, false, List, [], ◌∷◌, map, drop, Option}
use Rattle.std.specs.Prelude.{None, Some, MatchOption, Result, Ok, Err, bytes_eq, codes}
use Rattle.std.specs.Io.KnownBytes.{Appends}
use Rattle.std.specs.String.{string_bytes}
use Rattle.std.specs.declared.io.ErrorKind.{ErrorKind}
use Rattle.std.specs.declared.io.ErrorKind.TheVariants as io
use Rattle.std.specs.declared.string.String.{String}
use Rattle.implib.specs.Conversions.{flavor_named, machine_named}
use Rattle.implib.specs.declared.flavor.Flavor.{Flavor}
use Rattle.implib.specs.declared.flavor.Flavor.TheVariants.{Msvc}
use Rattle.implib.specs.declared.machine.MachineType.{MachineType}
use Rattle.implib.specs.declared.machine.MachineType.TheVariants.{AMD64}
use Rattle.implib_tool_driver.specs.declared.program.TheConstants.{HELP}
use Rattle.implib_tool_driver.specs.declared.run.RunError.{RunError}
use Rattle.implib_tool_driver.specs.declared.run.RunError.TheVariants.{Refused, NotUtf8, Read}
use Rattle.implib_tool_driver.specs.declared.run.RunError.TheVariants.{Write, OutOfMemory}
use Rattle.implib_tool_driver.specs.Run.{Devices, Runs}

-- the arguments of a command line but for the first, which is the program's name
abbrev pub arguments_of : {A : Type 0} → List (String A) → List (List ℕ)
arguments_of arguments = map string_bytes (drop 1 arguments)

-- a machine and a flavour, where there are both
abbrev pub both : Option MachineType → Option Flavor → Option (MachineType × Flavor)
both (Some machine) (Some flavor) = Some (machine, flavor)
both (Some machine) None = None
both None flavor = None

-- what the arguments name: a machine and a flavour, or by default AMD64 and msvc
abbrev pub target_named : List (List ℕ) → Option (MachineType × Flavor)
target_named [] = Some (AMD64, Msvc)
target_named (machine ∷ []) = None
target_named (machine ∷ flavor ∷ []) = both (machine_named machine) (flavor_named flavor)
target_named (machine ∷ flavor ∷ more ∷ arguments) = None

-- the exit status of a run's answer: 0 done, 1 refused, 3 for devices and memory
abbrev pub status_of : Result (Unit {0}) RunError → ℕ
status_of (Ok done) = 0
status_of (Err (Refused fault)) = 1
status_of (Err NotUtf8) = 1
status_of (Err Read) = 3
status_of (Err Write) = 3
status_of (Err OutOfMemory) = 3

-- the program runs for this machine and this flavour, and the exit status is that of its answer
pub record Answers (machine : MachineType) (flavor : Flavor) (before after : Devices) (status : ℕ)
    : Type 0 where
  pub answer : Result (Unit {0}) RunError
  pub runs : Runs machine flavor before after answer
  pub is : status ≡ status_of answer

-- there is no machine and flavour to run for: the exit status is 2, or 3 where memory for the
-- arguments could not be allocated, and the devices stay as they were
pub record TurnsDown (before after : Devices) (status : ℕ) : Type 0 where
  pub answer : (status ≡ 2) ⊎ (status ≡ 3)
  pub untouched : after ≡ before

-- what the program does with arguments that are not `--help` alone
abbrev pub Calls : List (List ℕ) → Devices → Devices → ℕ → Type 0
Calls arguments before after status =
    MatchOption (target_named arguments) (TurnsDown before after status)
    (λ wanted. Answers wanted.0 wanted.1 before after status)

-- whether the arguments are `--help` alone
abbrev pub asks_help : List (List ℕ) → Bool
asks_help [] = false
asks_help (word ∷ []) = bytes_eq word (codes "--help")
asks_help (word ∷ more ∷ arguments) = false

-- the help is written, and the exit status is 0; or it is 3, where the writer fails
abbrev pub WritesHelp : Option (List ℕ) → Option (List ℕ) → Bool → ℕ → Type 0
WritesHelp before after failed status =
    ((status ≡ 0) × (failed ≡ false) × Appends before after HELP.now)
    ⊎ ((status ≡ 3) × (failed ≡ true))

-- what the program does for `--help`: nothing is read, and the help is written, or there is no
-- memory for the arguments
pub record Helps (before after : Devices) (status : ℕ) : Type 0 where
  pub unread : (after.remaining ≡ before.remaining) × (after.reader_failed ≡ before.reader_failed)
  pub written : WritesHelp before.contents after.contents after.writer_failed status
      ⊎ ((status ≡ 3) × (after ≡ before))

-- what the program does with its arguments
pub record Performs (arguments : List (List ℕ)) (before after : Devices) (status : ℕ)
    : Type 0 where
  pub help : asks_help arguments ≡ true → Helps before after status
  pub call : asks_help arguments ≡ false → Calls arguments before after status

-- the exit status where the arguments cannot be read: 3 for want of memory, else that of other
-- arguments
abbrev pub status_unread : ErrorKind → ℕ
status_unread io.OutOfMemory = 3
status_unread _ = 2
