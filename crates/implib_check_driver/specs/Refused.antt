-- Why a library is not compared with a definition (this project's choice).
use Rattle.std.specs.Prelude.{ℕ, Bool, List, Option}
use Rattle.implib_rules.specs.Options.{LibraryOptionsView}
use Rattle.implib_compare.specs.Meant.{IsArm64ecFault, IsRefusalFor}
use Rattle.implib_check_driver.specs.Answer.{IsHalt}
use Rattle.implib_check_driver.specs.declared.arm64ec.Arm64ecError.{Arm64ecError}
use Rattle.implib_check_driver.specs.declared.arm64ec.Arm64ecError.TheVariants as arm64ec
use Rattle.implib_check_driver.specs.declared.beside.HeldError.{HeldError}
use Rattle.implib_check_driver.specs.declared.beside.HeldError.TheVariants as held
use Rattle.implib_check_driver.specs.declared.definition.CheckError.{CheckError}
use Rattle.implib_check_driver.specs.declared.definition.CheckError.TheVariants.{OutOfMemory}
use Rattle.implib_check_driver.specs.declared.definition.CheckError.TheVariants.{Refused}

-- why a definition is not compared: it has no library, for this
abbrev pub IsRefusalOfCheck : Bool → List ℕ → LibraryOptionsView → CheckError → Type 0
IsRefusalOfCheck older definition options (Refused refusal) =
    IsRefusalFor older definition options refusal
IsRefusalOfCheck older definition options OutOfMemory = Unit {0}

-- why the library of a definition is not held against a DLL: there is none, or the system fails
abbrev pub IsHeldError : (List ℕ → Bool) → Bool → List ℕ → LibraryOptionsView → HeldError → Type 0
IsHeldError may_fail older definition options (held.Refused refusal) =
    IsRefusalFor older definition options refusal
IsHeldError may_fail older definition options (held.Halted halt) = IsHalt may_fail halt

-- why the definitions of a library for ARM64EC are not compared
abbrev pub IsRefusalOfArm64ec : List ℕ → Option (List ℕ) → LibraryOptionsView → Arm64ecError →
    Type 0
IsRefusalOfArm64ec definition native options (arm64ec.Refused fault) =
    IsArm64ecFault definition native options fault
IsRefusalOfArm64ec definition native options arm64ec.OutOfMemory = Unit {0}
