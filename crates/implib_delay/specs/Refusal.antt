-- Which definitions have no delayed imports, and for which cause first.
use Rattle.std.specs.Prelude.{ℕ, ◌+◌, ◌||◌, List, [], ◌∷◌, Option, Some, None, Result, IfErr}
use Rattle.std.specs.Prelude.{if◌then◌else◌}
use Rattle.std.specs.Option.{option_map}
use Rattle.implib.specs.declared.error.Error.{Error}
use Rattle.implib.specs.declared.error.Error.TheVariants as whole
use Rattle.implib.specs.declared.flavor.Flavor.TheVariants.{Gnu}
use Rattle.implib.specs.declared.machine.MachineType.{MachineType}
use Rattle.implib.specs.declared.machine.MachineType.TheVariants.{I386, ARMNT, AMD64, ARM64}
use Rattle.implib.specs.Definition.{DefinitionView, ExportView}
use Rattle.implib.specs.Fault.{Cause, cause_of, export_index}
use Rattle.implib.specs.Import.{is_alias}
use Rattle.implib.specs.Members.NameRules.{definition_names_refusal}
use Rattle.implib_delay.specs.declared.error.DelayError.{DelayError}
use Rattle.implib_delay.specs.declared.error.DelayError.TheVariants.{Invalid, OutOfMemory}
use Rattle.implib_delay.specs.declared.error.DelayFault.{DelayFault}
use Rattle.implib_delay.specs.declared.error.DelayFault.TheVariants as fault

-- the faults, with what each of them reports
pub data DelayCause : Type 0 where
  NoMachine : DelayCause
  IsData : ℕ → DelayCause
  IsAlias : ℕ → DelayCause
  OfNames : Cause → DelayCause

-- what a fault of the program says
abbrev pub delay_cause : DelayFault → DelayCause
delay_cause fault.Machine = NoMachine
delay_cause (fault.Data index) = IsData index
delay_cause (fault.Alias index) = IsAlias index
delay_cause (fault.Names names) = OfNames (cause_of names)

-- the index of the export in a cause, if it has one
abbrev pub delay_index : DelayCause → Option ℕ
delay_index NoMachine = None
delay_index (IsData index) = Some index
delay_index (IsAlias index) = Some index
delay_index (OfNames cause) = export_index cause

-- the error that an error of `implib` becomes
abbrev pub of_error : Error → DelayError
of_error (whole.Invalid names) = Invalid (fault.Names names)
of_error (whole.OutOfMemory refused) = OutOfMemory refused

-- where the answer is a fault of the input, this holds of its cause
abbrev pub OfDelayCause : (DelayCause → Type 0) → DelayError → Type 0
OfDelayCause P (Invalid refused) = P (delay_cause refused)
OfDelayCause P (OutOfMemory refused) = Unit {0}

abbrev pub IfRefused : {T : Type 0} → Result T DelayError → (DelayCause → Type 0) → Type 0
IfRefused result P = IfErr result (OfDelayCause P)

-- the first of two answers
abbrev pub first_cause : Option DelayCause → Option DelayCause → Option DelayCause
first_cause (Some cause) later = Some cause
first_cause None later = later

-- a machine without code for delayed imports
abbrev pub machine_refusal : MachineType → Option DelayCause
machine_refusal I386 = None
machine_refusal ARMNT = Some NoMachine
machine_refusal AMD64 = None
machine_refusal ARM64 = Some NoMachine

-- an export that cannot be delayed
abbrev pub kind_refusal : ℕ → ExportView → Option DelayCause
kind_refusal index e =
    if e.is_data || e.constant then Some (IsData index)
    else if is_alias e.alias_target e.name then Some (IsAlias index)
    else None

-- the first of them, the exports numbered from this index; private ones are skipped
abbrev pub kinds_refusal : ℕ → List ExportView → Option DelayCause
kinds_refusal index [] = None
kinds_refusal index (e ∷ exports) =
    first_cause (if e.private then None else kind_refusal index e)
    (kinds_refusal (index + 1) exports)

-- The first rule that a definition breaks, its exports under their names to link by: on the
-- machine, on names as in an ordinary library for GNU's linker, on what its exports are.
unfoldable pub input_refusal : DefinitionView → MachineType → Option DelayCause
input_refusal d machine =
    first_cause (machine_refusal machine)
    (first_cause (option_map OfNames (definition_names_refusal d machine Gnu))
    (kinds_refusal 0 d.exports))
