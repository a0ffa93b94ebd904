-- What is known of a definition that is refused, or is not.
use Rattle.std.proofs.Common.{◌≡◌, true, false, Option, Some, None, refl}
use Rattle.std.specs.List.{list_any}
use Rattle.std.specs.Option.{option_map}
use Rattle.implib.specs.declared.flavor.Flavor.TheVariants.{Gnu}
use Rattle.implib.specs.declared.machine.MachineType.{MachineType}
use Rattle.implib.specs.Definition.{DefinitionView}
use Rattle.implib.specs.declared.error.Error.{Error}
use Rattle.implib.specs.declared.error.Error.TheVariants.{Invalid, OutOfMemory}
use Rattle.implib.specs.Fault.{Cause, MemberTooLong, OfCause}
use Rattle.implib.specs.Import.{public_exports}
use Rattle.implib.specs.Members.Members.{is_too_long}
use Rattle.implib.specs.Members.NameRules.{definition_names_refusal}
use Rattle.implib_delay.specs.Members.{delay_refusal, delayed_specs, names_of}
use Rattle.implib_delay.specs.Refusal.{DelayCause, OfDelayCause, OfNames, first_cause, input_refusal, kinds_refusal, machine_refusal, of_error}

first_none : (first second : Option DelayCause) → first_cause first second ≡ None → (first ≡ None) × (second ≡ None)
first_none (Some cause) second none = cc
first_none None second none = (refl, none)

pub no_names : (names : Option Cause) → option_map OfNames names ≡ None → names ≡ None
no_names None none = refl
no_names (Some cause) none = cc

-- a definition whose input is not refused breaks no rule on names
pub names_sound : (d : DefinitionView) (machine : MachineType) → input_refusal d machine ≡ None → definition_names_refusal d machine Gnu ≡ None
unfolding input_refusal
names_sound d machine none =
    let later = first_none (machine_refusal machine) (first_cause (option_map OfNames (definition_names_refusal d machine Gnu)) (kinds_refusal 0 d.exports)) none in
    no_names (definition_names_refusal d machine Gnu) (first_none (option_map OfNames (definition_names_refusal d machine Gnu)) (kinds_refusal 0 d.exports) later.1).0

-- what refuses the input refuses the definition
pub refused_by_input : (d : DefinitionView) (machine : MachineType) (cause : DelayCause) → input_refusal d machine ≡ Some cause → delay_refusal d machine ≡ Some cause
unfolding delay_refusal
refused_by_input d machine cause input = rw input refl

pub accepted : (d : DefinitionView) (machine : MachineType) → input_refusal d machine ≡ None →
    list_any is_too_long (delayed_specs machine (names_of d) (public_exports d)) ≡ false → delay_refusal d machine ≡ None
unfolding delay_refusal
accepted d machine input short = rw (input, short) refl

pub too_long : (d : DefinitionView) (machine : MachineType) → input_refusal d machine ≡ None →
    list_any is_too_long (delayed_specs machine (names_of d) (public_exports d)) ≡ true → delay_refusal d machine ≡ Some (OfNames MemberTooLong)
unfolding delay_refusal
too_long d machine input long = rw (input, long) refl

-- a member that is too long refuses it
pub refused_by_length : (d : DefinitionView) (machine : MachineType) (error : Error) → input_refusal d machine ≡ None →
    OfCause (λ cause. (cause ≡ MemberTooLong) × (list_any is_too_long (delayed_specs machine (names_of d) (public_exports d)) ≡ true)) error →
    OfDelayCause (λ cause. delay_refusal d machine ≡ Some cause) (of_error error)
refused_by_length d machine (Invalid fault) input long = rw long.0 (too_long d machine input long.1)
refused_by_length d machine (OutOfMemory refused) input long = tt
