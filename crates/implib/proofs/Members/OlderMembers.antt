-- The members with older symbols, of a definition whose exports are under their names to link by.
use Rattle.std.proofs.Common.{arith, ◌≡◌, true, false, List, map, Some, None, Result, Ok, Err}
use Rattle.std.specs.Prelude.{IfOk, OnOk}
use Rattle.std.specs.List.{list_all, list_any}
use Rattle.implib.specs.declared.error.Error.{Error}
use Rattle.implib.specs.declared.error.Error.TheVariants.{Invalid, OutOfMemory}
use Rattle.implib.specs.declared.flavor.Flavor.TheVariants.{Gnu}
use Rattle.implib.specs.declared.machine.MachineType.{MachineType}
use Rattle.implib.specs.Definition.{DefinitionView}
use Rattle.implib.specs.Fault.{Cause, MemberTooLong, IfInvalid}
use Rattle.implib.specs.Import.{public_exports}
use Rattle.implib.specs.Members.Members.{has_u16_ordinal, is_too_long, length_refusal}
use Rattle.implib.specs.Members.MemberSpec.{MemberView, member_of}
use Rattle.implib.specs.Members.NameRules.{definition_names_refusal}
use Rattle.implib.specs.Members.OlderSymbols.{AreOlderMembersOf, older_refusal, older_renamed_refusal, older_specs}
use Rattle.implib.specs.Renaming.{renamed}

module _ (d : DefinitionView) (machine : MachineType) (same : renamed d ≡ d) where
  -- the refusal by names comes first
  pub refused_by_names : (cause : Cause) → Some cause ≡ definition_names_refusal d machine Gnu → older_refusal d machine ≡ Some cause
  unfolding older_refusal older_renamed_refusal
  refused_by_names cause found = grind arith

  -- where the names are in order the lengths decide
  by_length : None ≡ definition_names_refusal d machine Gnu → older_refusal d machine ≡ length_refusal (older_specs d machine)
  unfolding older_refusal older_renamed_refusal
  by_length names = grind arith

  -- members that are made, none too long, of a definition whose names are in order, are those of the definition
  pub made_of : {T : Type 0} (shown : T → List MemberView) (result : Result T Error) → None ≡ definition_names_refusal d machine Gnu →
      IfOk result (λ members. shown members ≡ map member_of (older_specs d machine)) →
      OnOk result (list_any is_too_long (older_specs d machine) ≡ false) →
      OnOk result (list_all has_u16_ordinal (public_exports d) ≡ true) →
      IfOk result (λ members. AreOlderMembersOf d machine (shown members))
  made_of shown (Err error) names made fit ordinals = tt
  made_of shown (Ok members) names made fit ordinals = grind (arith, by_length)

  -- a member that is too long refuses a definition whose names are in order
  pub refused_by_length : {T : Type 0} (result : Result T Error) → None ≡ definition_names_refusal d machine Gnu →
      IfInvalid result (λ cause. (cause ≡ MemberTooLong) × (list_any is_too_long (older_specs d machine) ≡ true)) →
      IfInvalid result (λ cause. older_refusal d machine ≡ Some cause)
  refused_by_length (Ok members) names too_long = tt
  refused_by_length (Err (OutOfMemory refused)) names too_long = tt
  refused_by_length (Err (Invalid fault)) names too_long = grind (arith, by_length)
