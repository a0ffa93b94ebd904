-- The members of a definition whose exports are under their names to link by.
use Rattle.std.proofs.Common.{arith, ◌≡◌, true, false, List, map, Some, None, Result, Ok, Err}
use Rattle.std.specs.Prelude.{IfOk, OnOk}
use Rattle.std.specs.List.{list_all, list_any}
use Rattle.implib.specs.declared.error.Error.{Error}
use Rattle.implib.specs.declared.error.Error.TheVariants.{Invalid, OutOfMemory}
use Rattle.implib.specs.declared.flavor.Flavor.{Flavor}
use Rattle.implib.specs.declared.machine.MachineType.{MachineType}
use Rattle.implib.specs.Definition.{DefinitionView}
use Rattle.implib.specs.Fault.{Cause, MemberTooLong, IfInvalid}
use Rattle.implib.specs.Import.{public_exports}
use Rattle.implib.specs.Members.MemberLists.{AreListsOf, lists_view}
use Rattle.implib.specs.Views.Making.{MakesLists}
use Rattle.implib.specs.declared.msvc.members.MemberLists.{MemberLists}
use Rattle.implib.specs.Members.Members.{AreMembersOf, member_specs, is_too_long, has_u16_ordinal, renamed_refusal, refusal}
use Rattle.implib.specs.Members.MemberSpec.{MemberView, member_of}
use Rattle.implib.specs.Members.NameRules.{definition_names_refusal, RefusesAlways}
use Rattle.implib.specs.Members.ReadBack.{ReadBack}
use Rattle.implib.specs.Renaming.{renamed}
use Rattle.implib.proofs.Members.GnuReadings.{reads_for_gnu}
use Rattle.implib.proofs.Members.MemberMeanings.{reads_as_msvc}
use Rattle.implib.specs.declared.flavor.Flavor.TheVariants.{Msvc, Gnu}

-- the refusal by names comes first
pub refused_by_names : (d : DefinitionView) (machine : MachineType) (flavor : Flavor) (cause : Cause) → renamed d ≡ d →
    Some cause ≡ definition_names_refusal d machine flavor → refusal d machine flavor ≡ Some cause
unfolding refusal renamed_refusal
refused_by_names d machine flavor cause same found = grind arith

-- and it is the only one of its kind
pub same_refusal_by_names : (d : DefinitionView) (machine : MachineType) (flavor : Flavor) (found cause : Cause) → renamed d ≡ d →
    Some found ≡ definition_names_refusal d machine flavor → definition_names_refusal (renamed d) machine flavor ≡ Some cause → Some found ≡ Some cause
same_refusal_by_names d machine flavor found cause same is_found refused = grind arith

-- a definition whose names are in order, and none of whose members is too long, is accepted
accepted_of : (d : DefinitionView) (machine : MachineType) (flavor : Flavor) → renamed d ≡ d → None ≡ definition_names_refusal d machine flavor →
    list_any is_too_long (member_specs d machine flavor) ≡ false → refusal d machine flavor ≡ None
unfolding refusal renamed_refusal
accepted_of d machine flavor same names fit = grind arith

-- members that are made, none too long, of a definition whose names are in order, are those of the definition
pub made_of : {T : Type 0} (shown : T → List MemberView) (d : DefinitionView) (machine : MachineType) (flavor : Flavor) (result : Result T Error) →
    renamed d ≡ d → None ≡ definition_names_refusal d machine flavor →
    IfOk result (λ members. shown members ≡ map member_of (member_specs d machine flavor)) →
    OnOk result (list_any is_too_long (member_specs d machine flavor) ≡ false) →
    OnOk result (list_all has_u16_ordinal (public_exports d) ≡ true) →
    IfOk result (λ members. AreMembersOf d machine flavor (shown members))
made_of shown d machine flavor (Err error) same names made fit ordinals = tt
made_of shown d machine flavor (Ok members) same names made fit ordinals = grind (arith, accepted_of)

-- lists of members that are made of such a definition are those of the definition
pub lists_of : (d : DefinitionView) (machine : MachineType) (result : Result MemberLists Error) →
    renamed d ≡ d → None ≡ definition_names_refusal d machine Msvc → MakesLists d machine result →
    OnOk result (list_all has_u16_ordinal (public_exports d) ≡ true) →
    IfOk result (λ lists. AreListsOf d machine (lists_view lists))
lists_of d machine (Err error) same names made ordinals = tt
lists_of d machine (Ok lists) same names made ordinals = grind (arith, accepted_of)

-- a member that is too long refuses a definition whose names are in order
pub refused_by_length : {T : Type 0} (d : DefinitionView) (machine : MachineType) (flavor : Flavor) (result : Result T Error) →
    renamed d ≡ d → None ≡ definition_names_refusal d machine flavor →
    IfInvalid result (λ cause. (cause ≡ MemberTooLong) × (list_any is_too_long (member_specs d machine flavor) ≡ true)) →
    IfInvalid result (λ cause. refusal d machine flavor ≡ Some cause)
unfolding refusal renamed_refusal
refused_by_length d machine flavor (Ok members) same names too_long = tt
refused_by_length d machine flavor (Err (OutOfMemory refused)) same names too_long = tt
refused_by_length d machine flavor (Err (Invalid fault)) same names too_long = grind arith

-- where the names are in order, no name is refused
pub no_refusal_by_names : {T : Type 0} (d : DefinitionView) (machine : MachineType) (flavor : Flavor) (result : Result T Error) →
    renamed d ≡ d → None ≡ definition_names_refusal d machine flavor → RefusesAlways d machine flavor result
no_refusal_by_names d machine flavor result same names = λ cause refused. grind arith

-- the members of a definition that is not refused are read as the definition means
ReadBack-from_Made : (d : DefinitionView) (machine : MachineType) (flavor : Flavor) (members : List MemberView) → AreMembersOf d machine flavor members → ReadBack d machine flavor members
ReadBack-from_Made d machine Msvc members made = reads_as_msvc d machine members made
ReadBack-from_Made d machine Gnu members made = reads_for_gnu d machine members made

-- and they are read as the definition means
pub read_of : {T : Type 0} (shown : T → List MemberView) (d : DefinitionView) (machine : MachineType) (flavor : Flavor) (result : Result T Error) →
    IfOk result (λ members. AreMembersOf d machine flavor (shown members)) → IfOk result (λ members. ReadBack d machine flavor (shown members))
read_of shown d machine flavor (Err error) made = tt
read_of shown d machine flavor (Ok members) made = ReadBack-from_Made d machine flavor (shown members) made
