-- The refusals of a call for delayed imports, case by case.
use Rattle.std.proofs.Common.{ℕ, List, Some, arith}
use Rattle.implib_libraries.specs.declared.delayed.DelayRefusal.{DelayRefusal}
use Rattle.implib_libraries.specs.declared.delayed.DelayRefusal.TheVariants.{Refused as RefusedBefore, Undelayed as CannotDelay}
use Rattle.implib_libraries.specs.declared.delayed.Undelayed.TheVariants as undelayed
use Rattle.implib_libraries.specs.Delayed.{IsRefusalOfDelayed, IsRefusalOfDelayedMembers}
use Rattle.implib_rules.specs.declared.library.Refusal.TheVariants as refusal
use Rattle.implib_rules.specs.Library.{definition_text}
use Rattle.implib_rules.specs.Options.{LibraryOptionsView}
use Rattle.implib.specs.Fault.{cause_of}
use Rattle.implib_c_calls.specs.Delayed.{IsDelayedWithin}
use Rattle.implib_c_calls.proofs.Within.{export_within, syntax_within}

-- a refusal is within its text
pub delayed_within : (text : List ℕ) (options : LibraryOptionsView) (why : DelayRefusal) → IsRefusalOfDelayedMembers text options why → IsDelayedWithin text why
delayed_within text options (RefusedBefore (refusal.NotUtf8 position)) is = let short = is.longest.short in omega (arith, short)
delayed_within text options (RefusedBefore (refusal.Syntax fault position)) is = syntax_within (definition_text text) (cause_of fault) position is.refused
delayed_within text options (RefusedBefore (refusal.Members fault position)) is = grind (arith, export_within)
delayed_within text options (RefusedBefore _) is = tt
delayed_within text options (CannotDelay (undelayed.Data position)) is =
    export_within (definition_text text) (Some is.placed.0) position is.placed.1.1
delayed_within text options (CannotDelay (undelayed.Alias position)) is =
    export_within (definition_text text) (Some is.placed.0) position is.placed.1.1
delayed_within text options (CannotDelay undelayed.Machine) is = tt

-- why bytes have no members is why they have no library
pub of_bytes : (text : List ℕ) (options : LibraryOptionsView) (why : DelayRefusal) → IsRefusalOfDelayedMembers text options why → IsRefusalOfDelayed text options why
of_bytes text options (RefusedBefore (refusal.Archive fault)) is = absurd is
of_bytes text options why is = is
