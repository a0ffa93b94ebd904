-- The refusals of a call for warnings, case by case.
use Rattle.std.proofs.Common.{ℕ, List}
use Rattle.implib.specs.Fault.{cause_of}
use Rattle.implib.proofs.Text.RefusedWithin.{refused_within}
use Rattle.implib_rules.specs.declared.library.Refusal.{Refusal}
use Rattle.implib_rules.specs.declared.library.Refusal.TheVariants as refusal
use Rattle.implib_rules.specs.Library.{definition_text}
use Rattle.implib_rules.specs.Options.{LibraryOptionsView}
use Rattle.implib_c_calls.specs.LibraryWith.{IsWithin}
use Rattle.implib_c_calls.specs.WarningsAnswer.{HasNoWarnings}
use Rattle.implib_c_calls.proofs.Within.{refusal_within}

-- a refusal of warnings is within its text
pub within_text : (text : List ℕ) (options : LibraryOptionsView) (why : Refusal) → HasNoWarnings text options why → IsWithin text why
within_text text options (refusal.NotUtf8 position) is = refusal_within text options (refusal.NotUtf8 position) is
within_text text options (refusal.Syntax fault position) is = refused_within (definition_text text) (cause_of fault) position.offset is.refused.0
within_text text options refusal.OutOfMemory is = tt
within_text text options why is = absurd is
