-- The answers of a call for ARM64EC.
use Rattle.std.proofs.Common.{ℕ, List, [], Option, None, Some, arith, inl, inr, subst, sym}
use Rattle.std.specs.Prelude.{unwrap_or}
use Rattle.implib_arm64ec.specs.declared.library.ImportsFault.{ImportsFault}
use Rattle.implib_arm64ec.specs.declared.library.ImportsFault.TheVariants as imports
use Rattle.implib_libraries.specs.declared.arm64ec.Arm64ecRefusal.{Arm64ecRefusal}
use Rattle.implib_libraries.specs.declared.arm64ec.Arm64ecRefusal.TheVariants as refused
use Rattle.implib_libraries.specs.declared.arm64ec.Unimported.{Unimported}
use Rattle.implib_libraries.specs.Arm64ec.{IsRefusalOfDefinition, IsRefusalOfTexts, IsUnimported, named}
use Rattle.implib_rules.specs.declared.library.Refusal.{Refusal}
use Rattle.implib_rules.specs.declared.library.Refusal.TheVariants as refusal
use Rattle.implib_rules.specs.Library.{definition_text}
use Rattle.implib_rules.specs.Options.{LibraryOptionsView}
use Rattle.implib.specs.Fault.{cause_of}
use Rattle.implib_c_calls.specs.Arm64ec.{AreTextsWithin, IsFaultWithin, IsNativeWithin, IsUnimportedWithin}
use Rattle.implib_c_calls.specs.LibraryWith.{IsWithin}
use Rattle.implib_c_calls.proofs.Within.{export_within, refusal_within, syntax_within}

-- a refusal of a definition is within its text
definition_within : (text : List ℕ) (options : LibraryOptionsView) (why : Refusal) → IsRefusalOfDefinition text options why → IsWithin text why
definition_within text options (refusal.NotUtf8 position) is = let short = is.longest.short in omega (arith, short)
definition_within text options (refusal.Syntax fault position) is = syntax_within (definition_text text) (cause_of fault) position is.refused
definition_within text options (refusal.Members fault position) is = absurd is
definition_within text options _ is = tt

-- a fault of short imports is within its text
fault_within : (text : List ℕ) (fault : ImportsFault) (why : Unimported) → IsUnimported (definition_text text) fault why → IsUnimportedWithin text why
fault_within text imports.NulInDllName why told = subst (IsFaultWithin text why.position.offset) (sym told) tt
fault_within text (imports.NulInExport index) why told = subst (IsFaultWithin text why.position.offset) (sym told.0) (export_within (definition_text text) (Some index) why.position told.1)
fault_within text (imports.Unreadable index byte) why told = subst (IsFaultWithin text why.position.offset) (sym told.0) (export_within (definition_text text) (Some index) why.position told.1)
fault_within text (imports.MemberTooLong index) why told = subst (IsFaultWithin text why.position.offset) (sym told.0) (export_within (definition_text text) (Some index) why.position told.1)

unimported_within : (text : List ℕ) (native : Option (List ℕ)) (options : LibraryOptionsView) (why : Unimported) → IsRefusalOfTexts text native options (refused.OfImports why) → IsUnimportedWithin text why
unimported_within text native options why is = fault_within text is.refused.fault why is.refused.told

-- a refusal of the native text, or of none, is within it
given_within : (native : Option (List ℕ)) (why : Refusal) → IsWithin (unwrap_or native []) why → IsNativeWithin native why
given_within None why is = is
given_within (Some text) why is = is

native_within : (text : List ℕ) (native : Option (List ℕ)) (options : LibraryOptionsView) (why : Refusal) → IsRefusalOfTexts text native options (refused.OfNative why) → IsNativeWithin native why
native_within text native options why (inl name) = subst (λ n. IsNativeWithin n why) (sym name.given) (definition_within name.bytes options why name.refused)
native_within text native options why (inr texts) = given_within native why (refusal_within (unwrap_or native []) _ why texts.refused.refused)

pub texts_within : (text : List ℕ) (native : Option (List ℕ)) (options : LibraryOptionsView) (why : Arm64ecRefusal) → IsRefusalOfTexts text native options why → AreTextsWithin text native why
texts_within text native options (refused.OfDefinition why) is = definition_within text (named options is.own) why is.refused
texts_within text native options (refused.OfImports why) is = unimported_within text native options why is
texts_within text native options (refused.OfNative why) is = native_within text native options why is
texts_within text native options refused.OutOfMemory is = tt
