-- What a fault says: its texts as bytes.
use Rattle.std.specs.Prelude.{ℕ, List, Option, Some, None, Result, IfErr}
use Rattle.std.specs.String.{string_bytes}
use Rattle.implib.specs.declared.error.Error.{Error}
use Rattle.implib.specs.declared.error.Error.TheVariants.{Invalid, OutOfMemory}
use Rattle.implib.specs.declared.error.Fault.{Fault}
use Rattle.implib.specs.declared.error.Fault.TheVariants as fault
use Rattle.implib.specs.declared.def.lexer.TokenKind.{TokenKind}

-- the faults, with what each of them reports
pub data Cause : Type 0 where
  UnknownDirective : List ℕ → Cause
  ExpectedIdentifier : TokenKind → Cause
  ExpectedEqual : TokenKind → Cause
  ExpectedInteger : Cause
  InvalidOrdinal : List ℕ → Cause
  LoneAt : Cause
  EmptyImportName : Cause
  NulInImportName : Cause
  EmptyLibraryName : Cause
  NulInLibraryName : Cause
  LineEndInLibraryName : Cause
  EmptyName : ℕ → Cause
  NulInExport : ℕ → Cause
  EmptyAskedName : ℕ → Cause
  NoNameType : ℕ → Cause
  MemberTooLong : Cause

-- what a fault of the program says
abbrev pub cause_of : Fault → Cause
cause_of (fault.UnknownDirective value) = UnknownDirective (string_bytes value)
cause_of (fault.ExpectedIdentifier kind) = ExpectedIdentifier kind
cause_of (fault.ExpectedEqual kind) = ExpectedEqual kind
cause_of fault.ExpectedInteger = ExpectedInteger
cause_of (fault.InvalidOrdinal value) = InvalidOrdinal (string_bytes value)
cause_of fault.LoneAt = LoneAt
cause_of fault.EmptyImportName = EmptyImportName
cause_of fault.NulInImportName = NulInImportName
cause_of fault.EmptyLibraryName = EmptyLibraryName
cause_of fault.NulInLibraryName = NulInLibraryName
cause_of fault.LineEndInLibraryName = LineEndInLibraryName
cause_of (fault.EmptyName index) = EmptyName index
cause_of (fault.NulInExport index) = NulInExport index
cause_of (fault.EmptyAskedName index) = EmptyAskedName index
cause_of (fault.NoNameType index) = NoNameType index
cause_of fault.MemberTooLong = MemberTooLong

-- the index of the export in a cause, if it has one
abbrev pub export_index : Cause → Option ℕ
export_index (EmptyName index) = Some index
export_index (NulInExport index) = Some index
export_index (EmptyAskedName index) = Some index
export_index (NoNameType index) = Some index
export_index _ = None

-- where the error is a fault of the input, this holds of its cause
abbrev pub OfCause : (Cause → Type 0) → Error → Type 0
OfCause P (Invalid fault) = P (cause_of fault)
OfCause P (OutOfMemory refused) = Unit {0}

-- where the answer is a fault of the input, this holds of its cause
abbrev pub IfInvalid : {T : Type 0} → Result T Error → (Cause → Type 0) → Type 0
IfInvalid result P = IfErr result (OfCause P)

-- what is wrong with the input, where the error says that something is
abbrev pub error_cause : Error → Option Cause
error_cause (Invalid fault) = Some (cause_of fault)
error_cause (OutOfMemory refused) = None
