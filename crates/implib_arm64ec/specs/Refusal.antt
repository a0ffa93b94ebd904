-- What refused names report.
use Rattle.std.specs.Prelude.{ℕ, Result, IfErr}
use Rattle.implib_arm64ec.specs.declared.error.MarkError.{MarkError}
use Rattle.implib_arm64ec.specs.declared.error.MarkError.TheVariants.{Unreadable, OutOfMemory}

-- where the answer is a name without a reading, this holds of the place
abbrev pub OfUnreadable : (ℕ → Type 0) → MarkError → Type 0
OfUnreadable P (Unreadable place) = P place
OfUnreadable P (OutOfMemory refused) = Unit {0}

abbrev pub IfUnreadable : {T : Type 0} → Result T MarkError → (ℕ → Type 0) → Type 0
IfUnreadable result P = IfErr result (OfUnreadable P)
