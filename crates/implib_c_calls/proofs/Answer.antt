-- What calls leave, by what they give.
use Rattle.std.proofs.Common.{◌≡◌, ◌<◌, ◌^◌, ℕ, List, ◌++◌, Option, Some, Result, Ok, Err, length, refl, sym, ◌∙◌, subst, arith, ap, inl, inr}
use Rattle.implib.specs.Members.MemberSpec.{MemberView}
use Rattle.implib_archive.specs.declared.kind.Kind.{Kind}
use Rattle.implib_archive.specs.declared.error.Fault.{Fault}
use Rattle.implib_archive.specs.Refusal.{refusal_of}
use Rattle.implib_c_calls.specs.declared.outcome.Failure.{Failure}
use Rattle.implib_c_calls.specs.declared.outcome.Failure.TheVariants as failure
use Rattle.implib_c_calls.specs.Encoding.{ReadsBack}
use Rattle.implib_c_calls.specs.Given.{Encodes, EncodesSome, EndsSo, LacksArchive, Leaves, Puts, PutsEncoding, length_given, place_given, status_given}
use Rattle.implib_c_calls.specs.Status.{status_number}

module _ {Has : List ℕ → Type 0} {Lacks : Failure → Type 0} {old : List ℕ} where
  pub leaves : (new : List ℕ) (given : Result ℕ Failure) → EndsSo Has Lacks old new given → Leaves Has Lacks old new (length_given given) (place_given given) (status_number (status_given given))
  leaves new given ends = record { given = given; ends = ends; length_is = refl; place_is = refl; status_is = refl }

  -- there are no bytes
  pub leaves_lacking : (why : Failure) → Lacks why → Leaves Has Lacks old old (length_given (Err why)) (place_given (Err why)) (status_number (status_given (Err why)))
  leaves_lacking why lacks = leaves old (Err why) (refl, inr lacks)

  -- bytes are put into the buffer, or not
  pub leaves_put : (bytes : List ℕ) {Accepted : Type 0} {Refused : Failure → Type 0} → (Accepted → length bytes < 2 ^ 64 → Has bytes) → ((why : Failure) → Refused why → Lacks why)
      → (new : List ℕ) (given : Result ℕ Failure) → Puts bytes Accepted Refused old new given → Leaves Has Lacks old new (length_given given) (place_given given) (status_number (status_given given))
  leaves_put bytes has lacks new (Ok put) puts =
      leaves new (Ok put) (record { bytes = bytes; has = has puts.0 (omega (arith, puts.1, puts.3)); length_is = puts.1; room = puts.2; buffer_is = puts.4 })
  leaves_put bytes has lacks new (Err (failure.BufferTooSmall needed)) puts =
      leaves new (Err (failure.BufferTooSmall needed))
      (puts.4, inl (record { bytes = bytes; has = has puts.0 (omega (arith, puts.1, puts.3)); is = ap failure.BufferTooSmall puts.1; short = omega (arith, puts.1, puts.2) }))
  leaves_put bytes has lacks new (Err why) puts = leaves new (Err why) (puts.1, inr (lacks why puts.0))

-- what is encoded reads back
pub encodes : {X : Type 0} {encoded : X → List ℕ} {read : List ℕ → Option (X × List ℕ)} {Has Fits Kept : X → Type 0} {bytes : List ℕ}
    → ((what : X) (rest : List ℕ) → ReadsBack encoded read Fits what rest)
    → ((what : X) → Has what → Kept what) → EncodesSome encoded Fits Has bytes → length bytes < 2 ^ 64 → Encodes encoded read Kept bytes
encodes {read = read} back kept some short =
    let is = some.encoding.is in
    record {
      what = some.what;
      has = kept some.what some.has;
      is = is;
      buffer_reads = λ rest. ap (λ b. read (b ++ rest)) is ∙ back some.what rest some.encoding.fit (subst (λ b. length b < 2 ^ 64) is short);
    }

-- an encoding is put, where there is room
pub leaves_encoded : {X : Type 0} {encoded : X → List ℕ} {read : List ℕ → Option (X × List ℕ)} {Has Fits Kept : X → Type 0} {Lacks : Failure → Type 0} {old bytes items : List ℕ}
    → ((what : X) (rest : List ℕ) → ReadsBack encoded read Fits what rest)
    → ((what : X) → Has what → Kept what) → EncodesSome encoded Fits Has items → bytes ≡ items
    → (new : List ℕ) (given : Result ℕ Failure) → PutsEncoding bytes old new given
    → Leaves (Encodes encoded read Kept) Lacks old new (length_given given) (place_given given) (status_number (status_given given))
leaves_encoded {bytes = bytes} back kept some same =
    leaves_put bytes (λ accepted short. encodes back kept (subst (EncodesSome _ _ _) (sym same) some) short) (λ why none. absurd none)

-- members have no archive
pub lacks_archive : (kind : Kind) (members : List MemberView) (Lacks : Failure → Type 0) → Lacks failure.OutOfMemory → ((fault : Fault) → refusal_of kind members ≡ Some fault → Lacks (failure.NoArchive fault))
    → (why : Failure) → LacksArchive kind members why → Lacks why
lacks_archive kind members Lacks memory refused failure.OutOfMemory lacks = memory
lacks_archive kind members Lacks memory refused (failure.NoArchive fault) lacks = refused fault lacks
lacks_archive kind members Lacks memory refused why lacks = absurd lacks
