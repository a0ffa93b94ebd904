-- What reading gives: a value, or the first fault.
use Rattle.std.specs.Prelude.{◌≡◌, ℕ, zero, suc, ◌+◌, List, [], ◌∷◌, Result, Ok, Err}
use Rattle.implib_dll.specs.declared.fault.Cause.{Cause}
use Rattle.implib_dll.specs.declared.fault.Fault.{Fault}
use Rattle.implib_dll.specs.declared.fault.ReadError.{ReadError}
use Rattle.implib_dll.specs.declared.fault.ReadError.TheVariants.{Refused, OutOfMemory}

-- a value, or the first fault
abbrev pub Read : Type 0 → Type 0
Read X = Result X Fault

-- a refusal for this cause, at this offset of the file
abbrev pub refusal : {X : Type 0} → Cause → ℕ → Read X
refusal cause offset = Err (record { cause = cause; offset = offset })

-- one step, and then a next one with what it gave; the first fault stops
infixl 10 ◌>>=◌
abbrev pub ◌>>=◌ : {X Y : Type 0} → Read X → (X → Read Y) → Read Y
(Ok x) >>= next = next x
(Err fault) >>= next = Err fault

-- What `step` gives at an index and at each of the `count` indexes from there on. A step has from
-- the one before a state, and leaves one to the next.
unfoldable pub each_from : {X S : Type 0} → (ℕ → S → Read (X × S)) → ℕ → ℕ → S → Read (List X × S)
each_from step index zero state = Ok ([], state)
each_from step index (suc count) state = do
  found ← step index state
  others ← each_from step (index + 1) count found.1
  Ok (found.0 ∷ others.0, others.1)

-- an error is the fault that a reading finds, unless memory ran out
abbrev pub Fails : {Y : Type 0} → ReadError → Read Y → Type 0
Fails (Refused fault) read = read ≡ Err fault
Fails OutOfMemory read = Unit {0}

-- What a call returns, seen by `view`, is what a reading gives: the same value, the same first
-- fault, or memory refused.
abbrev pub Gives : {X Y : Type 0} → (X → Y) → Result X ReadError → Read Y → Type 0
Gives view (Ok x) read = read ≡ Ok (view x)
Gives view (Err error) read = Fails error read
