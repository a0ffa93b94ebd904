-- Records one after the other: relocations.
use Rattle.std.proofs.Common.{◌≡◌, ℕ, zero, suc, ◌+◌, ◌-◌, ◌*◌, ◌<◌, ◌≤◌, Bool, true, false, List, ◌∷◌, Option, Some, None, length, take, drop, nat_le, if◌then◌else◌, ◌==◌, slice_get, refl, ap, arith, Bor}
use Rattle.std.specs.List.{find}
use Rattle.std.specs.Option.{option_and_then, option_map}
use Rattle.std.proofs.Math.Nat.{mul-div_cancel_left}
use Rattle.std.proofs.Math.Seq.{drop-drop}
use Rattle.std.proofs.lemmas.List.{drop-take}
use Rattle.std.proofs.lemmas.Bool.{le-leb, false_from_ne_true, leb-true}
use Rattle.std.proofs.lemmas.Grind.{common_steps}
use Rattle.implib.specs.declared.coff.object.Relocation.{Relocation}
use Rattle.implib.specs.Formats.Object.{bytes_at, each_at, relocation_at, relocation_of, section_numbered}
use Rattle.implib_read.specs.Classes.{is_empty}
use Rattle.implib_read.specs.Objects.{records_in, relocations_of}

pub bytes_at-some : (bytes : List ℕ) (offset count : ℕ) → offset + count ≤ length bytes → bytes_at bytes offset count ≡ Some (take count (drop offset bytes))
unfolding bytes_at
bytes_at-some bytes offset count within = ap (λ b. if b then Some (take count (drop offset bytes)) else None) (le-leb (offset + count) (length bytes) within)

pub bytes_at-none : (bytes : List ℕ) (offset count : ℕ) → length bytes < offset + count → bytes_at bytes offset count ≡ None
unfolding bytes_at
bytes_at-none bytes offset count beyond = grind (arith, false_from_ne_true, leb-true)

-- what a record of 10 bytes and the later ones make
joined : Option (List Relocation) → Option Relocation → Option (List Relocation)
joined later = option_and_then (λ r. option_map (λ rs. r ∷ rs) later)

joined-none : (found : Option Relocation) → joined None found ≡ None
unfolding joined
joined-none found = grind arith

each_relocation : (bytes : List ℕ) (offset n : ℕ) → offset + 10 * n ≤ length bytes
    → each_at (relocation_at bytes) offset 10 n ≡ Some (records_in relocation_of 10 n (drop offset bytes))
unfolding each_at records_in relocation_at joined
each_relocation bytes offset zero within = refl
each_relocation bytes offset (suc n) within = cc (bytes_at-some bytes offset 10 (omega (arith, within)), each_relocation bytes (offset + 10) n (omega (arith, within)), drop-drop 10 offset bytes)

no_relocations : (bytes : List ℕ) (offset n : ℕ) → length bytes < offset + 10 * suc n → each_at (relocation_at bytes) offset 10 (suc n) ≡ None
unfolding each_at relocation_at joined
no_relocations bytes offset zero beyond = grind (arith, bytes_at-none)
no_relocations bytes offset (suc n) beyond = grind (arith, joined-none, no_relocations bytes (offset + 10) n (omega (arith, beyond)))

pub records_in-take : {X : Type 0} (read : List ℕ → X) (width n more : ℕ) (bytes : List ℕ) → n * width ≤ more
    → records_in read width n (take more bytes) ≡ records_in read width n bytes
unfolding records_in
records_in-take read width zero more bytes enough = refl
records_in-take read width (suc n) more bytes enough = grind (arith, common_steps, records_in-take read width n (more - width) (drop width bytes) (grind (arith, enough)), drop-take width (more - width) bytes)

relocations_whole : (bytes : List ℕ) (offset n : ℕ) → offset + 10 * n ≤ length bytes
    → relocations_of (take (10 * n) (drop offset bytes)) ≡ records_in relocation_of 10 n (drop offset bytes)
relocations_whole bytes offset n within = grind (arith, common_steps, mul-div_cancel_left, records_in-take)

relocations_at-found : (bytes : List ℕ) (offset n : ℕ) (fits : Bool) → nat_le (offset + 10 * suc n) (length bytes) ≡ fits
    → option_map relocations_of (bytes_at bytes offset (10 * suc n)) ≡ each_at (relocation_at bytes) offset 10 (suc n)
relocations_at-found bytes offset n fits h4 = grind (arith, leb-true, bytes_at-some, relocations_whole, each_relocation, bytes_at-none, no_relocations)

pub relocations_at-is : (bytes : List ℕ) (offset n : ℕ) → 0 < n
    → option_map relocations_of (bytes_at bytes offset (10 * n)) ≡ each_at (relocation_at bytes) offset 10 n
relocations_at-is bytes offset zero some = absurd (omega (arith, some))
relocations_at-is bytes offset (suc n) some = relocations_at-found bytes offset n (nat_le (offset + 10 * suc n) (length bytes)) refl

-- a function of what a borrowed slice has, in one step or in two
pub seen : {X : Type 0} (f : List ℕ → X) (found : Option (Bor (List ℕ))) → option_map (λ b. f b.now) found ≡ option_map f (option_map (λ b. b.now) found)
seen f found = grind arith

relocations_of-cons : (bytes : List ℕ) → 10 ≤ length bytes → relocations_of bytes ≡ relocation_of (take 10 bytes) ∷ relocations_of (drop 10 bytes)
unfolding records_in
relocations_of-cons bytes long = grind (arith, common_steps)

-- whether a relocation is of the field at an offset
abbrev is_at : ℕ → Relocation → Bool
is_at offset r = r.offset == offset

pub relocation-first : (offset : ℕ) (bytes : List ℕ) (r : Relocation) → 10 ≤ length bytes → r ≡ relocation_of (take 10 bytes) → (r.offset == offset) ≡ true
    → find (λ r. r.offset == offset) (relocations_of bytes) ≡ Some r
relocation-first offset bytes r long is here = grind (arith, relocations_of-cons)

pub relocation-later : (offset : ℕ) (bytes : List ℕ) (r : Relocation) → 10 ≤ length bytes → r ≡ relocation_of (take 10 bytes) → (r.offset == offset) ≡ false
    → find (λ r. r.offset == offset) (relocations_of bytes) ≡ find (λ r. r.offset == offset) (relocations_of (drop 10 bytes))
relocation-later offset bytes r long is here = grind (arith, relocations_of-cons)

pub relocation-none : (offset : ℕ) (bytes : List ℕ) → length bytes < 10 → find (λ r. r.offset == offset) (relocations_of bytes) ≡ None
unfolding records_in
relocation-none offset bytes short = grind arith

pub section_numbered-at : {X : Type 0} (items : List X) (number : ℕ) → 0 < number → section_numbered items number ≡ slice_get items (number - 1)
section_numbered-at items number some = grind arith

pub is_empty-short : (bytes : List ℕ) → length bytes < 10 → is_empty (relocations_of bytes) ≡ true
unfolding records_in
is_empty-short bytes short = grind arith

pub is_empty-long : (bytes : List ℕ) → 10 ≤ length bytes → is_empty (relocations_of bytes) ≡ false
is_empty-long bytes long = ap is_empty (relocations_of-cons bytes long)

pub ruleset no_relocation = (is_empty-short, is_empty-long)

pub record_at-some : (n i : ℕ) (bytes : List ℕ) → i < n → slice_get (records_in relocation_of 10 n bytes) i ≡ Some (relocation_of (take 10 (drop (10 * i) bytes)))
unfolding records_in
record_at-some zero i bytes within = absurd (omega (arith, within))
record_at-some (suc n) zero bytes within = refl
record_at-some (suc n) (suc i) bytes within = grind (arith, record_at-some n i (drop 10 bytes) (omega (arith, within)), drop-drop (10 * i) 10 bytes)

pub record_at-none : (n i : ℕ) (bytes : List ℕ) → n ≤ i → slice_get (records_in relocation_of 10 n bytes) i ≡ None
unfolding records_in
record_at-none zero i bytes beyond = refl
record_at-none (suc n) zero bytes beyond = absurd (omega (arith, beyond))
record_at-none (suc n) (suc i) bytes beyond = record_at-none n i (drop 10 bytes) (omega (arith, beyond))

pub ruleset record_at = (record_at-some, record_at-none)
