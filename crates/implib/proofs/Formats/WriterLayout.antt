-- The layout of a writer: it fits, and shows what was added.
use Rattle.std.proofs.Common.{◌≡◌, ℕ, ◌+◌, ◌<◌, ◌≤◌, ◌^◌, Bool, true, false, not, ◌||◌, cond, List, [], ◌∷◌, ◌++◌, length, map, flat_map, get_or, refl, arith, one-add}
use Rattle.std.specs.List.{AllByRecursion, fold, list_any, position_or_len}
use Rattle.std.proofs.lemmas.Bool.{cases_Bool, false≢true, ltb-false}
use Rattle.std.proofs.lemmas.Slice.Eq.{bytes_eq-Decides}
use Rattle.implib.specs.declared.coff.object.Place.{Place}
use Rattle.implib.specs.declared.coff.object.Place.TheVariants.{Undefined, Section, Absolute, Debug}
use Rattle.implib.specs.declared.machine.MachineType.{MachineType}
use Rattle.implib.specs.declared.machine.MachineType.TheVariants.{I386, ARMNT, AMD64, ARM64}
use Rattle.implib.specs.Machine.{machine_number}
use Rattle.implib.specs.Formats.Object.{ObjectSection}
use Rattle.implib.specs.Formats.Layout.{Fits, FitsName, FitsSection, FitsSymbol, HasNoNul, entries_of, name_text, object_of}
use Rattle.implib.specs.Formats.Writer.{AddedSymbol, WriterState, IsPlaceAmong, all_entries, long_names, name_location, written_object, layout_of, section_number, symbol_written, with_long_name}
use Rattle.implib.specs.Views.Writer.{IsSound, IsSoundSection, IsSoundSymbol}
use Rattle.implib.proofs.Formats.LongNames.{IsListed, long_names-listed, position-below, with_long_name-long, with_long_name-short, with_name-absent, with_name-present}

-- the numbers

machine_number-below : (m : MachineType) → machine_number m < 2 ^ 16
machine_number-below I386 = omega arith
machine_number-below ARMNT = omega arith
machine_number-below AMD64 = omega arith
machine_number-below ARM64 = omega arith

section_number-below : (count : ℕ) (place : Place) → count ≤ 32767 → IsPlaceAmong count place → section_number place < 2 ^ 16
section_number-below count Undefined few among = omega arith
section_number-below count (Section number) few among = omega (arith, few, among.1)
section_number-below count Absolute few among = omega arith
section_number-below count Debug few among = omega arith

-- the names

found_at_step : (b any : Bool) (p : List ℕ → Bool) (x : List ℕ) (xs : List (List ℕ)) (n : ℕ) → p x ≡ b → (b || any) ≡ true → (any ≡ true → p (get_or xs n []) ≡ true) → p (get_or (x ∷ xs) (cond (not b) (1 + n) 0) []) ≡ true
found_at_step true any p x xs n here there rest = here
found_at_step false any p x xs n here there rest = rw one-add (rest there)

-- the name that is found passes the test
position-found : (p : List ℕ → Bool) (names : List (List ℕ)) → list_any p names ≡ true → p (get_or names (position_or_len p names) []) ≡ true
position-found p [] there = absurd (false≢true there)
position-found p (x ∷ names) there = found_at_step (p x) (list_any p names) p x names (position_or_len p names) refl there (λ h. position-found p names h)

name_text-place : (names : List (List ℕ)) (s : AddedSymbol) → IsListed names s → name_text names (name_location names s.name) ≡ s.name
unfolding name_location name_text
name_text-place names s known = grind (arith, cases_Bool, bytes_eq-Decides, position-found)

name_location-fits : (names : List (List ℕ)) (s : AddedSymbol) → IsListed names s → 0 < length s.name → HasNoNul s.name → FitsName names (name_location names s.name)
unfolding name_location
name_location-fits names s known named none = grind (arith, cases_Bool, position-below, ltb-false)

-- the symbols

symbols_fit : (names : List (List ℕ)) (count : ℕ) (ss : List AddedSymbol) → count ≤ 32767 → AllByRecursion (IsListed names) ss → AllByRecursion (IsSoundSymbol count) ss → AllByRecursion (FitsSymbol names) (map (symbol_written names) ss)
unfolding symbol_written
symbols_fit names count [] few known sound = tt
symbols_fit names count (s ∷ ss) few known sound = grind (arith, symbols_fit names count ss few known.1 sound.1, name_location-fits, section_number-below)

entries_shown : (names : List (List ℕ)) (ss : List AddedSymbol) → AllByRecursion (IsListed names) ss → flat_map (entries_of names) (map (symbol_written names) ss) ≡ all_entries ss
unfolding symbol_written entries_of
entries_shown names [] known = refl
entries_shown names (s ∷ ss) known = rw (name_text-place names s known.0, entries_shown names ss known.1) refl

texts_push : (names : List (List ℕ)) (name : List ℕ) → AllByRecursion HasNoNul names → HasNoNul name → AllByRecursion HasNoNul (names ++ name ∷ [])
texts_push [] name all none = (none, tt)
texts_push (x ∷ names) name all none = (all.0, texts_push names name all.1 none)

with_long_name-texts : (names : List (List ℕ)) (name : List ℕ) → AllByRecursion HasNoNul names → HasNoNul name → AllByRecursion HasNoNul (with_long_name names name)
with_long_name-texts names name all none = grind (arith, cases_Bool, with_long_name-long, with_name-present, with_name-absent, texts_push, with_long_name-short)

texts_from : (count : ℕ) (names : List (List ℕ)) (ss : List AddedSymbol) → AllByRecursion HasNoNul names → AllByRecursion (IsSoundSymbol count) ss → AllByRecursion HasNoNul (fold with_long_name names (map (λ s. s.name) ss))
texts_from count names [] all sound = all
texts_from count names (s ∷ ss) all sound = texts_from count (with_long_name names s.name) ss (with_long_name-texts names s.name all sound.0.no_nul) sound.1

long_names-texts : (count : ℕ) (ss : List AddedSymbol) → AllByRecursion (IsSoundSymbol count) ss → AllByRecursion HasNoNul (long_names ss)
unfolding long_names
long_names-texts count ss sound = texts_from count [] ss tt sound

sections_fit : (symbols : List AddedSymbol) (ss : List ObjectSection) → AllByRecursion (IsSoundSection symbols) ss → AllByRecursion FitsSection ss
sections_fit symbols [] sound = tt
sections_fit symbols (s ∷ ss) sound = (sound.0.fits, sections_fit symbols ss sound.1)

-- the layout

pub layout_of-fits : (h : WriterState) (count : ℕ) → IsSound h count → Fits (layout_of h)
unfolding layout_of
layout_of-fits h count sound = grind (arith, machine_number-below, sections_fit, symbols_fit, long_names-listed, long_names-texts)

pub object_of-layout_of : (h : WriterState) → object_of (layout_of h) ≡ written_object h
unfolding object_of layout_of
object_of-layout_of h = rw (entries_shown (long_names h.symbols) h.symbols (long_names-listed h.symbols)) refl
