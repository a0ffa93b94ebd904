-- What a writer keeps, when something is added.
use Rattle.std.proofs.Common.{◌≡◌, ℕ, zero, suc, ◌+◌, ◌-◌, ◌<◌, ◌≤◌, List, [], ◌∷◌, ◌++◌, Option, None, Some, IsSomeAnd, length, map, slice_get, refl, sym, ◌∙◌, ap, arith, length-append, one-add, get_or, set, Vec, Global}
use Rattle.std.specs.List.{AllByRecursion}
use Rattle.std.proofs.lemmas.List.{append-nil}
use Rattle.std.proofs.lemmas.List.Concat.{flat_map-append}
use Rattle.implib.specs.declared.coff.object.Place.{Place}
use Rattle.implib.specs.declared.coff.object.Place.TheVariants.{Undefined, Section, Absolute, Debug}
use Rattle.implib.specs.declared.coff.object.Relocation.{Relocation}
use Rattle.implib.specs.Formats.Object.{Auxiliary, Entry, ObjectSection, section_numbered}
use Rattle.implib.specs.Formats.Layout.{FitsRelocation, FitsSection, auxiliary_count}
use Rattle.implib.specs.declared.coff.object.Section.{Section as Held}
use Rattle.implib.specs.Formats.Writer.{section_view}
use Rattle.implib.specs.Formats.Writer.{AddedSymbol, HasRoomFor, WriterState, IsPlaceAmong, IsSymbol, IsSymbolIndex, entries_added, sections_with_relocation, with_relocation, with_section, with_symbol}
use Rattle.implib.specs.Views.Writer.{IsSound, IsSoundSection, IsSoundSymbol}

all_push : {X : Type 0} (P : X → Type 0) (xs : List X) (x : X) → AllByRecursion P xs → P x → AllByRecursion P (xs ++ x ∷ [])
all_push P [] x all here = (here, tt)
all_push P (y ∷ xs) x all here = (all.0, all_push P xs x all.1 here)

all_weaker : {X : Type 0} (P Q : X → Type 0) → ((x : X) → P x → Q x) → (xs : List X) → AllByRecursion P xs → AllByRecursion Q xs
all_weaker P Q follows [] all = tt
all_weaker P Q follows (x ∷ xs) all = (follows x all.0, all_weaker P Q follows xs all.1)

-- a section more

place_more : (count : ℕ) (place : Place) → IsPlaceAmong count place → IsPlaceAmong (count + 1) place
place_more count Undefined among = tt
place_more count (Section number) among = (among.0, omega (arith, among.1))
place_more count Absolute among = tt
place_more count Debug among = tt

symbol_more : (count : ℕ) (s : AddedSymbol) → IsSoundSymbol count s → IsSoundSymbol (count + 1) s
symbol_more count s sound = record { named = sound.named; no_nul = sound.no_nul; value = sound.value; place = place_more count s.place sound.place; aux = sound.aux }

pub sound_section : (h : WriterState) (n : ℕ) (s : ObjectSection) → IsSound h n → length h.sections < 32767 → FitsSection s → s.relocations ≡ [] → IsSound (with_section h s) n
sound_section h n s sound room fits none = grind (arith, length-append, all_push, all_weaker, symbol_more)

-- the entries of a symbol

pub auxiliary_count-le : (aux : Option (List ℕ)) → auxiliary_count aux ≤ 1
unfolding auxiliary_count
auxiliary_count-le None = omega arith
auxiliary_count-le (Some aux) = omega arith

auxiliary_entries : (aux : Option (List ℕ)) → 1 + length {A = Entry} (elim aux [ None ↦ [] | Some x ↦ Auxiliary x ∷ [] ]) ≡ 1 + auxiliary_count aux
unfolding auxiliary_count
auxiliary_entries None = refl
auxiliary_entries (Some aux) = refl

pub length-entries_added : (s : AddedSymbol) → length (entries_added s) ≡ 1 + auxiliary_count s.aux
length-entries_added s = sym (one-add _) ∙ auxiliary_entries s.aux

-- a symbol more

index_more : (entries more : List Entry) (index : ℕ) → IsSomeAnd (slice_get entries index) IsSymbol → IsSomeAnd (slice_get (entries ++ more) index) IsSymbol
index_more [] more index here = absurd here
index_more (x ∷ entries) more zero here = here
index_more (x ∷ entries) more (suc index) here = index_more entries more index here

section_more : (symbols : List AddedSymbol) (t : AddedSymbol) (s : ObjectSection) → IsSoundSection symbols s → IsSoundSection (symbols ++ t ∷ []) s
section_more symbols t s sound = grind (arith, all_weaker, flat_map-append, index_more)

pub sound_symbol : (h : WriterState) (n m : ℕ) (s : AddedSymbol) → IsSound h n → IsSoundSymbol (length h.sections) s → m ≡ n + length (entries_added s) → IsSound (with_symbol h s) m
sound_symbol h n m s sound here count = record {
  few = sound.few;
  records = grind (arith, flat_map-append, append-nil, length-append);
  sections = all_weaker (IsSoundSection h.symbols) (IsSoundSection (h.symbols ++ s ∷ [])) (section_more h.symbols s) h.sections sound.sections;
  symbols = all_push (IsSoundSymbol (length h.sections)) h.symbols s sound.symbols here;
}

-- a relocation more

length-sections_with_relocation : (ss : List ObjectSection) (number : ℕ) (r : Relocation) → length (sections_with_relocation ss number r) ≡ length ss
length-sections_with_relocation [] number r = refl
length-sections_with_relocation (s ∷ ss) zero r = refl
length-sections_with_relocation (s ∷ ss) (suc zero) r = refl
length-sections_with_relocation (s ∷ ss) (suc (suc number)) r = ap suc (length-sections_with_relocation ss (suc number) r)

relocated_sound : (symbols : List AddedSymbol) (ss : List ObjectSection) (number : ℕ) (r : Relocation) → AllByRecursion (IsSoundSection symbols) ss → IsSomeAnd (section_numbered ss number) (HasRoomFor r) → IsSymbolIndex symbols r.symbol → FitsRelocation r → AllByRecursion (IsSoundSection symbols) (sections_with_relocation ss number r)
relocated_sound symbols [] number r all there index fits = tt
relocated_sound symbols (s ∷ ss) zero r all there index fits = all
relocated_sound symbols (s ∷ ss) (suc zero) r all there index fits = grind (arith, length-append, all_push)
relocated_sound symbols (s ∷ ss) (suc (suc number)) r all there index fits = (all.0, relocated_sound symbols ss (suc number) r all.1 there index fits)

pub sound_relocation : (h : WriterState) (n number : ℕ) (r : Relocation) → IsSound h n → IsSomeAnd (section_numbered h.sections number) (HasRoomFor r) → IsSymbolIndex h.symbols r.symbol → FitsRelocation r → IsSound (with_relocation h number r) n
sound_relocation h n number r sound there index fits = grind (arith, length-sections_with_relocation, relocated_sound)

-- a section of the writer's list, with other relocations

pub shown_with : (s : Held) (rs : Vec Relocation Global) (xs : List Relocation) → rs.items ≡ xs → section_view (record s { relocations = rs }) ≡ record (section_view s) { relocations = xs }
shown_with s rs xs e = rw e refl

pub sections-same : (ss : List Held) (i : ℕ) (s x : Held) → s ≡ get_or ss i s → section_view x ≡ section_view s → map section_view (set ss i x) ≡ map section_view ss
sections-same [] i s x here e = refl
sections-same (y ∷ ss) zero s x here e = ap (λ t. t ∷ map section_view ss) (e ∙ ap section_view here)
sections-same (y ∷ ss) (suc i) s x here e = ap (λ t. section_view y ∷ t) (sections-same ss i s x here e)

sections_with_relocation-set : (ss : List Held) (i : ℕ) (r : Relocation) (s x : Held) → s ≡ get_or ss i s
    → section_view x ≡ record (section_view s) { relocations = (section_view s).relocations ++ r ∷ [] }
    → map section_view (set ss i x) ≡ sections_with_relocation (map section_view ss) (suc i) r
sections_with_relocation-set [] i r s x here e = refl
sections_with_relocation-set (y ∷ ss) zero r s x here e = grind arith
sections_with_relocation-set (y ∷ ss) (suc i) r s x here e = ap (λ t. section_view y ∷ t) (sections_with_relocation-set ss i r s x here e)

number_after : (ss : List ObjectSection) (number : ℕ) (P : ObjectSection → Type 0) → IsSomeAnd (section_numbered ss number) P → suc (number - 1) ≡ number
number_after ss zero P there = absurd there
number_after ss (suc n) P there = omega arith

pub sections_with_relocation-numbered : (ss : List Held) (number : ℕ) (r : Relocation) (s x : Held) (P : ObjectSection → Type 0) → IsSomeAnd (section_numbered (map section_view ss) number) P
    → s ≡ get_or ss (number - 1) s
    → section_view x ≡ record (section_view s) { relocations = (section_view s).relocations ++ r ∷ [] }
    → map section_view (set ss (number - 1) x) ≡ sections_with_relocation (map section_view ss) number r
sections_with_relocation-numbered ss number r s x P there here e = grind (arith, sections_with_relocation-set, number_after)
