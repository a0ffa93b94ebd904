-- What is asked of a DLL is found in it.
use Rattle.std.proofs.Common.{◌≡◌, ℕ, zero, suc, ◌+◌, ◌<◌, ◌≤◌, ◌==◌, ◌^◌, Bool, true, false, cond, List, [], ◌∷◌, Option, Some, None, length, map, refl, ap, ◌∙◌, sym, subst, arith}
use Rattle.std.specs.Prelude.{All, Contains, filter}
use Rattle.std.specs.List.{flat_map, slice_get}
use Rattle.std.specs.Option.{option_and_then, option_map}
use Rattle.std.proofs.lemmas.List.{map-append}
use Rattle.std.proofs.lemmas.List.Elements.{All-append, All-cons, All-nil, Contains-append_left, Contains-append_right}
use Rattle.std.proofs.lemmas.Bool.{eqb-true}
use Rattle.std.proofs.lemmas.Option.{slice_get_within}
use Rattle.implib.specs.Import.{Ask, Ordinal, Name}
use Rattle.implib_dll.proofs.Finding.{ordinals_lead, right_hint_finds}
use Rattle.implib_dll.specs.Exports.{Exports, NameEntry, Target}
use Rattle.implib_dll.specs.Lookup.{by_name, filled, ordinal_index, ordinal_of, position_of, target_at}
use Rattle.implib_dll.specs.Rows.{names_at, rows_from, rows_of}
use Rattle.implib_libraries.specs.FromDll.Definition.{named_from, named_of, numbered_of, numbered_to, unnamed}
use Rattle.implib_libraries.specs.FromDll.Laws.{AsksAreFound, ExportsAreAsked, IsFoundAtOnce, IsReached, NamesAreAsked, ask_of, asks_of}

-- a name is found at its position
at_position : (e : Exports) (position : ℕ) (n : NameEntry) → slice_get e.names position ≡ Some n → position_of e.names n.text position ≡ Some position
at_position e position n is = right_hint_finds e.names n.text position (ap (option_map (λ name. name.text)) is)

-- and leads to the target of its index
leads_at : (e : Exports) (position : ℕ) (n : NameEntry) → slice_get e.names position ≡ Some n → by_name e n.text position ≡ target_at e.targets n.index
leads_at e position n is = grind (arith, at_position, position, is)

-- the ask of a name
name_found : (e : Exports) (position : ℕ) (n : NameEntry) (o : Option Target) → slice_get e.names position ≡ Some n → target_at e.targets n.index ≡ o
    → All (IsFoundAtOnce e) (map ask_of (named_of n.text position o))
name_found e position n None is leads = All-nil (IsFoundAtOnce e)
name_found e position n (Some target) is leads = grind (arith, All-cons, position, leads_at, is, All-nil)

-- the asks of names, from a position on
names_found : (e : Exports) (names : List NameEntry) (position : ℕ) → ((k : ℕ) (n : NameEntry) → slice_get names k ≡ Some n → slice_get e.names (position + k) ≡ Some n)
    → All (IsFoundAtOnce e) (map ask_of (named_from e.targets names position))
unfolding named_from
names_found e [] position each = All-nil (IsFoundAtOnce e)
names_found e (n ∷ names) position each =
    let here = named_of n.text position (target_at e.targets n.index) in
    let rest = named_from e.targets names (position + 1) in
    let first : slice_get e.names position ≡ Some n = subst (λ p. slice_get e.names p ≡ Some n) (omega arith) (each 0 n refl) in
    let later = names_found e names (position + 1) (λ k m is. subst (λ p. slice_get e.names p ≡ Some m) (omega arith) (each (suc k) m is)) in
    subst (All (IsFoundAtOnce e)) (sym (map-append ask_of here rest))
    (All-append (IsFoundAtOnce e) (map ask_of here) (map ask_of rest) (name_found e position n (target_at e.targets n.index) first refl) later)

-- the ask of an ordinal
number_found : (e : Exports) (index : ℕ) (o : Option Target) (names : List (List ℕ)) (target : Target) → e.base < 2 ^ 32 → index < 2 ^ 32
    → target_at e.targets index ≡ filled target → All (IsFoundAtOnce e) (map ask_of (numbered_to (ordinal_of e.base index) (unnamed names target)))
number_found e index o (name ∷ names) target base low is = All-nil (IsFoundAtOnce e)
number_found e index o [] target base low is = grind (arith, All-cons, ordinals_lead, low, All-nil)

-- the asks of ordinals, from an index on
numbers_found : (e : Exports) (targets : List Target) (index : ℕ) → e.base < 2 ^ 32 → index + length targets ≤ 2 ^ 32
    → ((k : ℕ) (t : Target) → slice_get targets k ≡ Some t → target_at e.targets (index + k) ≡ filled t)
    → All (IsFoundAtOnce e) (map ask_of (flat_map numbered_of (rows_from e.base e.names targets index)))
numbers_found e [] index base low each = All-nil (IsFoundAtOnce e)
numbers_found e (t ∷ targets) index base low each =
    let here = numbered_to (ordinal_of e.base index) (unnamed (names_at e.names index) t) in
    let rest = flat_map numbered_of (rows_from e.base e.names targets (index + 1)) in
    let first : target_at e.targets index ≡ filled t = subst (λ p. target_at e.targets p ≡ filled t) (omega arith) (each 0 t refl) in
    let later = numbers_found e targets (index + 1) base (omega (arith, low)) (λ k u is. subst (λ p. target_at e.targets p ≡ filled u) (omega arith) (each (suc k) u is)) in
    subst (All (IsFoundAtOnce e)) (sym (map-append ask_of here rest))
    (All-append (IsFoundAtOnce e) (map ask_of here) (map ask_of rest) (number_found e index None (names_at e.names index) t base (omega (arith, low)) first) later)

-- a number behind none
none_before : (k : ℕ) → k ≡ 0 + k
none_before k = omega arith

-- the target of an index of the table
target_of_index : (targets : List Target) (k : ℕ) (t : Target) → slice_get targets k ≡ Some t → target_at targets k ≡ filled t
target_of_index targets k t is = ap (option_and_then filled) is

pub asks_are_found : AsksAreFound
asks_are_found e fits =
    let first = named_from e.targets e.names 0 in
    let second = flat_map numbered_of (rows_of e) in
    subst (All (IsFoundAtOnce e)) (sym (map-append ask_of first second))
    (All-append (IsFoundAtOnce e) (map ask_of first) (map ask_of second)
    (names_found e e.names 0 (λ k n is. subst (λ p. slice_get e.names p ≡ Some n) (none_before k) is))
    (numbers_found e e.targets 0 fits.base (omega (arith, fits.targets)) (λ k t is. subst (λ p. target_at e.targets p ≡ filled t) (none_before k) (target_of_index e.targets k t is))))

-- ---- each export is asked for

-- an ask among the names is among all
among_names : (e : Exports) (ask : Ask) → Contains (map ask_of (named_from e.targets e.names 0)) ask → Contains (asks_of e) ask
among_names e ask among =
    let first = named_from e.targets e.names 0 in
    let second = flat_map numbered_of (rows_of e) in
    subst (λ asks. Contains asks ask) (sym (map-append ask_of first second)) (Contains-append_left (map ask_of first) (map ask_of second) ask among)

among_numbers : (e : Exports) (ask : Ask) → Contains (map ask_of (flat_map numbered_of (rows_of e))) ask → Contains (asks_of e) ask
among_numbers e ask among =
    let first = named_from e.targets e.names 0 in
    let second = flat_map numbered_of (rows_of e) in
    subst (λ asks. Contains asks ask) (sym (map-append ask_of first second)) (Contains-append_right (map ask_of first) (map ask_of second) ask among)

-- a list has its first element
first_of : {X : Type 0} (x : X) (xs : List X) → Contains (x ∷ xs) x
first_of x xs = (0, omega arith, refl)

-- a name that leads to a target is among those from a position on
name_among : (targets : List Target) (names : List NameEntry) (position k : ℕ) (n : NameEntry) (target : Target)
    → slice_get names k ≡ Some n → target_at targets n.index ≡ Some target
    → Contains (map ask_of (named_from targets names position)) (Name n.text (position + k))
unfolding named_from
name_among targets [] position k n target is leads = absurd cc
name_among targets (m ∷ names) position zero n target is leads = grind (arith, position, map-append, Contains-append_left, first_of)
name_among targets (m ∷ names) position (suc k) n target is leads =
    let here = named_of m.text position (target_at targets m.index) in
    let rest = named_from targets names (position + 1) in
    let later = name_among targets names (position + 1) k n target is leads in
    subst (λ asks. Contains asks (Name n.text (position + suc k))) (sym (map-append ask_of here rest))
    (Contains-append_right (map ask_of here) (map ask_of rest) (Name n.text (position + suc k))
    (subst (λ p. Contains (map ask_of rest) (Name n.text p)) (omega arith) later))

pub names_are_asked : NamesAreAsked
names_are_asked e position name target is leads = record {
  asked = among_names e (Name name.text position) (subst (λ p. Contains (map ask_of (named_from e.targets e.names 0)) (Name name.text p)) (sym (none_before position)) (name_among e.targets e.names 0 position name target is leads));
  leads = leads_at e position name is;
}

-- a name that leads to an index, where there is one
pub record Named (names : List NameEntry) (index : ℕ) : Type 0 where
  pub position : ℕ
  pub name : NameEntry
  pub at : slice_get names position ≡ Some name
  pub is : name.index ≡ index

named_later : (m : NameEntry) (names : List NameEntry) (index : ℕ) → Named names index → Named (m ∷ names) index
named_later m names index n = record { position = suc n.position; name = n.name; at = n.at; is = n.is }

-- an index that has names has a name of the table
named_at : (names : List NameEntry) (index : ℕ) (text : List ℕ) (texts : List (List ℕ)) → names_at names index ≡ text ∷ texts → Named names index
named_at [] index text texts is = absurd cc
named_at (m ∷ names) index text texts is = by_index (named_at names index text texts) (m.index == index) refl is
  where
    by_index : (names_at names index ≡ text ∷ texts → Named names index) → (b : Bool) → (m.index == index) ≡ b
        → map (λ name. name.text) (cond b (m ∷ filter (λ name. name.index == index) names) (filter (λ name. name.index == index) names)) ≡ text ∷ texts → Named (m ∷ names) index
    by_index later true same some = record { position = 0; name = m; at = refl; is = eqb-true m.index index same }
    by_index later false other some = named_later m names index (later some)

-- a target without a name is among those from an index on
number_among : (base : ℕ) (names : List NameEntry) (targets : List Target) (index k : ℕ) (t target : Target)
    → slice_get targets k ≡ Some t → filled t ≡ Some target → names_at names (index + k) ≡ []
    → Contains (map ask_of (flat_map numbered_of (rows_from base names targets index))) (Ordinal (ordinal_of base (index + k)))
number_among base names [] index k t target is leads none = absurd cc
number_among base names (u ∷ targets) index zero t target is leads bare = grind (arith, t, map-append, Contains-append_left, first_of)
number_among base names (u ∷ targets) index (suc k) t target is leads bare =
    let here = numbered_to (ordinal_of base index) (unnamed (names_at names index) u) in
    let rest = flat_map numbered_of (rows_from base names targets (index + 1)) in
    let later = number_among base names targets (index + 1) k t target is leads (subst (λ p. names_at names p ≡ []) (omega arith) bare) in
    let ask = Ordinal (ordinal_of base (index + suc k)) in
    subst (λ asks. Contains asks ask) (sym (map-append ask_of here rest))
    (Contains-append_right (map ask_of here) (map ask_of rest) ask
    (subst (λ p. Contains (map ask_of rest) (Ordinal (ordinal_of base p))) (omega arith) later))

-- where a target is, its table has one
pub record At (targets : List Target) (index : ℕ) (target : Target) : Type 0 where
  pub t : Target
  pub at : slice_get targets index ≡ Some t
  pub is : filled t ≡ Some target

entry_at : (targets : List Target) (index : ℕ) (target : Target) → target_at targets index ≡ Some target → At targets index target
entry_at targets index target is = grind arith

-- the index of the ordinal of an index
index_of_ordinal : (base index : ℕ) → base < 2 ^ 32 → index < 2 ^ 32 → ordinal_index base (ordinal_of base index) ≡ index
index_of_ordinal base index small low = omega (arith, small, low)

pub exports_are_asked : ExportsAreAsked
exports_are_asked e index target fits is = by_names (names_at e.names index) refl
  where
    entry : At e.targets index target
    entry = entry_at e.targets index target is

    low : index < 2 ^ 32
    low = omega (arith, slice_get_within e.targets index entry.t entry.at, fits.targets)

    by_names : (texts : List (List ℕ)) → names_at e.names index ≡ texts → IsReached e index
    by_names [] bare = record {
      ask = Ordinal (ordinal_of e.base index);
      among = among_numbers e (Ordinal (ordinal_of e.base index)) (subst (λ p. Contains (map ask_of (flat_map numbered_of (rows_of e))) (Ordinal (ordinal_of e.base p))) (sym (none_before index))
          (number_among e.base e.names e.targets 0 index entry.t target entry.at entry.is (subst (λ p. names_at e.names p ≡ []) (none_before index) bare)));
      leads = ap Some (index_of_ordinal e.base index fits.base low);
    }
    by_names (text ∷ texts) some =
        let n = named_at e.names index text texts some in
        record {
          ask = Name n.name.text n.position;
          among = (names_are_asked e n.position n.name target n.at (ap (target_at e.targets) n.is ∙ is)).asked;
          leads = ap (option_and_then (λ position. option_map (λ m. m.index) (slice_get e.names position))) (at_position e n.position n.name n.at)
              ∙ (ap (option_map (λ m. m.index)) n.at ∙ ap Some n.is);
        }
