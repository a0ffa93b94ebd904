-- The length of an archive, and what holds of members that have one.
use Rattle.std.proofs.Common.{◌≡◌, ℕ, zero, suc, ◌+◌, ◌-◌, ◌*◌, ◌^◌, ◌<◌, ◌≤◌, Bool, true, false, List, [], ◌∷◌, ◌++◌, Option, Some, None, codes, decimal, flat_map, fold, get_or, if◌then◌else◌, is_some, length, min, nat_eq, nat_le, nat_lt, replicate, unwrap_or, refl, sym, ap, subst, ◌∙◌, length-append, arith}
use Rattle.std.specs.List.{All}
use Rattle.std.proofs.lemmas.Bool.{leb-false, lt-ltb, ltb-false, ltb-true, true≢false}
use Rattle.std.proofs.lemmas.Fmt.{length-decimal-le}
use Rattle.std.proofs.lemmas.List.{length-replicate}
use Rattle.implib.specs.Members.MemberSpec.{MemberView}
use Rattle.implib_archive.specs.Archive.{archive_of, end_from, entries_of, first_linker_size, first_place, front, front_of, front_size, is_long, linker_label, linkers, long_names, member_label, member_part, name_field, names_bytes, names_label, names_part, names_size, offset_of, places_from, places_of, second_linker_size, sorted_entries, strings_of, with_name}
use Rattle.implib_archive.specs.Parts.{Label, field, header_bytes, padded_part_bytes, part_bytes, part_size, signature}
use Rattle.implib_archive.specs.Pushed.{AreMeasured, FrontFits, IsMade}
use Rattle.implib_archive.specs.Refusal.{has_too_many, member_refusal, members_refusal, places_refusal, refusal_of}
use Rattle.implib_archive.specs.declared.kind.Kind.{Kind}
use Rattle.implib_archive.specs.declared.kind.Kind.TheVariants.{Coff, Gnu}
use Rattle.implib_archive.specs.declared.error.Fault.{Fault}
use Rattle.implib_archive.specs.declared.error.Fault.TheVariants.{MemberTooLong, TooManyMembers}
use Rattle.implib_archive.proofs.Named.{names_bytes-push}
use Rattle.implib_archive.proofs.Numbered.{Each, all_from_each, each_entry, each_sorted, each_weaker, sorted_as_many}
use Rattle.implib_archive.proofs.Placed.{first_too_far}
use Rattle.implib_archive.proofs.Sized.{length-first_linker, length-padding, length-second_linker, linkers-gnu, names_part-some}

-- Refusals.

-- a first header that is not refused is below 2^32
pub first_near : (first : ℕ) (members : List MemberView) → places_refusal first members ≡ None → first < 2 ^ 32
first_near first members accepted = grind (arith, nat_lt, first, first_too_far, ltb-false)

-- offsets that are the same as far as they are told apart are refused alike
pub same_refusal : (a b : ℕ) (members : List MemberView) → min a (2 ^ 32) ≡ min b (2 ^ 32) → places_refusal a members ≡ places_refusal b members
same_refusal a b members same = grind (arith, nat_lt, ltb-true, ltb-false, first_too_far)

-- the first cause, in turn
module _ (kind : Kind) (members : List MemberView) where
  pub refused_member : (f : Option Fault) → members_refusal kind members ≡ f → is_some f ≡ true → refusal_of kind members ≡ f
  unfolding refusal_of
  refused_member f is some = grind (arith, is_some)

  rest : members_refusal kind members ≡ None → refusal_of kind members ≡ (if has_too_many kind members then Some TooManyMembers else places_refusal (first_place kind members) members)
  unfolding refusal_of
  rest none = ap (λ f. if is_some f then f else (if has_too_many kind members then Some TooManyMembers else places_refusal (first_place kind members) members)) none

  pub refused_many : members_refusal kind members ≡ None → has_too_many kind members ≡ true → refusal_of kind members ≡ Some TooManyMembers
  refused_many none many = rest none ∙ ap (λ b. if b then Some TooManyMembers else places_refusal (first_place kind members) members) many

  pub refused_places : members_refusal kind members ≡ None → has_too_many kind members ≡ false → refusal_of kind members ≡ places_refusal (first_place kind members) members
  refused_places none few = rest none ∙ ap (λ b. if b then Some TooManyMembers else places_refusal (first_place kind members) members) few

  pub record Accepted : Type 0 where
    pub none : members_refusal kind members ≡ None
    pub few : has_too_many kind members ≡ false
    pub near : places_refusal (first_place kind members) members ≡ None

  pub accepted_parts : refusal_of kind members ≡ None → Accepted
  accepted_parts accepted = by_member (members_refusal kind members) refl
    where
      by_many : (b : Bool) → has_too_many kind members ≡ b → members_refusal kind members ≡ None → Accepted
      by_many true many none = let e : Some TooManyMembers ≡ None = sym (refused_many none many) ∙ accepted in absurd (cc)
      by_many false few none = record { none = none; few = few; near = sym (refused_places none few) ∙ accepted }

      by_member : (f : Option Fault) → members_refusal kind members ≡ f → Accepted
      by_member None none = by_many (has_too_many kind members) refl none
      by_member (Some f) is = let e : Some f ≡ None = sym (refused_member (Some f) is refl) ∙ accepted in absurd (cc)

-- Members that are not refused are below 2^32.

abbrev pub AreShort : List MemberView → Type 0
AreShort [] = Unit {0}
AreShort (m ∷ members) = (length m.bytes < 2 ^ 32) × AreShort members

short_by : (a b : Option Fault) (n : ℕ) → (if is_some a then a else (if is_some b then b else (if nat_lt n (2 ^ 32) then None else Some MemberTooLong))) ≡ None → n < 2 ^ 32
short_by (Some f) b n h = absurd (cc)
short_by None (Some f) n h = absurd (cc)
short_by None None n h = grind (arith, nat_lt)

both_none : (f g : Option Fault) → (if is_some f then f else g) ≡ None → (f ≡ None) × (g ≡ None)
both_none None g h = (refl, h)
both_none (Some f) g h = absurd (cc)

pub members_short : (kind : Kind) (members : List MemberView) → members_refusal kind members ≡ None → AreShort members
unfolding members_refusal member_refusal
members_short kind [] none = tt
members_short kind (m ∷ members) none = grind (arith, members_short kind members (both_none (member_refusal kind m) (members_refusal kind members) none).1, both_none, none, short_by)

short_at : (members : List MemberView) → AreShort members → (i : ℕ) (d : MemberView) → i < length members → length (get_or members i d).bytes < 2 ^ 32
short_at [] short i d within = absurd (omega arith)
short_at (m ∷ members) short zero d within = short.0
short_at (m ∷ members) short (suc i) d within = let w : i < length members = omega arith in short_at members short.1 i d w

-- each of them, by its index
pub each_short : (kind : Kind) (members : List MemberView) → members_refusal kind members ≡ None → All (λ m. length m.bytes < 2 ^ 32) members
each_short kind members none = short_at members (members_short kind members none)

-- Lengths.

pub length-field : (width : ℕ) (text : List ℕ) → length text ≤ width → length (field width text) ≡ width
unfolding field
length-field width text fits = omega (arith, length-append text (replicate (width - length text) 32), length-replicate {A = ℕ} (width - length text) 32, fits)

-- texts fit their fields
pub record LabelFits (l : Label) : Type 0 where
  pub name : length l.name ≤ 16
  pub date : length l.date ≤ 12
  pub owner : length l.owner ≤ 6
  pub mode : length l.mode ≤ 8

pub length-header : (l : Label) (size : ℕ) → LabelFits l → size < 2 ^ 33 → length (header_bytes l size) ≡ 60
unfolding header_bytes
length-header l size fits short =
    let name = field 16 l.name in
    let date = field 12 l.date in
    let owner = field 6 l.owner in
    let mode = field 8 l.mode in
    let digits = field 10 (decimal size) in
    let small : size < 10 ^ 10 = omega (arith, short) in
    let fit : size < 2 ^ 64 = omega (arith, short) in
    omega (
      arith,
      length-append (name ++ date ++ owner ++ owner ++ mode ++ digits) (96 ∷ 10 ∷ []),
      length-append (name ++ date ++ owner ++ owner ++ mode) digits,
      length-append (name ++ date ++ owner ++ owner) mode,
      length-append (name ++ date ++ owner) owner,
      length-append (name ++ date) owner,
      length-append name date,
      length-field 16 l.name fits.name,
      length-field 12 l.date fits.date,
      length-field 6 l.owner fits.owner,
      length-field 8 l.mode fits.mode,
      length-field 10 (decimal size) (length-decimal-le 10 size (omega arith) small fit),
    )

pub length-part : (l : Label) (contents : List ℕ) → LabelFits l → length contents < 2 ^ 32 → length (part_bytes l contents) ≡ part_size (length contents)
unfolding part_bytes
length-part l contents fits short = grind (arith, length-header, length-append, length-padding)

pub length-padded : (l : Label) (byte : ℕ) (contents : List ℕ) → LabelFits l → length contents < 2 ^ 32 → length (padded_part_bytes l byte contents) ≡ part_size (length contents)
unfolding padded_part_bytes
length-padded l byte contents fits short = grind (arith, length-append, length-padding, length-header)

pub linker_fits : LabelFits linker_label
unfolding linker_label
linker_fits = record { name = omega arith; date = omega arith; owner = omega arith; mode = omega arith }

pub names_fit : LabelFits names_label
unfolding names_label
names_fit = record { name = omega arith; date = omega arith; owner = omega arith; mode = omega arith }

-- The offsets of long names are below the size of their data.

abbrev AreWithin : ℕ → List (List ℕ × ℕ) → Type 0
AreWithin size names = Each (λ n. n ≤ size) names

within_more : (a b : ℕ) → a ≤ b → (names : List (List ℕ × ℕ)) → AreWithin a names → AreWithin b names
within_more a b more names within = each_weaker (λ n. n ≤ a) (λ n. n ≤ b) (λ n h. omega (arith, h, more)) names within

within_push : (size : ℕ) (names : List (List ℕ × ℕ)) (n : List ℕ × ℕ) → AreWithin size names → n.1 ≤ size → AreWithin size (names ++ n ∷ [])
within_push size [] n within h = (h, tt)
within_push size (x ∷ names) n within h = (within.0, within_push size names n within.1 h)

within_name : (kind : Kind) (names : List (List ℕ × ℕ)) (name : List ℕ) (a b : Bool) → AreWithin (length (names_bytes kind names)) names
    → AreWithin (length (names_bytes kind (if a then (if b then names else names ++ (name, length (names_bytes kind names)) ∷ []) else names))) (if a then (if b then names else names ++ (name, length (names_bytes kind names)) ∷ []) else names)
within_name kind names name true true within = within
within_name kind names name true false within = grind (arith, names, name, names_bytes-push, within_push, within_more)
within_name kind names name false b within = within

within_names : (kind : Kind) (names : List (List ℕ × ℕ)) (members : List MemberView) → AreWithin (length (names_bytes kind names)) names
    → AreWithin (length (names_bytes kind (fold (λ found m. with_name kind found m.name) names members))) (fold (λ found m. with_name kind found m.name) names members)
unfolding with_name
within_names kind names [] within = within
within_names kind names (m ∷ members) within = grind (arith, within_names kind (with_name kind names m.name) members (within_name kind names m.name (is_long m.name) (is_some (offset_of names m.name)) within), names, within_name, is_some)

offset_by : (size : ℕ) (b : Bool) (n : ℕ) (others : Option ℕ) → n ≤ size → unwrap_or others 0 ≤ size → unwrap_or (if b then Some n else others) 0 ≤ size
offset_by size true n others here rest = here
offset_by size false n others here rest = rest

offset_within : (size : ℕ) (names : List (List ℕ × ℕ)) (name : List ℕ) → AreWithin size names → unwrap_or (offset_of names name) 0 ≤ size
unfolding offset_of
offset_within size [] name within = omega arith
offset_within size (n ∷ names) name within = grind (arith, offset_within size names name within.1, offset_by, name, names)

pub offset_below : (kind : Kind) (members : List MemberView) (name : List ℕ) → unwrap_or (offset_of (long_names kind members) name) 0 ≤ length (names_bytes kind (long_names kind members))
unfolding long_names
offset_below kind members name = grind (arith, offset_within, name, within_names)

short_name : (name : List ℕ) → is_long name ≡ false → length name ≤ 15
unfolding is_long
short_name name short = grind (arith, nat_lt, name, true≢false, nat_eq)

-- a name field fits
name_field-fits : (names : List (List ℕ × ℕ)) (name : List ℕ) → unwrap_or (offset_of names name) 0 < 2 ^ 32 → length (name_field names name) ≤ 16
unfolding name_field
name_field-fits names name near = by_test (is_long name) refl
  where
    by_test : (b : Bool) → is_long name ≡ b → length (if b then codes "/" ++ decimal (unwrap_or (offset_of names name) 0) else name ++ codes "/") ≤ 16
    by_test true long = grind (arith, unwrap_or, length-append, length-decimal-le)
    by_test false short = omega (arith, length-append name (codes "/"), short_name name short)

pub member_fits : (names : List (List ℕ × ℕ)) (name : List ℕ) → unwrap_or (offset_of names name) 0 < 2 ^ 32 → LabelFits (member_label names name)
unfolding member_label
member_fits names name near = record { name = name_field-fits names name near; date = omega arith; owner = omega arith; mode = omega arith }

-- the members take the places from the first one on
pub length-members : (names : List (List ℕ × ℕ)) → ((name : List ℕ) → unwrap_or (offset_of names name) 0 < 2 ^ 32) → (place : ℕ) (members : List MemberView) → AreShort members
    → place + length (flat_map (member_part names) members) ≡ end_from place members
unfolding end_from member_part
length-members names near place [] short = omega arith
length-members names near place (m ∷ members) short = grind (arith, length-members names near (place + part_size (length m.bytes)) members short.1, length-part, names, member_fits, near, rest, length-append)

pub length-places : (place : ℕ) (members : List MemberView) → length (places_from place members) ≡ length members
unfolding places_from
length-places place [] = refl
length-places place (m ∷ members) = ap (λ n. suc n) (length-places (place + part_size (length m.bytes)) members)

-- What stands before the members.

linker_some : (e s : ℕ) → 0 < e → first_linker_size Gnu e s ≡ part_size (4 + 4 * e + s)
unfolding first_linker_size
linker_some e s some = ap (λ b. if b then part_size (4 + 4 * e + s) else 0) (lt-ltb 0 e some)

pub names_some : (n : ℕ) → 0 < n → names_size n ≡ part_size n
unfolding names_size
names_some n some = ap (λ b. if b then part_size n else 0) (lt-ltb 0 n some)

pub names_of-size : (names : List ℕ) → names_size (length names) < 2 ^ 32 → length (names_part names) ≡ names_size (length names)
unfolding names_part names_size
names_of-size [] short = refl
names_of-size (c ∷ names) short = grind (arith, names, names_some, names_part-some, length-padded, names_fit)

names_short : (n : ℕ) → names_size n < 2 ^ 32 → n < 2 ^ 32
names_short zero short = omega arith
names_short (suc n) short = let size = names_some (suc n) (omega arith) in omega (arith, short, size)

first_short : (kind : Kind) (entries : List (List ℕ × ℕ)) → first_linker_size kind (length entries) (length (strings_of entries)) < 2 ^ 32 → 4 + 4 * length entries + length (strings_of entries) < 2 ^ 32
unfolding first_linker_size strings_of
first_short Coff entries short = omega (arith, short)
first_short Gnu [] short = omega arith
first_short Gnu (e ∷ entries) short = let size = linker_some (length (e ∷ entries)) (length (strings_of (e ∷ entries))) (omega arith) in omega (arith, short, size)

pub linkers-size : (kind : Kind) (places : List ℕ) (entries : List (List ℕ × ℕ)) → first_linker_size kind (length entries) (length (strings_of entries)) < 2 ^ 32
    → second_linker_size kind (length places) (length entries) (length (strings_of entries)) < 2 ^ 32
    → (kind ≡ Coff → (length (sorted_entries entries) ≡ length entries) × (length (strings_of (sorted_entries entries)) ≡ length (strings_of entries)))
    → length (linkers kind places entries) ≡ first_linker_size kind (length entries) (length (strings_of entries)) + second_linker_size kind (length places) (length entries) (length (strings_of entries))
unfolding linkers first_linker_size second_linker_size
linkers-size Coff places entries short second many = grind (arith, length-first_linker, length-second_linker, length-padded, linker_fits, second, length-append)
linkers-size Gnu places [] short second many = refl
linkers-size Gnu places (e ∷ entries) short second many = grind (arith, length-first_linker, linker_some, length-padded, linker_fits, linkers-gnu)

many_if_coff : (kind : Kind) (members : List MemberView) → kind ≡ Coff → (length (sorted_entries (entries_of kind members)) ≡ length (entries_of kind members))
    × (length (strings_of (sorted_entries (entries_of kind members))) ≡ length (strings_of (entries_of kind members)))
many_if_coff Coff members is = sorted_as_many members
many_if_coff Gnu members is = absurd (cc)

pub few_if_coff : (kind : Kind) (members : List MemberView) → has_too_many kind members ≡ false → kind ≡ Coff → length members < 65535
unfolding has_too_many
few_if_coff Coff members few is = grind (arith, nat_le, leb-false)
few_if_coff Gnu members few is = absurd (cc)

sum_front : (kind : Kind) (m e s n : ℕ) → front_size kind m e s n ≡ 8 + first_linker_size kind e s + second_linker_size kind m e s + names_size n
unfolding front_size
sum_front kind m e s n = refl

pub sum_first : (kind : Kind) (members : List MemberView) → first_place kind members ≡ 8 + first_linker_size kind (length (entries_of kind members)) (length (strings_of (entries_of kind members)))
    + second_linker_size kind (length members) (length (entries_of kind members)) (length (strings_of (entries_of kind members))) + names_size (length (names_bytes kind (long_names kind members)))
unfolding first_place
sum_first kind members = sum_front kind (length members) (length (entries_of kind members)) (length (strings_of (entries_of kind members))) (length (names_bytes kind (long_names kind members)))

-- of members that are not refused, the sizes of what stands before them
pub record FrontShort (kind : Kind) (members : List MemberView) : Type 0 where
  pub first : first_place kind members < 2 ^ 32
  pub linker : first_linker_size kind (length (entries_of kind members)) (length (strings_of (entries_of kind members))) < 2 ^ 32
  pub second : second_linker_size kind (length members) (length (entries_of kind members)) (length (strings_of (entries_of kind members))) < 2 ^ 32
  pub names : names_size (length (names_bytes kind (long_names kind members))) < 2 ^ 32

pub front_short : (kind : Kind) (members : List MemberView) → refusal_of kind members ≡ None → FrontShort kind members
front_short kind members accepted = grind (arith, first_near (first_place kind members) members (accepted_parts kind members accepted).near, accepted_parts kind members accepted, sum_first kind members)

-- the long names are shorter than 2^32
pub names_below : (kind : Kind) (members : List MemberView) → refusal_of kind members ≡ None → length (names_bytes kind (long_names kind members)) < 2 ^ 32
names_below kind members accepted = names_short (length (names_bytes kind (long_names kind members))) (front_short kind members accepted).names

-- what stands before the members has the size that it was measured to have
pub length-front : (kind : Kind) (members : List MemberView) → refusal_of kind members ≡ None → length (front_of kind members) ≡ first_place kind members
unfolding front_of front signature
length-front kind members accepted = grind (arith, front_short, length-places, linkers-size, many_if_coff, names_of-size, length-append, sum_first)

-- an archive ends where its last member does
pub length-archive : (kind : Kind) (members : List MemberView) → refusal_of kind members ≡ None → length (archive_of kind members) ≡ end_from (first_place kind members) members
unfolding archive_of
length-archive kind members accepted =
    let names = long_names kind members in
    let below = names_below kind members accepted in
    let near : (name : List ℕ) → unwrap_or (offset_of names name) 0 < 2 ^ 32 = λ name. omega (arith, below, offset_below kind members name) in
    length-append (front_of kind members) (flat_map (member_part names) members)
    ∙ ap (λ n. n + length (flat_map (member_part names) members)) (length-front kind members accepted)
    ∙ length-members names near (first_place kind members) members (members_short kind members (accepted_parts kind members accepted).none)

second_fits : (kind : Kind) (members : List MemberView) → kind ≡ Coff → second_linker_size kind (length members) (length (entries_of kind members)) (length (strings_of (entries_of kind members))) < 2 ^ 32
    → 8 + 4 * length (places_of kind members) + 2 * length (sorted_entries (entries_of kind members)) + length (strings_of (sorted_entries (entries_of kind members))) < 2 ^ 32
unfolding second_linker_size
second_fits Coff members is short = grind (arith, sorted_as_many, length-places)
second_fits Gnu members is short = absurd (cc)

-- the linker members' fields
pub front_fits : (kind : Kind) (members : List MemberView) → refusal_of kind members ≡ None → FrontFits kind (places_of kind members) (entries_of kind members)
front_fits kind members accepted =
    let short = front_short kind members accepted in
    let entries = entries_of kind members in
    let count = length-places (first_place kind members) members in
    let n = length members in
    let each = subst (λ k. Each (λ i. (0 < i) × (i ≤ k)) entries) (sym count) (each_entry kind members) in
    let few = few_if_coff kind members (accepted_parts kind members accepted).few in
    record {
      numbered = all_from_each (λ i. (0 < i) × (i ≤ length (places_of kind members))) entries each;
      short = first_short kind entries short.linker;
      numbers = λ is. grind (arith, few, all_from_each, each_sorted, each_weaker, each_entry);
      second_short = λ is. second_fits kind members is short.second;
    }

-- What the code measures before it knows that the members are not refused: sizes as far as they are told apart.

linker_capped : (kind : Kind) (e s e' s' : ℕ) → min e (2 ^ 32) ≡ min e' (2 ^ 32) → min s (2 ^ 32) ≡ min s' (2 ^ 32) → min (first_linker_size kind e s) (2 ^ 32) ≡ min (first_linker_size kind e' s') (2 ^ 32)
unfolding first_linker_size
linker_capped Coff e s e' s' a b = omega (arith, a, b)
linker_capped Gnu zero s zero s' a b = refl
linker_capped Gnu zero s (suc e') s' a b = absurd (omega (arith, a))
linker_capped Gnu (suc e) s zero s' a b = absurd (omega (arith, a))
linker_capped Gnu (suc e) s (suc e') s' a b = grind (arith, linker_some)

second_capped : (kind : Kind) (m e s m' e' s' : ℕ) → min m (2 ^ 32) ≡ min m' (2 ^ 32) → min e (2 ^ 32) ≡ min e' (2 ^ 32) → min s (2 ^ 32) ≡ min s' (2 ^ 32) → min (second_linker_size kind m e s) (2 ^ 32) ≡ min (second_linker_size kind m' e' s') (2 ^ 32)
unfolding second_linker_size
second_capped Coff m e s m' e' s' c a b = omega (arith, a, b, c)
second_capped Gnu m e s m' e' s' c a b = refl

names_capped : (n n' : ℕ) → min n (2 ^ 32) ≡ min n' (2 ^ 32) → min (names_size n) (2 ^ 32) ≡ min (names_size n') (2 ^ 32)
unfolding names_size
names_capped zero zero a = refl
names_capped zero (suc n') a = absurd (omega (arith, a))
names_capped (suc n) zero a = absurd (omega (arith, a))
names_capped (suc n) (suc n') a = let p = names_some (suc n) (omega arith) in let q = names_some (suc n') (omega arith) in omega (arith, a, p, q)

sum_capped : (a b c a' b' c' : ℕ) → min a (2 ^ 32) ≡ min a' (2 ^ 32) → min b (2 ^ 32) ≡ min b' (2 ^ 32) → min c (2 ^ 32) ≡ min c' (2 ^ 32) → min (8 + a + b + c) (2 ^ 32) ≡ min (8 + a' + b' + c') (2 ^ 32)
sum_capped a b c a' b' c' p q r = omega (arith, p, q, r)

pub front_capped : (kind : Kind) (m e s n m' e' s' n' : ℕ) → min m (2 ^ 32) ≡ min m' (2 ^ 32) → min e (2 ^ 32) ≡ min e' (2 ^ 32) → min s (2 ^ 32) ≡ min s' (2 ^ 32) → min n (2 ^ 32) ≡ min n' (2 ^ 32)
    → min (front_size kind m e s n) (2 ^ 32) ≡ min (front_size kind m' e' s' n') (2 ^ 32)
unfolding front_size
front_capped kind m e s n m' e' s' n' a b c d = grind (arith, sum_capped, linker_capped, second_capped, names_capped)

pub capped_min : (n : ℕ) → min (min n (2 ^ 32)) (2 ^ 32) ≡ min n (2 ^ 32)
capped_min n = omega arith

pub capped_more : (s n : ℕ) → s ≡ min n (2 ^ 64 - 1) → min (min s (2 ^ 32)) (2 ^ 32) ≡ min n (2 ^ 32)
capped_more s n e = omega (arith, e)

pub capped_names : {kind : Kind} {names found : List (List ℕ × ℕ)} {size : ℕ} → AreMeasured kind names found size → min (min size (2 ^ 32)) (2 ^ 32) ≡ min (length (names_bytes kind names)) (2 ^ 32)
capped_names {kind} {names} {found} {size} m = grind (arith, nat_lt, ltb-true, ltb-false)

-- Of an archive that was made, front and members are all its bytes.
module _ {kind : Kind} {members : List MemberView} {listed sorted offsets : List (List ℕ × ℕ)} {size : ℕ} {places : List ℕ} {end' : ℕ} (made : IsMade kind members listed sorted offsets size places end') where
  pub front_made : front kind places listed offsets ≡ front_of kind members
  unfolding front_of
  front_made = grind arith

  pub ordered_made : kind ≡ Coff → sorted ≡ sorted_entries listed
  ordered_made is = made.ordered is ∙ ap sorted_entries (sym made.listed)

  pub archive_made : front_of kind members ++ flat_map (member_part offsets) members ≡ archive_of kind members
  unfolding archive_of
  archive_made = ap (λ n. front_of kind members ++ flat_map (member_part n) members) made.named

-- what was measured is exact where the members are not refused
pub near_size : {kind : Kind} {names found : List (List ℕ × ℕ)} {size : ℕ} → AreMeasured kind names found size → length (names_bytes kind names) < 2 ^ 32 → size < 2 ^ 32
near_size {kind} {names} {found} {size} m below = grind (arith, nat_lt, ltb-false)
