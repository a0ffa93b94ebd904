-- What a reader finds in the linker members.
use Rattle.std.proofs.Common.{rules, ◌≡◌, ℕ, ◌+◌, ◌*◌, ◌^◌, ◌<◌, Bool, true, false, not, List, [], ◌∷◌, ◌++◌, Option, Some, None, bytes_eq, codes, drop, flat_map, if◌then◌else◌, length, map, nat_eq, nat_lt, option_and_then, take, take_while, refl, sym, ap, ◌∙◌, append_assoc, length-append, arith}
use Rattle.std.specs.Prelude.{slice_get}
use Rattle.std.specs.Int.{from_be_bytes, from_le_bytes, w16, w32}
use Rattle.std.specs.List.{AllByRecursion}
use Rattle.std.specs.Map.{lookup}
use Rattle.std.specs.Option.{option_map}
use Rattle.std.proofs.lemmas.Bool.{lt-ltb, true≢false}
use Rattle.std.proofs.lemmas.List.{drop_at, take_at}
use Rattle.std.proofs.lemmas.Nat.{from_be_bytes-to_be_bytes_4, from_le_bytes-to_le_bytes_2, from_le_bytes-to_le_bytes_4}
use Rattle.implib.specs.Members.MemberSpec.{MemberView}
use Rattle.implib_archive.specs.Archive.{archive_of, entries_of, first_linker, long_names, names_bytes, place_of, places_of, second_linker, sorted_entries, strings_of}
use Rattle.implib_archive.specs.Leads.{header_for}
use Rattle.implib_archive.specs.Parts.{padding, u16_le, u32_be, u32_le}
use Rattle.implib_archive.specs.ReadBack.{padded, parts_of, stored, stored_linkers, stored_member, stored_names}
use Rattle.implib_archive.specs.Reader.{Stored, first_in, linker_data, linker_in, name_in, numbers_in, paired, second_in, stored_in, texts_in}
use Rattle.implib_archive.specs.Refusal.{has_byte, refusal_of}
use Rattle.implib_archive.specs.declared.kind.Kind.{Kind}
use Rattle.implib_archive.specs.declared.kind.Kind.TheVariants.{Coff, Gnu}
use Rattle.implib_archive.proofs.FoundMembers.{archive_named}
use Rattle.implib_archive.proofs.FoundNames.{HaveNames, linker_named, long_names_named, stopped}
use Rattle.implib_archive.proofs.Readings.{parts_read_back}
use Rattle.implib_archive.proofs.Sized.{length-u16_le, length-u32_be, length-u32_le, length_fours, length_twos}

-- Numbers and texts.

numbers_read : {X : Type 0} (size : ℕ) (read : List ℕ → ℕ) (f : X → List ℕ) (v : X → ℕ) (xs : List X) (rest : List ℕ) → ((x : X) → length (f x) ≡ size) → AllByRecursion (λ x. read (f x) ≡ v x) xs
    → numbers_in read size (length xs) (flat_map f xs ++ rest) ≡ map v xs
unfolding numbers_in
numbers_read size read f v [] rest sized all = refl
numbers_read size read f v (x ∷ xs) rest sized all = grind (arith, numbers_read size read f v xs rest sized all.1, append_assoc, take_at, drop_at)

-- texts without a NUL
abbrev pub AreTexts : List (List ℕ × ℕ) → Type 0
AreTexts entries = AllByRecursion (λ e. has_byte 0 e.0 ≡ false) entries

texts_read : (entries : List (List ℕ × ℕ)) (rest : List ℕ) → AreTexts entries → texts_in (length entries) (strings_of entries ++ rest) ≡ map (λ e. e.0) entries
unfolding texts_in strings_of
texts_read [] rest none = refl
texts_read (e ∷ entries) rest none =
    let behind = strings_of entries ++ rest in
    let split : strings_of (e ∷ entries) ++ rest ≡ e.0 ++ (0 ∷ behind) = append_assoc (e.0 ++ 0 ∷ []) (strings_of entries) rest ∙ append_assoc e.0 (0 ∷ []) behind in
    let first = stopped 0 e.0 behind none.0 in
    let past : drop (length e.0 + 1) (e.0 ++ (0 ∷ behind)) ≡ behind = ap (drop (length e.0 + 1)) (sym (append_assoc e.0 (0 ∷ []) behind)) ∙ drop_at (e.0 ++ 0 ∷ []) behind (length e.0 + 1) (length-append e.0 (0 ∷ [])) in
    ap (λ t. take_while (λ c. not (nat_eq c 0)) t ∷ texts_in (length entries) (drop (length (take_while (λ c. not (nat_eq c 0)) t) + 1) t)) split
    ∙ (ap (λ w. w ∷ texts_in (length entries) (drop (length w + 1) (e.0 ++ (0 ∷ behind)))) first
    ∙ (ap (λ t. e.0 ∷ texts_in (length entries) t) past ∙ ap (λ t. e.0 ∷ t) (texts_read entries rest none.1)))

paired_maps : {X : Type 0} (f : X → List ℕ) (g : X → ℕ) (xs : List X) → paired (map f xs) (map g xs) ≡ map (λ x. (f x, g x)) xs
unfolding paired
paired_maps f g [] = refl
paired_maps f g (x ∷ xs) = ap (λ t. (f x, g x) ∷ t) (paired_maps f g xs)

be_4 : (n : ℕ) → n < 2 ^ 32 → from_be_bytes w32 (u32_be n) ≡ n
unfolding u32_be
be_4 n small = from_be_bytes-to_be_bytes_4 n small

le_4 : (n : ℕ) → n < 2 ^ 32 → from_le_bytes w32 (u32_le n) ≡ n
unfolding u32_le
le_4 n small = from_le_bytes-to_le_bytes_4 n small

le_2 : (n : ℕ) → n < 2 ^ 16 → from_le_bytes w16 (u16_le n) ≡ n
unfolding u16_le
le_2 n small = from_le_bytes-to_le_bytes_2 n small

all_be : (places : List ℕ) (entries : List (List ℕ × ℕ)) → ((n : ℕ) → place_of places n < 2 ^ 32) → AllByRecursion (λ (e : List ℕ × ℕ). from_be_bytes w32 (u32_be (place_of places e.1)) ≡ place_of places e.1) entries
all_be places [] near = tt
all_be places (e ∷ entries) near = (be_4 (place_of places e.1) (near e.1), all_be places entries near)

all_le_4 : (places : List ℕ) → AllByRecursion (λ n. n < 2 ^ 32) places → AllByRecursion (λ n. from_le_bytes w32 (u32_le n) ≡ n) places
all_le_4 [] near = tt
all_le_4 (p ∷ places) near = (le_4 p near.0, all_le_4 places near.1)

all_le_2 : (entries : List (List ℕ × ℕ)) → AllByRecursion (λ (e : List ℕ × ℕ). e.1 < 2 ^ 16) entries → AllByRecursion (λ (e : List ℕ × ℕ). from_le_bytes w16 (u16_le e.1) ≡ e.1) entries
all_le_2 [] near = tt
all_le_2 (e ∷ entries) near = (le_2 e.1 near.0, all_le_2 entries near.1)

-- The first linker member.

-- the entries in its data
abbrev pub first_data : List ℕ → List (List ℕ × ℕ)
first_data data' =
    let count = from_be_bytes w32 (take 4 data') in
    paired (texts_in count (drop (4 + 4 * count) data')) (numbers_in (from_be_bytes w32) 4 count (drop 4 data'))

pub first_read : (places : List ℕ) (entries : List (List ℕ × ℕ)) (pad : List ℕ) → length entries < 2 ^ 32 → ((n : ℕ) → place_of places n < 2 ^ 32) → AreTexts entries
    → first_data (first_linker places entries ++ pad) ≡ map (λ e. (e.0, place_of places e.1)) entries
unfolding first_linker
first_read places entries pad few near none =
    let count = u32_be (length entries) in
    let offsets = flat_map (λ (e : List ℕ × ℕ). u32_be (place_of places e.1)) entries in
    let strings = strings_of entries in
    let whole = first_linker places entries ++ pad in
    let n = length entries in
    let four = length-u32_be n in
    let at_offsets : whole ≡ count ++ (offsets ++ (strings ++ pad)) = append_assoc (count ++ offsets) strings pad ∙ append_assoc count offsets (strings ++ pad) in
    let at_strings : whole ≡ (count ++ offsets) ++ (strings ++ pad) = append_assoc (count ++ offsets) strings pad in
    let counted : from_be_bytes w32 (take 4 whole) ≡ n = ap (λ t. from_be_bytes w32 (take 4 t)) at_offsets ∙ (ap (from_be_bytes w32) (take_at count (offsets ++ (strings ++ pad)) 4 four) ∙ be_4 n few) in
    let long : length (count ++ offsets) ≡ 4 + 4 * n = omega (arith, length-append count offsets, four, length_fours (λ (e : List ℕ × ℕ). u32_be (place_of places e.1)) (λ e. length-u32_be (place_of places e.1)) entries) in
    let found_strings : drop (4 + 4 * n) whole ≡ strings ++ pad = ap (drop (4 + 4 * n)) at_strings ∙ drop_at (count ++ offsets) (strings ++ pad) (4 + 4 * n) long in
    let found_offsets : drop 4 whole ≡ offsets ++ (strings ++ pad) = ap (drop 4) at_offsets ∙ drop_at count (offsets ++ (strings ++ pad)) 4 four in
    ap (λ k. paired (texts_in k (drop (4 + 4 * k) whole)) (numbers_in (from_be_bytes w32) 4 k (drop 4 whole))) counted
    ∙ (ap (λ t. paired (texts_in n t) (numbers_in (from_be_bytes w32) 4 n (drop 4 whole))) found_strings
    ∙ (ap (λ t. paired (texts_in n (strings ++ pad)) (numbers_in (from_be_bytes w32) 4 n t)) found_offsets
    ∙ (ap (λ t. paired t (numbers_in (from_be_bytes w32) 4 n (offsets ++ (strings ++ pad)))) (texts_read entries pad none)
    ∙ (ap (paired (map (λ e. e.0) entries)) (numbers_read 4 (from_be_bytes w32) (λ (e : List ℕ × ℕ). u32_be (place_of places e.1)) (λ e. place_of places e.1) entries (strings ++ pad) (λ e. length-u32_be (place_of places e.1)) (all_be places entries near))
    ∙ paired_maps (λ (e : List ℕ × ℕ). e.0) (λ e. place_of places e.1) entries))))

-- The second linker member.

-- the offsets and the numbered symbols in its data
abbrev pub second_data : List ℕ → List ℕ × List (List ℕ × ℕ)
second_data data' =
    let members = from_le_bytes w32 (take 4 data') in
    let rest = drop (4 + 4 * members) data' in
    let count = from_le_bytes w32 (take 4 rest) in (
      numbers_in (from_le_bytes w32) 4 members (drop 4 data'),
      paired (texts_in count (drop (4 + 2 * count) rest)) (numbers_in (from_le_bytes w16) 2 count (drop 4 rest)),
    )

map_same : (xs : List ℕ) → map (λ x. x) xs ≡ xs
map_same [] = refl
map_same (x ∷ xs) = ap (λ t. x ∷ t) (map_same xs)

map_pairs : (xs : List (List ℕ × ℕ)) → map (λ x. (x.0, x.1)) xs ≡ xs
map_pairs [] = refl
map_pairs (x ∷ xs) = ap (λ t. x ∷ t) (map_pairs xs)

-- the entries, after the offsets
abbrev pub entries_data : List ℕ → List (List ℕ × ℕ)
entries_data rest = let count = from_le_bytes w32 (take 4 rest) in paired (texts_in count (drop (4 + 2 * count) rest)) (numbers_in (from_le_bytes w16) 2 count (drop 4 rest))

pub entries_read : (sorted : List (List ℕ × ℕ)) (pad : List ℕ) → length sorted < 2 ^ 32 → AllByRecursion (λ (e : List ℕ × ℕ). e.1 < 2 ^ 16) sorted → AreTexts sorted
    → entries_data (u32_le (length sorted) ++ (flat_map (λ (e : List ℕ × ℕ). u16_le e.1) sorted ++ (strings_of sorted ++ pad))) ≡ sorted
entries_read sorted pad few small none =
    let n = length sorted in
    let count = u32_le n in
    let numbers = flat_map (λ (e : List ℕ × ℕ). u16_le e.1) sorted in
    let behind = strings_of sorted ++ pad in
    let rest = count ++ (numbers ++ behind) in
    let four = length-u32_le n in
    let counted : from_le_bytes w32 (take 4 rest) ≡ n = ap (from_le_bytes w32) (take_at count (numbers ++ behind) 4 four) ∙ le_4 n few in
    let long : length (count ++ numbers) ≡ 4 + 2 * n = omega (arith, length-append count numbers, four, length_twos (λ (e : List ℕ × ℕ). u16_le e.1) (λ e. length-u16_le e.1) sorted) in
    let found_strings : drop (4 + 2 * n) rest ≡ behind = ap (drop (4 + 2 * n)) (sym (append_assoc count numbers behind)) ∙ drop_at (count ++ numbers) behind (4 + 2 * n) long in
    let found_numbers : drop 4 rest ≡ numbers ++ behind = drop_at count (numbers ++ behind) 4 four in
    ap (λ k. paired (texts_in k (drop (4 + 2 * k) rest)) (numbers_in (from_le_bytes w16) 2 k (drop 4 rest))) counted
    ∙ (ap (λ t. paired (texts_in n t) (numbers_in (from_le_bytes w16) 2 n (drop 4 rest))) found_strings
    ∙ (ap (λ t. paired (texts_in n behind) (numbers_in (from_le_bytes w16) 2 n t)) found_numbers
    ∙ (ap (λ t. paired t (numbers_in (from_le_bytes w16) 2 n (numbers ++ behind))) (texts_read sorted pad none)
    ∙ (ap (paired (map (λ e. e.0) sorted)) (numbers_read 2 (from_le_bytes w16) (λ (e : List ℕ × ℕ). u16_le e.1) (λ e. e.1) sorted behind (λ e. length-u16_le e.1) (all_le_2 sorted small))
    ∙ (paired_maps (λ (e : List ℕ × ℕ). e.0) (λ e. e.1) sorted ∙ map_pairs sorted)))))

pub second_read : (places : List ℕ) (sorted : List (List ℕ × ℕ)) (pad : List ℕ) → length places < 2 ^ 32 → AllByRecursion (λ n. n < 2 ^ 32) places
    → length sorted < 2 ^ 32 → AllByRecursion (λ (e : List ℕ × ℕ). e.1 < 2 ^ 16) sorted → AreTexts sorted
    → second_data (second_linker places sorted ++ pad) ≡ (places, sorted)
unfolding second_linker
second_read places sorted pad few near few_entries small none =
    let m = length places in
    let members = u32_le m in
    let offsets = flat_map u32_le places in
    let count = u32_le (length sorted) in
    let numbers = flat_map (λ (e : List ℕ × ℕ). u16_le e.1) sorted in
    let strings = strings_of sorted in
    let rest = count ++ (numbers ++ (strings ++ pad)) in
    let whole = second_linker places sorted ++ pad in
    let four = length-u32_le m in
    let at_rest : whole ≡ (members ++ offsets) ++ rest = grind (arith, append_assoc) in
    let at_offsets : whole ≡ members ++ (offsets ++ rest) = at_rest ∙ append_assoc members offsets rest in
    let counted : from_le_bytes w32 (take 4 whole) ≡ m = ap (λ t. from_le_bytes w32 (take 4 t)) at_offsets ∙ (ap (from_le_bytes w32) (take_at members (offsets ++ rest) 4 four) ∙ le_4 m few) in
    let long : length (members ++ offsets) ≡ 4 + 4 * m = omega (arith, length-append members offsets, four, length_fours u32_le length-u32_le places) in
    let found_rest : drop (4 + 4 * m) whole ≡ rest = ap (drop (4 + 4 * m)) at_rest ∙ drop_at (members ++ offsets) rest (4 + 4 * m) long in
    let found_offsets : drop 4 whole ≡ offsets ++ rest = ap (drop 4) at_offsets ∙ drop_at members (offsets ++ rest) 4 four in
    ap (λ k. (numbers_in (from_le_bytes w32) 4 k (drop 4 whole), entries_data (drop (4 + 4 * k) whole))) counted
    ∙ (ap (λ t. (numbers_in (from_le_bytes w32) 4 m (drop 4 whole), entries_data t)) found_rest
    ∙ (ap (λ t. (numbers_in (from_le_bytes w32) 4 m t, entries_data rest)) found_offsets
    ∙ (ap (λ t. (t, entries_data rest)) (numbers_read 4 (from_le_bytes w32) u32_le (λ n. n) places rest length-u32_le (all_le_4 places near) ∙ map_same places)
    ∙ ap (λ t. (places, t)) (entries_read sorted pad few_entries small none))))

-- Where the linker members are.

pub linker_there : (position : ℕ) (bytes : List ℕ) (parts : List Stored) (contents : List ℕ) → stored_in bytes ≡ Some parts → slice_get parts position ≡ Some (stored (codes "/") contents) → linker_in position bytes ≡ Some contents
unfolding linker_in linker_data
linker_there position bytes parts contents found at = grind (arith, option_and_then, linker_named)

linker_not : (bytes : List ℕ) (parts : List Stored) → stored_in bytes ≡ Some parts → option_and_then (λ s. linker_data (name_in s.field) s.contents) (slice_get parts 0) ≡ None → linker_in 0 bytes ≡ None
unfolding linker_in
linker_not bytes parts found none = grind (arith, option_and_then)

coff_at_0 : (members : List MemberView) → slice_get (parts_of Coff members) 0 ≡ Some (stored (codes "/") (padded 0 (first_linker (places_of Coff members) (entries_of Coff members))))
unfolding parts_of stored_linkers
coff_at_0 members = refl

coff_at_1 : (members : List MemberView) → slice_get (parts_of Coff members) 1 ≡ Some (stored (codes "/") (padded 0 (second_linker (places_of Coff members) (sorted_entries (entries_of Coff members)))))
unfolding parts_of stored_linkers
coff_at_1 members = refl

-- what the first part says, if it is a linker member
abbrev linker_of : Option Stored → Option (List ℕ)
linker_of part = option_and_then (λ s. linker_data (name_in s.field) s.contents) part

gnu_some : (members : List MemberView) → nat_lt 0 (length (entries_of Gnu members)) ≡ true → slice_get (parts_of Gnu members) 0 ≡ Some (stored (codes "/") (padded 0 (first_linker (places_of Gnu members) (entries_of Gnu members))))
unfolding parts_of stored_linkers
gnu_some members some = grind arith

members_first : (kind : Kind) (data' : List ℕ) (names : List (List ℕ × ℕ)) (members : List MemberView) → HaveNames kind data' names members → linker_of (slice_get (map (stored_member names) members) 0) ≡ None
unfolding linker_data
members_first kind data' names [] named = refl
members_first kind data' names (m ∷ members) named = grind arith

names_first : (text : List ℕ) (behind : List Stored) → linker_of (slice_get behind 0) ≡ None → linker_of (slice_get (stored_names text ++ behind) 0) ≡ None
unfolding stored_names linker_data
names_first text behind none = by_test (nat_lt 0 (length text))
  where
    by_test : (b : Bool) → linker_of (slice_get ((if b then stored (codes "//") (padded 10 text) ∷ [] else []) ++ behind) 0) ≡ None
    by_test true = ap (λ n. linker_data n (padded 10 text)) long_names_named
    by_test false = none

gnu_none : (members : List MemberView) → refusal_of Gnu members ≡ None → nat_lt 0 (length (entries_of Gnu members)) ≡ false → linker_of (slice_get (parts_of Gnu members) 0) ≡ None
unfolding parts_of stored_linkers
gnu_none members accepted none =
    let data' = padded 0 (first_linker (places_of Gnu members) (entries_of Gnu members)) in
    let names = long_names Gnu members in
    let text = names_bytes Gnu names in
    let behind = map (stored_member names) members in
    ap (λ b. linker_of (slice_get ((if b then stored (codes "/") data' ∷ [] else []) ++ stored_names text ++ behind) 0)) none
    ∙ names_first text behind (members_first Gnu (text ++ []) names members (archive_named Gnu members [] accepted))

no_entries : (entries : List (List ℕ × ℕ)) → nat_lt 0 (length entries) ≡ false → entries ≡ []
no_entries [] none = refl
no_entries (e ∷ entries) none = absurd (true≢false (sym (lt-ltb 0 (length (e ∷ entries)) (omega arith)) ∙ none))

-- the entries that a search of the index goes through
abbrev pub shown_entries : Kind → List MemberView → List (List ℕ × ℕ)
shown_entries kind members = map (λ e. (e.0, place_of (places_of kind members) e.1)) (entries_of kind members)

-- what is needed to read the linker members
pub record AreReadable (kind : Kind) (members : List MemberView) : Type 0 where
  pub few : length (entries_of kind members) < 2 ^ 32
  pub near : (n : ℕ) → place_of (places_of kind members) n < 2 ^ 32
  pub texts : AreTexts (entries_of kind members)

header_there : (kind : Kind) (members : List MemberView) (symbol : List ℕ) → AreReadable kind members → linker_in 0 (archive_of kind members) ≡ Some (padded 0 (first_linker (places_of kind members) (entries_of kind members)))
    → header_for (archive_of kind members) symbol ≡ lookup (bytes_eq symbol) (shown_entries kind members)
unfolding header_for first_in
header_there kind members symbol r there = grind (arith, option_and_then, first_read)

-- a search by the first linker member is one through the entries
pub header_found : (kind : Kind) (members : List MemberView) (symbol : List ℕ) → refusal_of kind members ≡ None → AreReadable kind members
    → header_for (archive_of kind members) symbol ≡ lookup (bytes_eq symbol) (shown_entries kind members)
unfolding header_for first_in
header_found Coff members symbol accepted r = search (rules, header_there, linker_there, parts_read_back, coff_at_0)
header_found Gnu members symbol accepted r = by_test (nat_lt 0 (length (entries_of Gnu members))) refl
  where
    by_test : (b : Bool) → nat_lt 0 (length (entries_of Gnu members)) ≡ b → header_for (archive_of Gnu members) symbol ≡ lookup (bytes_eq symbol) (shown_entries Gnu members)
    by_test true some = search (rules, header_there, linker_there, parts_read_back, gnu_some)
    by_test false none =
        ap (λ l. option_and_then (lookup (bytes_eq symbol)) (option_map first_data l)) (linker_not (archive_of Gnu members) (parts_of Gnu members) (parts_read_back Gnu members accepted) (gnu_none members accepted none))
        ∙ sym (ap (λ es. lookup (bytes_eq symbol) (map (λ e. (e.0, place_of (places_of Gnu members) e.1)) es)) (no_entries (entries_of Gnu members) none))

-- the second linker member of an archive
pub second_found : (members : List MemberView) → refusal_of Coff members ≡ None → length (places_of Coff members) < 2 ^ 32 → AllByRecursion (λ n. n < 2 ^ 32) (places_of Coff members)
    → length (sorted_entries (entries_of Coff members)) < 2 ^ 32 → AllByRecursion (λ (e : List ℕ × ℕ). e.1 < 2 ^ 16) (sorted_entries (entries_of Coff members)) → AreTexts (sorted_entries (entries_of Coff members))
    → second_in (archive_of Coff members) ≡ Some (places_of Coff members, sorted_entries (entries_of Coff members))
unfolding second_in
second_found members accepted few near few_entries small none =
    let places = places_of Coff members in
    let sorted = sorted_entries (entries_of Coff members) in
    let data' = second_linker places sorted in
    ap (option_map second_data) (linker_there 1 (archive_of Coff members) (parts_of Coff members) (padded 0 data') (parts_read_back Coff members accepted) (coff_at_1 members))
    ∙ ap (λ t. Some t) (second_read places sorted (padding 0 (length data')) few near few_entries small none)
