-- Entries of indexes and the first linker member, as this reader and that of `implib_archive` have them.
use Rattle.std.proofs.Common.{◌≡◌, ◌∙◌, ℕ, zero, suc, ◌+◌, ◌*◌, ◌^◌, ◌<◌, ◌≤◌, Bool, true, false, not, List, [], ◌∷◌, ◌++◌, None, Some, ap, append_assoc, arith, drop, flat_map, if◌then◌else◌, length, length-append, map, nat_eq, refl, sym, take, take-take, take_while}
use Rattle.std.specs.Int.{from_be_bytes, from_le_bytes, w16, w32}
use Rattle.std.specs.Option.{option_and_then, option_map}
use Rattle.std.proofs.lemmas.Bool.{le-leb}
use Rattle.std.proofs.lemmas.List.{drop-take, drop_at, take_at}
use Rattle.std.proofs.lemmas.List.Sums.{take_while-cons}
use Rattle.std.proofs.lemmas.Nat.{from_be_bytes-to_be_bytes_4}
use Rattle.implib.specs.Formats.Object.{bytes_at, u16_at}
use Rattle.implib.specs.Formats.ShortImport.{text_in, text_longer}
use Rattle.implib_archive.specs.Archive.{first_linker, place_of, strings_of}
use Rattle.implib_archive.specs.Parts.{u32_be}
use Rattle.implib_archive.specs.Reader.{numbers_in, paired, texts_in}
use Rattle.implib_archive.proofs.FoundIndex.{first_data}
use Rattle.implib_archive.proofs.Sized.{length-first_linker, length-u32_be, length_fours}
use Rattle.implib_read.specs.Indexes.{IndexEntry, entries_behind, entries_from, first_index_in, place_in, place_size}
use Rattle.implib_compare.proofs.FirstEntries.{pair_of}

-- Texts that a NUL ends.

-- how many bytes are NUL
pub nuls : List ℕ → ℕ
nuls [] = 0
nuls (c ∷ bytes) = if nat_eq c 0 then suc (nuls bytes) else nuls bytes

nuls_both : (xs ys : List ℕ) → nuls (xs ++ ys) ≡ nuls xs + nuls ys
unfolding nuls
nuls_both [] ys = omega arith
nuls_both (x ∷ xs) ys = by (nat_eq x 0) (nuls_both xs ys)
  where
    by : (b : Bool) → nuls (xs ++ ys) ≡ nuls xs + nuls ys → (if b then suc (nuls (xs ++ ys)) else nuls (xs ++ ys)) ≡ (if b then suc (nuls xs) else nuls xs) + nuls ys
    by true rest = omega (arith, rest)
    by false rest = rest

-- the text at the front, as both readers have it
record HasText (symbols : List ℕ) : Type 0 where
  text : List ℕ
  rest : List ℕ
  is : text_in symbols ≡ Some (text, rest)
  before : take_while (λ c. not (nat_eq c 0)) symbols ≡ text
  behind : drop (length text + 1) symbols ≡ rest
  left : nuls symbols ≡ suc (nuls rest)

text_there : (symbols : List ℕ) → 0 < nuls symbols → HasText symbols
unfolding nuls
text_there [] some = absurd (omega (arith, some))
text_there (c ∷ symbols) some = by (nat_eq c 0) refl (text_there symbols)
  where
    by : (b : Bool) → nat_eq c 0 ≡ b → (0 < nuls symbols → HasText symbols) → HasText (c ∷ symbols)
    by true is longer_text = record {
      text = [];
      rest = symbols;
      is = ap (λ b. if b then Some ([], symbols) else text_longer c (text_in symbols)) is;
      before = take_while-cons (λ c. not (nat_eq c 0)) c symbols ∙ ap (λ b. if not b then c ∷ take_while (λ c. not (nat_eq c 0)) symbols else []) is;
      behind = refl;
      left = ap (λ b. if b then suc (nuls symbols) else nuls symbols) is;
    }
    by false is longer_text =
        let left = ap (λ b. if b then suc (nuls symbols) else nuls symbols) is in
        let more = longer_text (omega (arith, some, left)) in
        let longer : length (c ∷ more.text) + 1 ≡ suc (length more.text + 1) = omega arith in
        record {
          text = c ∷ more.text;
          rest = more.rest;
          is = ap (λ b. if b then Some ([], symbols) else text_longer c (text_in symbols)) is ∙ ap (text_longer c) more.is;
          before = take_while-cons (λ c. not (nat_eq c 0)) c symbols ∙ ap (λ b. if not b then c ∷ take_while (λ c. not (nat_eq c 0)) symbols else []) is ∙ ap (λ t. c ∷ t) more.before;
          behind = ap (λ n. drop n (c ∷ symbols)) longer ∙ more.behind;
          left = left ∙ more.left;
        }

-- the symbols of entries have as many NULs
pub strings_nuls : (entries : List (List ℕ × ℕ)) (rest : List ℕ) → length entries ≤ nuls (strings_of entries ++ rest)
unfolding strings_of nuls
strings_nuls [] rest = omega arith
strings_nuls (e ∷ entries) rest =
    let whole = ap nuls (append_assoc (e.0 ++ 0 ∷ []) (strings_of entries) rest) in
    let both = nuls_both (e.0 ++ 0 ∷ []) (strings_of entries ++ rest) in
    let one = nuls_both e.0 (0 ∷ []) in
    let rest' = strings_nuls entries rest in
    omega (arith, whole, both, one, rest')

-- Entries.

-- how a place is read, in the second index or in the first
abbrev pub read_of : Bool → List ℕ → ℕ
read_of true bytes = from_le_bytes w16 bytes
read_of false bytes = from_be_bytes w32 bytes

place_as : (second : Bool) (places : List ℕ) → place_in second places ≡ read_of second (take (place_size second) places)
unfolding u16_at
place_as true places = refl
place_as false places = refl

-- what both readers have of entries
pub record HaveEntries (second : Bool) (n : ℕ) (places symbols : List ℕ) : Type 0 where
  pub entries : List IndexEntry
  pub is : entries_from second n places symbols ≡ Some entries
  pub same : map pair_of entries ≡ paired (texts_in n symbols) (numbers_in (read_of second) (place_size second) n places)

pub entries_there : (second : Bool) (n : ℕ) (places symbols : List ℕ) → n ≤ nuls symbols → HaveEntries second n places symbols
unfolding entries_from texts_in numbers_in paired
entries_there second zero places symbols enough = record { entries = []; is = refl; same = refl }
entries_there second (suc n) places symbols enough =
    let t = text_there symbols (omega (arith, enough)) in
    let left = t.left in
    let size = place_size second in
    let later = drop size places in
    let more = entries_there second n later t.rest (omega (arith, enough, left)) in
    let place = place_in second places in
    let numbers = numbers_in (read_of second) size n later in
    let e : IndexEntry = record { symbol = t.text; place = place } in
    record {
      entries = e ∷ more.entries;
      is = ap (option_and_then (λ text. option_map (λ entries. record { symbol = text.0; place = place_in second places } ∷ entries) (entries_from second n later text.1))) t.is
          ∙ ap (option_map (λ entries. e ∷ entries)) more.is;
      same = ap (λ others. (t.text, place) ∷ others) more.same
          ∙ ap (λ p. (t.text, p) ∷ paired (texts_in n t.rest) numbers) (place_as second places)
          ∙ ap (λ r. (t.text, read_of second (take size places)) ∷ paired (texts_in n r) numbers) (sym t.behind)
          ∙ ap (λ x. (x, read_of second (take size places)) ∷ paired (texts_in n (drop (length x + 1) symbols)) numbers) (sym t.before);
    }

-- as many numbers as there are bytes for
pub taken : (size : ℕ) (longer : (n : ℕ) → size * suc n ≡ size + size * n) (read : List ℕ → ℕ) (n : ℕ) (bytes : List ℕ) → numbers_in read size n (take (size * n) bytes) ≡ numbers_in read size n bytes
unfolding numbers_in
taken size longer read zero bytes = refl
taken size longer read (suc n) bytes =
    ap (λ k. read (take size (take k bytes)) ∷ numbers_in read size n (drop size (take k bytes))) (longer n)
    ∙ ap (λ t. read t ∷ numbers_in read size n (drop size (take (size + size * n) bytes))) (take-take size (size + size * n) bytes (omega arith))
    ∙ ap (λ t. read (take size bytes) ∷ numbers_in read size n t) (drop-take size (size * n) bytes)
    ∙ ap (λ t. read (take size bytes) ∷ t) (taken size longer read n (drop size bytes))

-- The first linker member.

-- what both readers have of it
pub record HasIndex (bytes : List ℕ) : Type 0 where
  pub entries : List IndexEntry
  pub is : first_index_in bytes ≡ Some entries
  pub same : map pair_of entries ≡ first_data bytes

-- bytes that are there
pub there : (bytes : List ℕ) (offset count : ℕ) → offset + count ≤ length bytes → bytes_at bytes offset count ≡ Some (take count (drop offset bytes))
unfolding bytes_at
there bytes offset count enough = ap (λ b. if b then Some (take count (drop offset bytes)) else None) (le-leb (offset + count) (length bytes) enough)

pub index_there : (places : List ℕ) (entries : List (List ℕ × ℕ)) (pad : List ℕ) → length entries < 2 ^ 32 → HasIndex (first_linker places entries ++ pad)
unfolding first_index_in first_linker u32_be
index_there places entries pad few =
    let n = length entries in
    let count = u32_be n in
    let offsets = flat_map (λ (e : List ℕ × ℕ). u32_be (place_of places e.1)) entries in
    let strings = strings_of entries in
    let bytes = first_linker places entries ++ pad in
    let four = length-u32_be n in
    let long = length-append (first_linker places entries) pad in
    let size = length-first_linker places entries in
    let at_offsets : bytes ≡ count ++ (offsets ++ (strings ++ pad)) = append_assoc (count ++ offsets) strings pad ∙ append_assoc count offsets (strings ++ pad) in
    let counted : from_be_bytes w32 (take 4 bytes) ≡ n =
    ap (λ t. from_be_bytes w32 (take 4 t)) at_offsets ∙ (ap (from_be_bytes w32) (take_at count (offsets ++ (strings ++ pad)) 4 four) ∙ from_be_bytes-to_be_bytes_4 n few) in
    let again : from_be_bytes w32 (take 4 (take 4 bytes)) ≡ n = ap (from_be_bytes w32) (take-take 4 4 bytes (omega arith)) ∙ counted in
    let front : length (count ++ offsets) ≡ 4 + 4 * n = omega (arith, length-append count offsets, four, length_fours (λ (e : List ℕ × ℕ). u32_be (place_of places e.1)) (λ e. length-u32_be (place_of places e.1)) entries) in
    let found_strings : drop (4 + 4 * n) bytes ≡ strings ++ pad =
    ap (drop (4 + 4 * n)) (append_assoc (count ++ offsets) strings pad) ∙ drop_at (count ++ offsets) (strings ++ pad) (4 + 4 * n) front in
    let enough : n ≤ nuls (drop (4 + 4 * n) bytes) = omega (arith, ap nuls found_strings, strings_nuls entries pad) in
    let found = entries_there false n (take (4 * n) (drop 4 bytes)) (drop (4 + 4 * n) bytes) enough in
    record {
      entries = found.entries;
      is = ap (option_and_then (λ count. entries_behind false (from_be_bytes w32 (take 4 count)) 4 bytes)) (there bytes 0 4 (omega (arith, long, size)))
          ∙ ap (λ k. entries_behind false k 4 bytes) again
          ∙ ap (option_and_then (λ places. entries_from false n places (drop (4 + 4 * n) bytes))) (there bytes 4 (4 * n) (omega (arith, long, size)))
          ∙ found.is;
      same = found.same
          ∙ ap (paired (texts_in n (drop (4 + 4 * n) bytes))) (taken 4 (λ k. omega arith) (from_be_bytes w32) n (drop 4 bytes))
          ∙ sym (ap (λ k. paired (texts_in k (drop (4 + 4 * k) bytes)) (numbers_in (from_be_bytes w32) 4 k (drop 4 bytes))) counted);
    }
