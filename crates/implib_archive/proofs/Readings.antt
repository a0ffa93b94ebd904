-- A reader finds the parts of an archive.
use Rattle.std.proofs.Common.{◌≡◌, ℕ, zero, suc, ◌+◌, ◌-◌, ◌*◌, ◌/◌, ◌%◌, ◌^◌, ◌<◌, ◌≤◌, Bool, true, false, not, ◌&&◌, cond, List, [], ◌∷◌, ◌++◌, Some, None, bytes_eq, codes, decimal, drop, eq-eqb, flat_map, fold, if◌then◌else◌, length, map, nat_eq, option_and_then, replicate, take, take_while, unwrap_or, refl, sym, ap, ◌∙◌, append-nil, append_assoc, length-append, le-leb, arith}
use Rattle.std.specs.List.{list_all}
use Rattle.std.specs.Option.{option_map}
use Rattle.std.proofs.lemmas.Bool.{eqb-true, lt-ltb, true≢false}
use Rattle.std.proofs.lemmas.Fmt.{decimal_by_steps, decimal_nonempty, length-decimal-le}
use Rattle.std.proofs.lemmas.List.{drop_at, take_at}
use Rattle.std.proofs.lemmas.List.Folds.{list_all-append}
use Rattle.std.proofs.lemmas.List.Sums.{fold_push, take_while-cons}
use Rattle.implib.specs.Members.MemberSpec.{MemberView}
use Rattle.implib_archive.specs.Archive.{archive_of, entries_of, first_linker, front, front_of, linker_label, linkers, long_names, member_label, member_part, names_bytes, names_label, names_part, offset_of, places_of, second_linker, sorted_entries}
use Rattle.implib_archive.specs.Parts.{Label, field, header_bytes, padded_part_bytes, padding, part_bytes, signature}
use Rattle.implib_archive.specs.Pushed.{FrontFits}
use Rattle.implib_archive.specs.ReadBack.{PartsReadBack, padded, parts_of, stored, stored_linkers, stored_member, stored_names}
use Rattle.implib_archive.specs.Reader.{Stored, data_at, is_digit, number_in, stored_at, stored_from, stored_in}
use Rattle.implib_archive.specs.declared.kind.Kind.{Kind}
use Rattle.implib_archive.specs.declared.kind.Kind.TheVariants.{Coff, Gnu}
use Rattle.implib_archive.proofs.Sized.{length-first_linker, length-padding, length-second_linker}
use Rattle.implib_archive.proofs.Whole.{AreShort, LabelFits, accepted_parts, front_fits, length-field, length-header, linker_fits, member_fits, members_short, names_below, names_fit, offset_below}

and_both : (a b : Bool) → (a && b) ≡ true → (a ≡ true) × (b ≡ true)
and_both true b h = (refl, h)
and_both false b h = absurd (true≢false (sym h))

some_nonzero : (n : ℕ) → 0 < n → nat_eq n 0 ≡ false
some_nonzero n some = by_test (nat_eq n 0) refl
  where
    by_test : (b : Bool) → nat_eq n 0 ≡ b → nat_eq n 0 ≡ false
    by_test false is = is
    by_test true is = let e = eqb-true n 0 is in absurd (omega (arith, e, some))

regroup : (a b c d e f g : List ℕ) → a ++ b ++ c ++ d ++ e ++ f ++ g ≡ a ++ (b ++ (c ++ (d ++ (e ++ (f ++ g)))))
regroup a b c d e f g = simp append_assoc

-- Decimal numbers.

pub record IsRead (n : ℕ) (digits : List ℕ) : Type 0 where
  pub all : list_all is_digit digits ≡ true
  pub value : fold (λ n c. 10 * n + (c - 48)) 0 digits ≡ n

digit : (n : ℕ) → n < 10 → is_digit (48 + n) ≡ true
digit n small = rw (le-leb 48 (48 + n) (omega arith), le-leb (48 + n) 57 (omega (arith, small))) refl

read_one : (n : ℕ) → n < 10 → IsRead n ((48 + n) ∷ [])
read_one n small = record { all = ap (λ b. b && true) (digit n small); value = omega arith }

read_more : (n : ℕ) (digits : List ℕ) → 10 ≤ n → IsRead (n / 10) digits → IsRead n (digits ++ ((48 + n % 10) ∷ []))
read_more n digits large r = record {
  all = list_all-append is_digit digits ((48 + n % 10) ∷ []) ∙ ap (λ b. b && (is_digit (48 + n % 10) && true)) r.all ∙ ap (λ b. b && true) (digit (n % 10) (omega arith));
  value = fold_push (λ n c. 10 * n + (c - 48)) 0 digits (48 + n % 10) ∙ ap (λ k. 10 * k + ((48 + n % 10) - 48)) r.value ∙ omega arith;
}

pub read_decimal : (n : ℕ) → n < 2 ^ 64 → IsRead n (decimal n)
read_decimal n small = decimal_by_steps IsRead read_one read_more n small

spaces_only : (k : ℕ) → list_all (λ c. nat_eq c 32) (replicate k 32) ≡ true
spaces_only zero = refl
spaces_only (suc k) = spaces_only k

no_digit : (k : ℕ) → take_while is_digit (replicate k 32) ≡ []
no_digit zero = refl
no_digit (suc k) = take_while-cons is_digit 32 (replicate k 32)

digits_first : (digits : List ℕ) (k : ℕ) → list_all is_digit digits ≡ true → take_while is_digit (digits ++ replicate k 32) ≡ digits
digits_first [] k all = no_digit k
digits_first (d ∷ digits) k all =
    let both = and_both (is_digit d) (list_all is_digit digits) all in
    take_while-cons is_digit d (digits ++ replicate k 32) ∙ ap (λ b. cond b (d ∷ take_while is_digit (digits ++ replicate k 32)) []) both.0
    ∙ ap (λ t. d ∷ t) (digits_first digits k both.1)

-- a number at the left of a field
pub number_read : (width n : ℕ) → n < 2 ^ 64 → number_in (field width (decimal n)) ≡ Some n
unfolding number_in field
number_read width n small =
    let ds = decimal n in
    let k = width - length ds in
    let r = read_decimal n small in
    let first = digits_first ds k r.all in
    ap (λ t. if not (nat_eq (length t) 0) && list_all (λ c. nat_eq c 32) (drop (length t) (ds ++ replicate k 32)) then Some (fold (λ n c. 10 * n + (c - 48)) 0 t) else None) first
    ∙ (ap (λ t. if not (nat_eq (length ds) 0) && list_all (λ c. nat_eq c 32) t then Some (fold (λ n c. 10 * n + (c - 48)) 0 ds) else None) (drop_at ds (replicate k 32) (length ds) refl)
    ∙ (ap (λ b. if not (nat_eq (length ds) 0) && b then Some (fold (λ n c. 10 * n + (c - 48)) 0 ds) else None) (spaces_only k)
    ∙ (ap (λ b. if not b && true then Some (fold (λ n c. 10 * n + (c - 48)) 0 ds) else None) (some_nonzero (length ds) (decimal_nonempty n small))
    ∙ ap (λ v. Some v) r.value)))

-- Headers and data.

data_here : (front chunk rest : List ℕ) (offset size : ℕ) → length front ≡ offset → length chunk ≡ size → data_at (front ++ (chunk ++ rest)) offset size ≡ Some chunk
unfolding data_at
data_here front chunk rest offset size f c =
    let found : take size (drop offset (front ++ (chunk ++ rest))) ≡ chunk = ap (take size) (drop_at front (chunk ++ rest) offset f) ∙ take_at chunk rest size c in
    ap (λ t. if nat_eq (length t) size then Some t else None) found ∙ ap (λ b. if b then Some chunk else None) (eq-eqb (length chunk) size c)

-- a header and data at the start of some bytes
pub stored_here : (l : Label) (contents rest : List ℕ) → LabelFits l → length contents < 2 ^ 33 → stored_at (header_bytes l (length contents) ++ (contents ++ rest)) 0 ≡ Some (stored l.name contents)
unfolding stored_at header_bytes
stored_here l contents rest fits short =
    let size = length contents in
    let name = field 16 l.name in
    let date = field 12 l.date in
    let owner = field 6 l.owner in
    let mode = field 8 l.mode in
    let digits = field 10 (decimal size) in
    let end' : List ℕ = 96 ∷ 10 ∷ [] in
    let before = name ++ date ++ owner ++ owner ++ mode in
    let header = before ++ digits ++ end' in
    let small : size < 2 ^ 64 = omega (arith, short) in
    let fit : size < 10 ^ 10 = omega (arith, short) in
    let a = length-field 16 l.name fits.name in
    let b = length-field 12 l.date fits.date in
    let c = length-field 6 l.owner fits.owner in
    let d = length-field 8 l.mode fits.mode in
    let e = length-field 10 (decimal size) (length-decimal-le 10 size (omega arith) fit small) in
    let n48 : length before ≡ 48 = omega (arith, length-append (name ++ date ++ owner ++ owner) mode, length-append (name ++ date ++ owner) owner, length-append (name ++ date) owner, length-append name date, a, b, c, d) in
    let n58 : length (before ++ digits) ≡ 58 = omega (arith, length-append before digits, n48, e) in
    let n60 : length header ≡ 60 = omega (arith, length-append (before ++ digits) end', n58) in
    let whole = data_here [] header (contents ++ rest) 0 60 refl n60 in
    let ends : drop 58 header ≡ end' = drop_at (before ++ digits) end' 58 n58 in
    let sized : take 10 (drop 48 header) ≡ digits = ap (λ t. take 10 (drop 48 t)) (append_assoc before digits end') ∙ ap (take 10) (drop_at before (digits ++ end') 48 n48) ∙ take_at digits end' 10 e in
    let named : take 16 header ≡ name = ap (take 16) (regroup name date owner owner mode digits end') ∙ take_at name (date ++ (owner ++ (owner ++ (mode ++ (digits ++ end'))))) 16 a in
    let bytes = header ++ (contents ++ rest) in
    let inside = data_here header contents rest 60 size n60 refl in
    ap (λ r. option_and_then (λ h. if bytes_eq (drop 58 h) end' then option_and_then (λ s. option_map (λ found. record { field = take 16 h; contents = found }) (data_at bytes 60 s)) (number_in (take 10 (drop 48 h))) else None) r) whole
    ∙ (ap (λ t. if bytes_eq t end' then option_and_then (λ s. option_map (λ found. record { field = take 16 header; contents = found }) (data_at bytes 60 s)) (number_in (take 10 (drop 48 header))) else None) ends
    ∙ (ap (λ r. option_and_then (λ s. option_map (λ found. record { field = take 16 header; contents = found }) (data_at bytes 60 s)) r) (ap number_in sized ∙ number_read 10 size small)
    ∙ (ap (option_map (λ found. record { field = take 16 header; contents = found })) inside ∙ ap (λ t. Some (record { field = t; contents = contents })) named)))

-- The walk over the parts.

passed : (xs rest : List ℕ) → stored_from (length xs) (xs ++ rest) ≡ stored_from 0 rest
unfolding stored_from
passed [] rest = refl
passed (x ∷ xs) rest = passed xs rest

walked : (part rest : List ℕ) (s : Stored) → length part ≡ 60 + length s.contents + length s.contents % 2 → stored_at (part ++ rest) 0 ≡ Some s → stored_from 0 (part ++ rest) ≡ option_map (λ others. s ∷ others) (stored_from 0 rest)
unfolding stored_from
walked [] rest s long at = absurd (omega (arith, long))
walked (x ∷ part) rest s long at =
    let left : 59 + length s.contents + length s.contents % 2 ≡ length part = omega (arith, long) in
    ap (λ r. option_and_then (λ p. option_map (λ others. p ∷ others) (stored_from (59 + length p.contents + length p.contents % 2) (part ++ rest))) r) at
    ∙ (ap (λ n. option_map (λ others. s ∷ others) (stored_from n (part ++ rest))) left ∙ ap (option_map (λ others. s ∷ others)) (passed part rest))

-- a part is found, and those after it
stored_part : (l : Label) (contents pad rest : List ℕ) → LabelFits l → length contents < 2 ^ 33 → length pad ≡ length contents % 2
    → stored_from 0 ((header_bytes l (length contents) ++ contents ++ pad) ++ rest) ≡ option_map (λ others. stored l.name contents ∷ others) (stored_from 0 rest)
stored_part l contents pad rest fits short p =
    let header = header_bytes l (length contents) in
    walked (header ++ contents ++ pad) rest (stored l.name contents) (omega (arith, length-append (header ++ contents) pad, length-append header contents, length-header l (length contents) fits short, p))
    (ap (λ t. stored_at t 0) (append_assoc (header ++ contents) pad rest ∙ append_assoc header contents (pad ++ rest)) ∙ stored_here l contents (pad ++ rest) fits short)

pub stored_odd : (l : Label) (contents rest : List ℕ) → LabelFits l → length contents < 2 ^ 32 → stored_from 0 (part_bytes l contents ++ rest) ≡ option_map (λ others. stored l.name contents ∷ others) (stored_from 0 rest)
unfolding part_bytes
stored_odd l contents rest fits short = stored_part l contents (padding 10 (length contents)) rest fits (omega (arith, short)) (length-padding 10 (length contents))

pub stored_padded : (l : Label) (byte : ℕ) (contents rest : List ℕ) → LabelFits l → length contents < 2 ^ 32 → stored_from 0 (padded_part_bytes l byte contents ++ rest) ≡ option_map (λ others. stored l.name (padded byte contents) ∷ others) (stored_from 0 rest)
unfolding padded_part_bytes
stored_padded l byte contents rest fits short =
    let data' = padded byte contents in
    let long : length data' ≡ length contents + length contents % 2 = length-append contents (padding byte (length contents)) ∙ ap (λ n. length contents + n) (length-padding byte (length contents)) in
    let even : 0 ≡ length data' % 2 = omega (arith, long) in
    ap (λ t. stored_from 0 (t ++ rest)) (sym (append-nil (header_bytes l (length data') ++ data')))
    ∙ stored_part l data' [] rest fits (omega (arith, long, short)) even

-- The parts of an archive.

pub stored_members : (names : List (List ℕ × ℕ)) → ((name : List ℕ) → unwrap_or (offset_of names name) 0 < 2 ^ 32) → (members : List MemberView) → AreShort members
    → stored_from 0 (flat_map (member_part names) members) ≡ Some (map (stored_member names) members)
unfolding member_part stored_from member_label
stored_members names near [] short = refl
stored_members names near (m ∷ members) short =
    stored_odd (member_label names m.name) m.bytes (flat_map (member_part names) members) (member_fits names m.name (near m.name)) short.0
    ∙ ap (option_map (λ others. stored_member names m ∷ others)) (stored_members names near members short.1)

pub named_parts : (names rest : List ℕ) (others : List Stored) → length names < 2 ^ 32 → stored_from 0 rest ≡ Some others → stored_from 0 (names_part names ++ rest) ≡ Some (stored_names names ++ others)
unfolding names_part stored_names names_label
named_parts [] rest others short found = found
named_parts (c ∷ names) rest others short found =
    let some = lt-ltb 0 (length (c ∷ names)) (omega arith) in
    ap (λ b. stored_from 0 ((if b then padded_part_bytes names_label 10 (c ∷ names) else []) ++ rest)) some
    ∙ (stored_padded names_label 10 (c ∷ names) rest names_fit short ∙ ap (option_map (λ o. stored (codes "//") (padded 10 (c ∷ names)) ∷ o)) found)
    ∙ sym (ap (λ b. Some ((if b then stored (codes "//") (padded 10 (c ∷ names)) ∷ [] else []) ++ others)) some)

pub linker_parts : (kind : Kind) (places : List ℕ) (entries : List (List ℕ × ℕ)) (rest : List ℕ) (others : List Stored) → FrontFits kind places entries → stored_from 0 rest ≡ Some others
    → stored_from 0 (linkers kind places entries ++ rest) ≡ Some (stored_linkers kind places entries ++ others)
unfolding linkers stored_linkers linker_label
linker_parts Coff places entries rest others fits found =
    let one = first_linker places entries in
    let two = second_linker places (sorted_entries entries) in
    let second = stored_padded linker_label 0 two rest linker_fits (omega (arith, length-second_linker places (sorted_entries entries), fits.second_short refl))
    ∙ ap (option_map (λ o. stored (codes "/") (padded 0 two) ∷ o)) found in
    ap (stored_from 0) (append_assoc (padded_part_bytes linker_label 0 one) (padded_part_bytes linker_label 0 two) rest)
    ∙ (stored_padded linker_label 0 one (padded_part_bytes linker_label 0 two ++ rest) linker_fits (omega (arith, length-first_linker places entries, fits.short))
    ∙ ap (option_map (λ o. stored (codes "/") (padded 0 one) ∷ o)) second)
linker_parts Gnu places [] rest others fits found = found
linker_parts Gnu places (e ∷ entries) rest others fits found =
    let some = lt-ltb 0 (length (e ∷ entries)) (omega arith) in
    let one = first_linker places (e ∷ entries) in
    ap (λ b. stored_from 0 ((if b then padded_part_bytes linker_label 0 one else []) ++ rest)) some
    ∙ (stored_padded linker_label 0 one rest linker_fits (omega (arith, length-first_linker places (e ∷ entries), fits.short)) ∙ ap (option_map (λ o. stored (codes "/") (padded 0 one) ∷ o)) found)
    ∙ sym (ap (λ b. Some ((if b then stored (codes "/") (padded 0 one) ∷ [] else []) ++ others)) some)

pub parts_read_back : PartsReadBack
unfolding stored_in parts_of archive_of front_of front signature
parts_read_back kind members accepted =
    let names = long_names kind members in
    let text = names_bytes kind names in
    let below = names_below kind members accepted in
    let near : (name : List ℕ) → unwrap_or (offset_of names name) 0 < 2 ^ 32 = λ name. omega (arith, below, offset_below kind members name) in
    let places = places_of kind members in
    let entries = entries_of kind members in
    let parts = flat_map (member_part names) members in
    let found = stored_members names near members (members_short kind members (accepted_parts kind members accepted).none) in
    let named = named_parts text parts (map (stored_member names) members) below found in
    let all = linker_parts kind places entries (names_part text ++ parts) (stored_names text ++ map (stored_member names) members) (front_fits kind members accepted) named in
    ap (stored_from 0) (append_assoc (linkers kind places entries) (names_part text) parts)
    ∙ all ∙ ap (λ t. Some t) (sym (append_assoc (stored_linkers kind places entries) (stored_names text) (map (stored_member names) members)))
