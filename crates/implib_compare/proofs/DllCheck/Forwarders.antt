-- Texts of forwarders, from their ends, and what is known of DLLs.
use Rattle.std.proofs.Common.{◌≡◌, ◌∙◌, ℕ, zero, suc, ◌+◌, ◌-◌, ◌%◌, ◌^◌, ◌<◌, ◌≤◌, ◌||◌, Bool, true, false, cond, List, [], ◌∷◌, Option, None, Some, add-one, ap, arith, bytes_eq, drop, drop-cons, fold, get_or, length, nat_eq, refl, subst, sym, take, take_while}
use Rattle.std.proofs.lemmas.Grind.{common_steps}
use Rattle.std.proofs.lemmas.Bool.{ne_eqb}
use Rattle.std.specs.List.{list_any, prefix_len}
use Rattle.std.specs.Option.{option_and_then, option_map, option_map_or}
use Rattle.implib_compare.specs.DllCheck.DllName.{loader_name}
use Rattle.implib_compare.specs.DllCheck.Forwarding.{Beside, Content, End, Holds, Stops, Step, On, Ends, end_by, end_of, end_of_member, ends, forwarder_of, in_content, in_known, is_digit, is_unknown, known_by, longer, most_forwarders, next_step, split_last, then_on, with_digit}
use Rattle.implib_compare.specs.DllCheck.Imports.{import_in, is_of_data}
use Rattle.implib_compare.specs.DllCheck.Laws.{Extends, KnownDllsDecide}
use Rattle.implib_compare.specs.declared.dll_check.forwarder.Stop.TheVariants as stop
use Rattle.implib_read.specs.Classes.{Imported, MemberRead}

-- no full stop is behind the end of a text
pub split_past : (text : List ℕ) (i : ℕ) → length text ≤ i → split_last (drop i text) ≡ None
unfolding split_last
split_past [] zero past = refl
split_past [] (suc i) past = refl
split_past (byte ∷ text) zero past = absurd (omega (arith, past))
split_past (byte ∷ text) (suc i) past = split_past text i (omega (arith, past))

-- a full stop behind which there is none is the last one
pub split_here : (text : List ℕ) (i : ℕ) → i < length text → get_or text i 0 ≡ 0x2E → split_last (drop (suc i) text) ≡ None
    → split_last text ≡ Some (take i text, drop (suc i) text)
unfolding split_last
split_here [] i low is none = absurd (omega (arith, low))
split_here (byte ∷ text) zero low is none =
    ap (λ parts. option_map_or (λ p. Some (longer byte p)) parts (cond (nat_eq byte 0x2E) (Some ([], text)) None)) none
    ∙ ap (λ (b : ℕ). cond (nat_eq b 0x2E) (Some ([], text)) None) is
split_here (byte ∷ text) (suc i) low is none =
    ap (λ parts. option_map_or (λ p. Some (longer byte p)) parts (cond (nat_eq byte 0x2E) (Some ([], text)) None))
    (split_here text i (omega (arith, low)) is none)

pub split_none : (byte : ℕ) (back : List ℕ) → nat_eq byte 0x2E ≡ false → split_last back ≡ None → split_last (byte ∷ back) ≡ None
unfolding split_last
split_none byte back other none =
    ap (λ parts. option_map_or (λ p. Some (longer byte p)) parts (cond (nat_eq byte 0x2E) (Some ([], back)) None)) none
    ∙ ap (λ b. cond b (Some ([], back)) None) other

pub split_before : (text : List ℕ) (e : ℕ) → 0 < e → e ≤ length text → (get_or text (e - 1) 0 ≡ 0x2E → ⊥) → split_last (drop e text) ≡ None
    → split_last (drop (e - 1) text) ≡ None
split_before text e some within other none =
    let one : e ≡ suc (e - 1) = omega (arith, some) in
    let low : e - 1 < length text = omega (arith, some, within) in
    let P : ℕ → Type 0 = λ n. split_last (drop n text) ≡ None in
    rw (drop-cons text (e - 1) 0)
    (split_none (get_or text (e - 1) 0) (drop (suc (e - 1)) text) (ne_eqb (get_or text (e - 1) 0) 0x2E other) (subst P one none))

-- the parts of a text at a place, as they are sliced
range_end : (text : List ℕ) (k : ℕ) → take (length text - k) (drop k text) ≡ drop k text
range_end text k = grind (arith, common_steps)

pub split_found : (text : List ℕ) (e : ℕ) → 0 < e → e ≤ length text → get_or text (e - 1) 0 ≡ 0x2E → split_last (drop e text) ≡ None
    → Some (take (e - 1) text, take (length text - (e - 1 + 1)) (drop (e - 1 + 1) text)) ≡ split_last text
split_found text e some within is none =
    let one : e ≡ suc (e - 1) = omega (arith, some) in
    let two : e - 1 + 1 ≡ suc (e - 1) = omega arith in
    let low : e - 1 < length text = omega (arith, some, within) in
    let P : ℕ → Type 0 = λ n. split_last (drop n text) ≡ None in
    ap (λ (back : List ℕ). Some (take (e - 1) text, back)) (range_end text (e - 1 + 1) ∙ ap (λ (n : ℕ). drop n text) two)
    ∙ sym (split_here text (e - 1) low is (subst P one none))

-- numbers that are the same modulo 2^32 are so behind further digits, and have the same export
pub digits_same : (digits : List ℕ) (a b : ℕ) → a % 2 ^ 32 ≡ b % 2 ^ 32
    → fold with_digit a digits % 2 ^ 32 ≡ fold with_digit b digits % 2 ^ 32
digits_same [] a b same = same
digits_same (digit ∷ digits) a b same =
    digits_same digits (with_digit a digit) (with_digit b digit) (omega (arith, same))

-- one more digit
pub number_more : (text : List ℕ) (i number next whole : ℕ) → i < length text → is_digit (get_or text i 0) ≡ true
    → next % 2 ^ 32 ≡ with_digit number (get_or text i 0) % 2 ^ 32
    → fold with_digit number (take_while is_digit (drop i text)) % 2 ^ 32 ≡ whole
    → fold with_digit next (take_while is_digit (drop (i + 1) text)) % 2 ^ 32 ≡ whole
number_more text i number next whole low digit same is =
    let back : List ℕ = drop (suc i) text in
    let rest : List ℕ = take_while is_digit back in
    let count : ℕ = prefix_len is_digit back in
    let more : 1 + count ≡ suc count = omega arith in
    let cut : take_while is_digit (drop i text) ≡ get_or text i 0 ∷ rest =
    rw (drop-cons text i 0) (ap (λ (b : Bool). take (cond b (1 + count) 0) (get_or text i 0 ∷ back)) digit
    ∙ ap (λ (n : ℕ). take n (get_or text i 0 ∷ back)) more) in
    rw add-one (digits_same rest next (with_digit number (get_or text i 0)) same
    ∙ (ap (λ (d : List ℕ). fold with_digit number d % 2 ^ 32) (sym cut) ∙ is))

-- a forwarder that is followed: to another one, to an end, or no further
pub followed_on : (left : ℕ) (known : List ℕ → Option Content) (machine : ℕ) (is_data : Bool) (text next : List ℕ) (whole : End) → 0 < left
    → next_step known machine is_data text ≡ On next → end_by left known machine is_data text ≡ whole
    → end_by (left - 1) known machine is_data next ≡ whole
unfolding end_by
followed_on zero known machine is_data text next whole some is whole-is = absurd (omega (arith, some))
followed_on (suc n) known machine is_data text next whole some is whole-is =
    let less : suc n - 1 ≡ n = omega arith in
    rw less (sym (ap (λ s. then_on (λ last. end_by n known machine is_data last) s) is) ∙ whole-is)

pub followed_end : (left : ℕ) (known : List ℕ → Option Content) (machine : ℕ) (is_data : Bool) (text : List ℕ) (end whole : End) → 0 < left
    → next_step known machine is_data text ≡ Ends end → end_by left known machine is_data text ≡ whole → end ≡ whole
unfolding end_by
followed_end zero known machine is_data text end whole some is whole-is = absurd (omega (arith, some))
followed_end (suc n) known machine is_data text end whole some is whole-is =
    sym (ap (λ s. then_on (λ last. end_by n known machine is_data last) s) is) ∙ whole-is

pub followed_all : (left : ℕ) (known : List ℕ → Option Content) (machine : ℕ) (is_data : Bool) (text : List ℕ) (whole : End) → left ≤ 0
    → end_by left known machine is_data text ≡ whole → Stops text stop.Endless ≡ whole
unfolding end_by
followed_all zero known machine is_data text whole none whole-is = whole-is
followed_all (suc n) known machine is_data text whole none whole-is = absurd (omega (arith, none))

-- what is known of all DLLs beside one, where more is known of others
pub extends_beside : (b : Beside) (more : List ℕ → Option Content) → Extends b.others more → Extends (known_by b) (known_by (record b { others = more }))
extends_beside b more extends name content = by (list_any (λ one. bytes_eq name one) b.names)
  where
    by : (own : Bool) → cond own (Some (Holds b.exports)) (b.others name) ≡ Some content → cond own (Some (Holds b.exports)) (more name) ≡ Some content
    by true is = is
    by false is = extends name content is

-- a forwarder that leads to an end leads there where more is known
pub decided : (n : ℕ) (known more : List ℕ → Option Content) (machine : ℕ) (is_data : Bool) (text : List ℕ) → Extends known more
    → is_unknown (Some (end_by n known machine is_data text)) ≡ false
    → end_by n more machine is_data text ≡ end_by n known machine is_data text
unfolding end_by
decided zero known more machine is_data text extends kept = refl
decided (suc n) known more machine is_data text extends kept =
    by (decided n known more machine is_data) (split_last text) kept
  where
    at : ((next : List ℕ) → Extends known more → is_unknown (Some (end_by n known machine is_data next)) ≡ false
        → end_by n more machine is_data next ≡ end_by n known machine is_data next)
        → (s : Step) → is_unknown (Some (then_on (λ next. end_by n known machine is_data next) s)) ≡ false
        → then_on (λ next. end_by n more machine is_data next) s ≡ then_on (λ next. end_by n known machine is_data next) s
    at later (On next) kept = later next extends kept
    at later (Ends end) kept = refl

    in_dll : ((next : List ℕ) → Extends known more → is_unknown (Some (end_by n known machine is_data next)) ≡ false
        → end_by n more machine is_data next ≡ end_by n known machine is_data next)
        → (parts : List ℕ × List ℕ) (c : Option Content) → ((content : Content) → c ≡ Some content → more (loader_name parts.0) ≡ Some content)
        → is_unknown (Some (then_on (λ next. end_by n known machine is_data next) (in_content machine is_data text parts c))) ≡ false
        → then_on (λ next. end_by n more machine is_data next) (in_content machine is_data text parts (more (loader_name parts.0)))
        ≡ then_on (λ next. end_by n known machine is_data next) (in_content machine is_data text parts c)
    in_dll later parts None same kept = absurd cc
    in_dll later parts (Some content) same kept =
        ap (λ found. then_on (λ next. end_by n more machine is_data next) (in_content machine is_data text parts found)) (same content refl)
        ∙ at later (in_known machine is_data text parts.1 content) kept

    by : ((next : List ℕ) → Extends known more → is_unknown (Some (end_by n known machine is_data next)) ≡ false
        → end_by n more machine is_data next ≡ end_by n known machine is_data next)
        → (parts : Option (List ℕ × List ℕ))
        → is_unknown (Some (then_on (λ next. end_by n known machine is_data next)
        (option_map_or (λ p. in_content machine is_data text p (known (loader_name p.0))) parts (Ends (Stops text stop.NoFullStop))))) ≡ false
        → then_on (λ next. end_by n more machine is_data next)
        (option_map_or (λ p. in_content machine is_data text p (more (loader_name p.0))) parts (Ends (Stops text stop.NoFullStop)))
        ≡ then_on (λ next. end_by n known machine is_data next)
        (option_map_or (λ p. in_content machine is_data text p (known (loader_name p.0))) parts (Ends (Stops text stop.NoFullStop)))
    by later None kept = refl
    by later (Some parts) kept =
        in_dll later parts (known (loader_name parts.0)) (λ content is. extends (loader_name parts.0) content is) kept

-- so do those of imports and of members
import_decided : (b : Beside) (more : List ℕ → Option Content) (i : Imported) → Extends b.others more
    → is_unknown (end_of b i) ≡ false → end_of (record b { others = more }) i ≡ end_of b i
import_decided b more i extends = by (forwarder_of b.exports b.names i)
  where
    by : (f : Option (List ℕ))
        → is_unknown (option_map (λ text. end_by most_forwarders (known_by b) b.exports.machine (is_of_data i.kind) text) f) ≡ false
        → option_map (λ text. end_by most_forwarders (known_by (record b { others = more })) b.exports.machine (is_of_data i.kind) text) f
        ≡ option_map (λ text. end_by most_forwarders (known_by b) b.exports.machine (is_of_data i.kind) text) f
    by None kept = refl
    by (Some text) kept =
        ap Some (decided most_forwarders (known_by b) (known_by (record b { others = more })) b.exports.machine (is_of_data i.kind) text
        (extends_beside b more extends) kept)

member_decided : (b : Beside) (more : List ℕ → Option Content) (m : MemberRead) → Extends b.others more
    → is_unknown (end_of_member b m) ≡ false → end_of_member (record b { others = more }) m ≡ end_of_member b m
member_decided b more m extends = by (import_in m.class)
  where
    by : (i : Option Imported) → is_unknown (option_and_then (end_of b) i) ≡ false
        → option_and_then (end_of (record b { others = more })) i ≡ option_and_then (end_of b) i
    by None kept = refl
    by (Some i) kept = import_decided b more i extends kept

pub ends_decided : KnownDllsDecide
ends_decided b more [] extends kept = refl
ends_decided b more (m ∷ members) extends kept =
    let apart = or_none (is_unknown (end_of_member b m)) (list_any is_unknown (ends b members)) kept in
    ap (λ end. end ∷ ends (record b { others = more }) members) (member_decided b more m extends apart.0)
    ∙ ap (λ later. end_of_member b m ∷ later) (ends_decided b more members extends apart.1)
  where
    or_none : (x y : Bool) → (x || y) ≡ false → (x ≡ false) × (y ≡ false)
    or_none true y is = absurd cc
    or_none false y is = (refl, is)
