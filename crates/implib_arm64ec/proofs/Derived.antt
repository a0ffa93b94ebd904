-- What is read is what is derived.
use Rattle.std.proofs.Common.{◌≡◌, ℕ, suc, List, [], ◌∷◌, ◌++◌, length, take, drop, refl, sym, ap, subst, Some, None, Option, arith, ◌∙◌}
use Rattle.std.proofs.lemmas.List.{take-append-drop}
use Rattle.implib_arm64ec.specs.Grammar.{next}
use Rattle.implib_arm64ec.specs.Reading.{Byte, Derives, DerivesBefore, Nothing, one_more, read}
use Rattle.implib_arm64ec.specs.declared.nonterminal.Nonterminal.{Nonterminal}
use Rattle.implib_arm64ec.specs.declared.reading.Reading.{Reading}
use Rattle.implib_arm64ec.specs.declared.reading.Reading.TheVariants.{Ends, Stops}
use Rattle.implib_arm64ec.proofs.Read.{read_byte, read_none, read_other, read_past}

pub derived_read : (parts : List Nonterminal) (text rest : List ℕ) → Derives parts text → read parts (text ++ rest) ≡ Ends (length text)
derived_read [] [] rest Nothing = read_none rest
derived_read [] (b ∷ text) rest d = elim d [ ]
derived_read (part ∷ parts) [] rest d = elim d [ ]
derived_read (part ∷ parts) (b ∷ text) rest (Byte {begun = begun} begins later) =
    read_byte part parts begun b (text ++ rest) begins ∙ ap one_more (derived_read (begun ++ parts) text rest later)

derives_later : (part : Nonterminal) (parts begun : List Nonterminal) (b : ℕ) (text : List ℕ) (r : Reading) (place : ℕ)
    → next part b ≡ Some begun → ((p : ℕ) → r ≡ Ends p → DerivesBefore (begun ++ parts) text p)
    → one_more r ≡ Ends place → DerivesBefore (part ∷ parts) (b ∷ text) place
derives_later part parts begun b text (Stops p) place begins rest e = absurd (cc)
derives_later part parts begun b text (Ends p) place begins rest e =
    let same : suc p ≡ place = cc in
    let before = rest p refl in
    subst (λ (q : ℕ). DerivesBefore (part ∷ parts) (b ∷ text) q) same
    (record { within = omega (arith, before.within); derived = Byte begins before.derived })

derives_begun : (part : Nonterminal) (parts : List Nonterminal) (b : ℕ) (text : List ℕ) (place : ℕ) (begun : Option (List Nonterminal))
    → next part b ≡ begun → ((all : List Nonterminal) (p : ℕ) → read all text ≡ Ends p → DerivesBefore all text p)
    → read (part ∷ parts) (b ∷ text) ≡ Ends place → DerivesBefore (part ∷ parts) (b ∷ text) place
derives_begun part parts b text place None n rest e =
    absurd (let stops : Stops 0 ≡ Ends place = sym (read_other part parts b text n) ∙ e in cc)
derives_begun part parts b text place (Some all) n rest e =
    derives_later part parts all b text (read (all ++ parts) text) place n (rest (all ++ parts))
    (sym (read_byte part parts all b text n) ∙ e)

nothing_before : (text : List ℕ) → DerivesBefore [] text 0
nothing_before text = record { within = omega arith; derived = Nothing }

pub read_derives : (text : List ℕ) (parts : List Nonterminal) (place : ℕ) → read parts text ≡ Ends place → DerivesBefore parts text place
read_derives text [] place e =
    let ends : Ends 0 ≡ Ends place = sym (read_none text) ∙ e in
    let same : 0 ≡ place = cc in
    subst (λ (q : ℕ). DerivesBefore [] text q) same (nothing_before text)
read_derives [] (part ∷ parts) place e = absurd (let stops : Stops 0 ≡ Ends place = sym (read_past part parts) ∙ e in cc)
read_derives (b ∷ text) (part ∷ parts) place e = derives_begun part parts b text place (next part b) refl (read_derives text) e

pub stops_derives_none : (text : List ℕ) (parts : List Nonterminal) (place : ℕ) → read parts text ≡ Stops place
    → (other : ℕ) → DerivesBefore parts text other → ⊥
stops_derives_none text parts place e other before =
    let whole : read parts (take other text ++ drop other text) ≡ Ends (length (take other text)) =
    derived_read parts (take other text) (drop other text) before.derived in
    let ends : Stops place ≡ Ends (length (take other text)) = sym e ∙ rw take-append-drop at whole in
    cc
