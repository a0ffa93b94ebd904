-- The first entry of each symbol.
use Rattle.std.proofs.Common.{◌≡◌, ◌∙◌, ℕ, Bool, true, false, not, ◌||◌, cond, List, [], ◌∷◌, ◌++◌, Option, None, Some, ap, append-nil, append_assoc, bytes_eq, fold, if◌then◌else◌, map, refl, subst, sym}
use Rattle.std.proofs.Common.{Bor}
use Rattle.std.specs.List.{AllByRecursion, cons_option, list_any}
use Rattle.std.specs.Map.{lookup}
use Rattle.std.proofs.lemmas.Bool.{eq-eqb, true≢false}
use Rattle.std.proofs.lemmas.Slice.Eq.{bytes_eq-Decides}
use Rattle.implib_read.specs.Indexes.{IndexEntry}
use Rattle.implib_read.specs.Leads.{unless_at, wrong_entries}
use Rattle.implib_compare.specs.Working.{first_entries, with_first}

-- a set of borrowed texts, and entries that have them as their symbols
pub any_symbol : (text : List ℕ) (keys : List (Bor (List ℕ))) (entries : List IndexEntry) → map (λ k. k.now) keys ≡ map (λ e. e.symbol) entries
    → list_any (λ k. bytes_eq text k.now) keys ≡ list_any (λ f. bytes_eq text f.symbol) entries
any_symbol text [] [] same = refl
any_symbol text [] (e ∷ entries) same = cc
any_symbol text (k ∷ keys) [] same = cc
any_symbol text (k ∷ keys) (e ∷ entries) same =
    let first : k.now ≡ e.symbol = cc in
    let rest : map (λ k. k.now) keys ≡ map (λ e. e.symbol) entries = cc in
    ap (λ t. bytes_eq text t || list_any (λ k. bytes_eq text k.now) keys) first
    ∙ ap (λ b. bytes_eq text e.symbol || b) (any_symbol text keys entries rest)

pub was_listed : (added listed : Bool) → added ≡ not listed → added ≡ false → listed ≡ true
was_listed added true is none = refl
was_listed added false is none = absurd (true≢false (sym is ∙ none))

pub was_new : (added listed : Bool) → added ≡ not listed → added ≡ true → listed ≡ false
was_new added false is some = refl
was_new added true is some = absurd (true≢false (sym some ∙ is))

pub with_listed : (entries : List IndexEntry) (e : IndexEntry) → list_any (λ f. bytes_eq e.symbol f.symbol) entries ≡ true → entries ≡ with_first entries e
with_listed entries e listed = sym (ap (λ b. if b then entries else entries ++ e ∷ []) listed)

pub with_new : (entries : List IndexEntry) (e : IndexEntry) → list_any (λ f. bytes_eq e.symbol f.symbol) entries ≡ false → entries ++ e ∷ [] ≡ with_first entries e
with_new entries e new = sym (ap (λ b. if b then entries else entries ++ e ∷ []) new)

-- an entry as a symbol with its place
abbrev pub pair_of : IndexEntry → List ℕ × ℕ
pair_of e = (e.symbol, e.place)

module _ (s : List ℕ) (e : List ℕ × ℕ) where
  -- a symbol that is found is found among more
  kept : (n : ℕ) (found : List (List ℕ × ℕ)) → lookup (bytes_eq s) found ≡ Some n → lookup (bytes_eq s) (found ++ e ∷ []) ≡ Some n
  kept n [] is = cc
  kept n (x ∷ found) is = by (bytes_eq s x.0) (kept n found) is
    where
      by : (b : Bool) → (lookup (bytes_eq s) found ≡ Some n → lookup (bytes_eq s) (found ++ e ∷ []) ≡ Some n)
          → cond b (Some x.1) (lookup (bytes_eq s) found) ≡ Some n → cond b (Some x.1) (lookup (bytes_eq s) (found ++ e ∷ [])) ≡ Some n
      by true rest here = here
      by false rest here = rest here

  -- one that is not found is looked for in the last
  missed : (found : List (List ℕ × ℕ)) → lookup (bytes_eq s) found ≡ None → lookup (bytes_eq s) (found ++ e ∷ []) ≡ cond (bytes_eq s e.0) (Some e.1) None
  missed [] is = refl
  missed (x ∷ found) is = by (bytes_eq s x.0) (missed found) is
    where
      by : (b : Bool) → (lookup (bytes_eq s) found ≡ None → lookup (bytes_eq s) (found ++ e ∷ []) ≡ cond (bytes_eq s e.0) (Some e.1) None)
          → cond b (Some x.1) (lookup (bytes_eq s) found) ≡ None → cond b (Some x.1) (lookup (bytes_eq s) (found ++ e ∷ [])) ≡ cond (bytes_eq s e.0) (Some e.1) None
      by true rest here = cc
      by false rest here = rest here

-- each entry is the first of its symbol among some
abbrev AllFirst : List (List ℕ × ℕ) → List IndexEntry → Type 0
AllFirst among entries = AllByRecursion (λ f. lookup (bytes_eq f.symbol) among ≡ Some f.place) entries

-- a symbol that no entry has is not among them
abbrev NoOther : List (List ℕ × ℕ) → List IndexEntry → Type 0
NoOther among entries = (s : List ℕ) → list_any (λ f. bytes_eq s f.symbol) entries ≡ false → lookup (bytes_eq s) among ≡ None

all_kept : (among : List (List ℕ × ℕ)) (e : List ℕ × ℕ) (entries : List IndexEntry) → AllFirst among entries → AllFirst (among ++ e ∷ []) entries
all_kept among e [] all = tt
all_kept among e (f ∷ entries) all = (kept f.symbol e f.place among all.0, all_kept among e entries all.1)

all_with : (among : List (List ℕ × ℕ)) (e : IndexEntry) (entries : List IndexEntry) → AllFirst among entries → lookup (bytes_eq e.symbol) among ≡ Some e.place → AllFirst among (entries ++ e ∷ [])
all_with among e [] all one = (one, tt)
all_with among e (f ∷ entries) all one = (all.0, all_with among e entries all.1 one)

none_of_both : (p : IndexEntry → Bool) (entries : List IndexEntry) (e : IndexEntry) → list_any p (entries ++ e ∷ []) ≡ false → (list_any p entries ≡ false) × (p e ≡ false)
none_of_both p [] e none = (refl, by (p e) none)
  where
    by : (b : Bool) → (b || false) ≡ false → b ≡ false
    by false is = refl
    by true is = is
none_of_both p (f ∷ entries) e none = by (p f) (none_of_both p entries e) none
  where
    by : (b : Bool) → (list_any p (entries ++ e ∷ []) ≡ false → (list_any p entries ≡ false) × (p e ≡ false)) → (b || list_any p (entries ++ e ∷ [])) ≡ false
        → ((b || list_any p entries) ≡ false) × (p e ≡ false)
    by false rest is = rest is
    by true rest is = absurd (true≢false is)

-- a text is itself
same_text : (s : List ℕ) → bytes_eq s s ≡ true
same_text s = (bytes_eq-Decides s s).1 refl

record Step (among : List (List ℕ × ℕ)) (entries : List IndexEntry) : Type 0 where
  all : AllFirst among entries
  none : NoOther among entries

step : (among : List (List ℕ × ℕ)) (entries : List IndexEntry) (e : IndexEntry) → Step among entries → Step (among ++ pair_of e ∷ []) (with_first entries e)
step among entries e so_far = by (list_any (λ f. bytes_eq e.symbol f.symbol) entries) refl
  where
    by : (b : Bool) → list_any (λ f. bytes_eq e.symbol f.symbol) entries ≡ b → Step (among ++ pair_of e ∷ []) (if b then entries else entries ++ e ∷ [])
    by true here = record {
      all = all_kept among (pair_of e) entries so_far.all;
      none = λ s absent. missed s (pair_of e) among (so_far.none s absent)
          ∙ last s (bytes_eq s e.symbol) refl absent;
    }
      where
        last : (s : List ℕ) (b : Bool) → bytes_eq s e.symbol ≡ b → list_any (λ f. bytes_eq s f.symbol) entries ≡ false → cond (bytes_eq s e.symbol) (Some e.place) None ≡ None
        last s true is absent =
            let same : s ≡ e.symbol = (bytes_eq-Decides s e.symbol).0 is in
            absurd (true≢false (sym here ∙ ap (λ t. list_any (λ f. bytes_eq t f.symbol) entries) (sym same) ∙ absent))
        last s false is absent = ap (λ b. cond b (Some e.place) None) is
    by false new = record {
      all = all_with (among ++ pair_of e ∷ []) e entries (all_kept among (pair_of e) entries so_far.all)
          (missed e.symbol (pair_of e) among (so_far.none e.symbol new) ∙ ap (λ b. cond b (Some e.place) None) (same_text e.symbol));
      none = λ s absent. let both = none_of_both (λ f. bytes_eq s f.symbol) entries e absent in
          missed s (pair_of e) among (so_far.none s both.0) ∙ ap (λ b. cond b (Some e.place) None) both.1;
    }

steps : (among : List (List ℕ × ℕ)) (entries rest : List IndexEntry) → Step among entries → AllFirst (among ++ map pair_of rest) (fold with_first entries rest)
steps among entries [] so_far = subst (λ xs. AllFirst xs entries) (sym (append-nil among)) so_far.all
steps among entries (e ∷ rest) so_far =
    subst (λ xs. AllFirst xs (fold with_first (with_first entries e) rest)) (append_assoc among (pair_of e ∷ []) (map pair_of rest))
    (steps (among ++ pair_of e ∷ []) (with_first entries e) rest (step among entries e so_far))

-- each first entry is the one that is found
firsts_found : (entries : List IndexEntry) → AllFirst (map pair_of entries) (first_entries entries)
firsts_found entries = steps [] [] entries (record { all = tt; none = λ s absent. refl })

right_place : (e : IndexEntry) → unless_at (Some e.place) e ≡ None
right_place e = ap (λ b. if b then None else Some e) (eq-eqb e.place e.place refl)

all_right : (declarer : List ℕ → Option ℕ) (among : List (List ℕ × ℕ)) (entries : List IndexEntry) → ((s : List ℕ) → declarer s ≡ lookup (bytes_eq s) among) → AllFirst among entries → wrong_entries declarer entries ≡ []
all_right declarer among [] leads all = refl
all_right declarer among (e ∷ entries) leads all =
    ap (λ o. cons_option (unless_at o e) (wrong_entries declarer entries)) (leads e.symbol ∙ all.0)
    ∙ ap (λ o. cons_option o (wrong_entries declarer entries)) (right_place e)
    ∙ all_right declarer among entries leads all.1

-- no first entry misleads where each symbol is declared by the member that it is found at
pub none_misleads : (declarer : List ℕ → Option ℕ) (entries : List IndexEntry) → ((s : List ℕ) → declarer s ≡ lookup (bytes_eq s) (map pair_of entries)) → wrong_entries declarer (first_entries entries) ≡ []
none_misleads declarer entries leads = all_right declarer (map pair_of entries) (first_entries entries) leads (firsts_found entries)
