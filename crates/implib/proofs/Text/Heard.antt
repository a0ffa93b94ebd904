-- What a listener hears of the items that a reader gives.
use Rattle.std.proofs.Common.{◌≡◌, ℕ, zero, suc, List, [], ◌∷◌, ◌++◌, length, Option, Some, None, Ok, Err, refl, sym, ap, subst, ◌∙◌, append_assoc, arith}
use Rattle.std.proofs.lemmas.List.{append_cancel_right, length-append, length-map, map-append}
use Rattle.std.specs.List.{flat_map}
use Rattle.std.specs.Result.{MatchResult}
use Rattle.implib.specs.declared.def.listener.Role.{Role}
use Rattle.implib.specs.declared.def.listener.Role.TheVariants.{Other}
use Rattle.implib.specs.Text.Grammar.{Export, Exports, Later, Named, Nameless, Sizes, Statement, StartsWith, Terminal, Version, Word, export_terminals, exports_terminals, statement_terminals}
use Rattle.implib.specs.Text.Heard.{Heard, export_roles, heard_of, others, roles_of, statement_roles}
use Rattle.implib.specs.Text.Token.{TokenView}
use Rattle.implib.specs.Views.Hearing.{HearsMore, HearsOthers, as_others, exports_heard, first_heard, many_heard, statements_heard}
use Rattle.implib.specs.Views.TokenReader.{◌>>=◌, Reader, cons_item, export_read, exports_read, many, many_from, statement_read, statements_read}
use Rattle.implib.proofs.Text.ParserLoops.{ok_is, ok_is_not_err}
use Rattle.implib.proofs.Text.ReadExports.{ExportRead, PartCut, export_outcome}
use Rattle.implib.proofs.Text.ReadStatements.{StatementCut, StatementRead, statement_outcome}

-- ---- tokens and their roles

-- so many tokens, and then the rest
pub record Spans (tokens : List TokenView) (n : ℕ) (rest : List TokenView) : Type 0 where
  pub front : List TokenView
  pub whole : tokens ≡ front ++ rest
  pub size : length front ≡ n

pub StartsWith-spans : (tokens : List TokenView) (a : List Terminal) (rest : List TokenView) → StartsWith tokens a rest → Spans tokens (length a) rest
StartsWith-spans tokens [] rest h = record { front = []; whole = h; size = refl }
StartsWith-spans [] (w ∷ a) rest h = absurd h
StartsWith-spans (t ∷ tokens) (w ∷ a) rest h =
    let s = StartsWith-spans tokens a rest h.1 in
    record { front = t ∷ s.front; whole = ap (λ (l : List TokenView). t ∷ l) s.whole; size = omega (arith, s.size) }

pub heard_of-append : (a b : List Role) (front rest : List TokenView) → length front ≡ length a → heard_of (a ++ b) (front ++ rest) ≡ heard_of a (front ++ rest) ++ heard_of b rest
heard_of-append [] b [] rest e = refl
heard_of-append [] b (t ∷ front) rest e = absurd (omega (arith, e))
heard_of-append (r ∷ a) b [] rest e = absurd (omega (arith, e))
heard_of-append (r ∷ a) b (t ∷ front) rest e = ap (λ (l : List Heard). (record { role = r; token = t }) ∷ l) (heard_of-append a b front rest (omega (arith, e)))

heard_of-others : (terminals : List Terminal) (front rest : List TokenView) → length front ≡ length terminals → heard_of (others terminals) (front ++ rest) ≡ as_others front
heard_of-others [] [] rest e = refl
heard_of-others [] (t ∷ front) rest e = absurd (omega (arith, e))
heard_of-others (w ∷ terminals) [] rest e = absurd (omega (arith, e))
heard_of-others (w ∷ terminals) (t ∷ front) rest e = ap (λ (l : List Heard). (record { role = Other; token = t }) ∷ l) (heard_of-others terminals front rest (omega (arith, e)))

-- ---- the roles of exports and statements

pub export_roles-length : (name : List ℕ → Terminal) (e : Export) → length (export_terminals name e) ≡ length (export_roles e)
export_roles-length name e = grind (arith, length-map)

exports_length : (name : List ℕ → Terminal) (exports : List Export) → length (exports_terminals name exports) ≡ length (flat_map export_roles exports)
exports_length name [] = refl
exports_length name (e ∷ exports) =
    let one = export_roles-length name e in
    let more = exports_length Later exports in
    let both = length-append (export_terminals name e) (exports_terminals Later exports) in
    let roles = length-append (export_roles e) (flat_map export_roles exports) in
    omega (arith, one, more, both, roles)

pub statement_roles-length : (s : Statement) → length (statement_terminals s) ≡ length (statement_roles s)
statement_roles-length (Exports exports) = let more = exports_length Word exports in omega (arith, more)
statement_roles-length (Sizes region reserve commit) = sym (length-map (statement_terminals (Sizes region reserve commit)) (λ (_ : Terminal). Other))
statement_roles-length Nameless = refl
statement_roles-length (Named name base) = sym (length-map (statement_terminals (Named name base)) (λ (_ : Terminal). Other))
statement_roles-length (Version major minor) = refl

-- ---- an item takes as many tokens as it has roles

pub export_begins : (tokens : List TokenView) (e : Export) (rest : List TokenView) → export_read tokens ≡ Ok (Some e, rest) → StartsWith tokens (export_terminals Word e) rest
export_begins tokens e rest read = (subst (λ (r : Reader (Option Export)). MatchResult r (ExportRead tokens) (PartCut tokens)) read (export_outcome tokens)).0

export_spans : (tokens : List TokenView) (e : Export) (rest : List TokenView) → export_read tokens ≡ Ok (Some e, rest) → Spans tokens (length (export_roles e)) rest
export_spans tokens e rest read = subst (λ (n : ℕ). Spans tokens n rest) (export_roles-length Word e) (StartsWith-spans tokens (export_terminals Word e) rest (export_begins tokens e rest read))

pub statement_begins : (tokens : List TokenView) (s : Statement) (rest : List TokenView) → statement_read tokens ≡ Ok (Some s, rest) → StartsWith tokens (statement_terminals s) rest
statement_begins tokens s rest read = (subst (λ (r : Reader (Option Statement)). MatchResult r (StatementRead tokens) (StatementCut tokens)) read (statement_outcome tokens)).0

statement_spans : (tokens : List TokenView) (s : Statement) (rest : List TokenView) → statement_read tokens ≡ Ok (Some s, rest) → Spans tokens (length (statement_roles s)) rest
statement_spans tokens s rest read = subst (λ (n : ℕ). Spans tokens n rest) (statement_roles-length s) (StartsWith-spans tokens (statement_terminals s) rest (statement_begins tokens s rest read))

-- ---- what is heard of many items has the roles of all

module _ {A : Type 0} (roles : A → List Role) (item : List TokenView → Reader (Option A)) (spans : (tokens : List TokenView) (x : A) (rest : List TokenView) → item tokens ≡ Ok (Some x, rest) → Spans tokens (length (roles x)) rest) where
  -- of no items nothing is heard
  of_none : (tokens : List TokenView) (items : List A) → items ≡ [] → [] ≡ heard_of (flat_map roles items) tokens
  of_none tokens items none = sym (ap (λ (is : List A). heard_of (flat_map roles is) tokens) none)

  -- of the first one, and of the others
  of_first : (tokens left : List TokenView) (x : A) (items : List A) (later : List Heard) → item tokens ≡ Ok (Some x, left) → later ≡ heard_of (flat_map roles items) left → heard_of (roles x) tokens ++ later ≡ heard_of (flat_map roles (x ∷ items)) tokens
  of_first tokens left x items later read same =
      let s = spans tokens x left read in
      rw (same, s.whole) (sym (heard_of-append (roles x) (flat_map roles items) s.front left s.size))

  -- what is read after the first one
  module _ (n : ℕ) (tokens rest : List TokenView) (items : List A) (again : (left : List TokenView) (xs : List A) (end : List TokenView) → many item n left ≡ Ok (xs, end) → many_heard roles item n left ≡ heard_of (flat_map roles xs) left) where
    of_others : (x : A) (left : List TokenView) → item tokens ≡ Ok (Some x, left) → (r : Reader (List A)) → many item n left ≡ r → (r >>= cons_item x) ≡ Ok (items, rest) → heard_of (roles x) tokens ++ many_heard roles item n left ≡ heard_of (flat_map roles items) tokens
    of_others x left read (Ok found) is e =
        let same : x ∷ found.0 ≡ items = ap (λ (y : List A × List TokenView). y.0) (ok_is e) in
        of_first tokens left x found.0 (many_heard roles item n left) read (again left found.0 found.1 is) ∙ ap (λ (is : List A). heard_of (flat_map roles is) tokens) same
    of_others x left read (Err refusal) is e = absurd (ok_is_not_err (sym e))

    of_item : (r : Reader (Option A)) → item tokens ≡ r → (r >>= many_from (many item n)) ≡ Ok (items, rest) → first_heard roles (many_heard roles item n) tokens r ≡ heard_of (flat_map roles items) tokens
    of_item (Ok (None, left)) read e = of_none tokens items (sym (ap (λ (x : List A × List TokenView). x.0) (ok_is e)))
    of_item (Ok (Some x, left)) read e = of_others x left read (many item n left) refl e
    of_item (Err refusal) read e = absurd (ok_is_not_err (sym e))

  many_heard-is : (n : ℕ) (tokens : List TokenView) (items : List A) (rest : List TokenView) → many item n tokens ≡ Ok (items, rest) → many_heard roles item n tokens ≡ heard_of (flat_map roles items) tokens
  unfolding many many_heard
  many_heard-is zero tokens items rest e = of_none tokens items (sym (ap (λ (x : List A × List TokenView). x.0) (ok_is e)))
  many_heard-is (suc n) tokens items rest e = of_item n tokens rest items (λ left xs end is. many_heard-is n left xs end is) (item tokens) refl e

pub exports_heard-is : (tokens : List TokenView) (exports : List Export) (rest : List TokenView) → exports_read tokens ≡ Ok (exports, rest) → exports_heard tokens ≡ heard_of (flat_map export_roles exports) tokens
unfolding exports_heard exports_read
exports_heard-is tokens exports rest read = many_heard-is export_roles export_read export_spans (length tokens) tokens exports rest read

pub statements_heard-is : (tokens : List TokenView) (statements : List Statement) (rest : List TokenView) → statements_read tokens ≡ Ok (statements, rest) → statements_heard tokens ≡ heard_of (roles_of statements) tokens
unfolding statements_heard statements_read
statements_heard-is tokens statements rest read = many_heard-is statement_roles statement_read statement_spans (length tokens) tokens statements rest read

-- ---- what one function hears after another

-- tokens that were heard as other parts, by the terminals that they match
pub hears_terminals : (before after : List Heard → Type 0) (tokens rest : List TokenView) (terminals : List Terminal) → StartsWith tokens terminals rest → HearsOthers before tokens after rest → HearsMore before after (heard_of (others terminals) tokens)
hears_terminals before after tokens rest terminals starts hears heard known =
    let s = StartsWith-spans tokens terminals rest starts in
    let t = hears (heard ++ as_others tokens) (record { heard = heard; known = known; same = refl }) in
    let cut : as_others tokens ≡ as_others s.front ++ as_others rest = ap as_others s.whole ∙ map-append (λ (t : TokenView). record { role = Other; token = t }) s.front rest in
    let whole : t.heard ++ as_others rest ≡ (heard ++ as_others s.front) ++ as_others rest = t.same ∙ ap (λ (l : List Heard). heard ++ l) cut ∙ sym (append_assoc heard (as_others s.front) (as_others rest)) in
    let front : as_others s.front ≡ heard_of (others terminals) tokens = sym (ap (heard_of (others terminals)) s.whole ∙ heard_of-others terminals s.front rest s.size) in
    subst after (append_cancel_right t.heard (heard ++ as_others s.front) (as_others rest) whole ∙ ap (λ (l : List Heard). heard ++ l) front) t.known
