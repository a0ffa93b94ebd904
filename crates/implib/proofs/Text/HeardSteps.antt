-- What a listener hears at each turn of the parser's loops is what it hears of all items.
use Rattle.std.proofs.Common.{◌≡◌, ◌≢◌, ℕ, zero, suc, ◌<◌, ◌≤◌, Bool, true, false, List, [], ◌∷◌, ◌++◌, length, Option, Some, None, Ok, Err, refl, sym, ap, subst, ◌∙◌, append_assoc, arith}
use Rattle.std.proofs.lemmas.Bool.{false≢true}
use Rattle.std.proofs.lemmas.List.{append-nil}
use Rattle.std.specs.List.{flat_map}
use Rattle.implib.specs.declared.def.lexer.TokenKind.{TokenKind}
use Rattle.implib.specs.declared.def.lexer.TokenKind.TheVariants.{Eof, Identifier, KwExports}
use Rattle.implib.specs.declared.def.listener.Role.{Role}
use Rattle.implib.specs.declared.def.listener.Role.TheVariants.{Name, Other}
use Rattle.implib.specs.declared.machine.MachineType.{MachineType}
use Rattle.implib.specs.Definition.{DefinitionView}
use Rattle.implib.specs.Text.Grammar.{Export, Exports, Named, Nameless, Of, Sizes, Statement, StartsWith, Version, Word, attribute_terminals, export_terminals, statement_terminals, target_terminals}
use Rattle.implib.specs.Text.Heard.{Heard, export_roles, heard_of, others, statement_roles}
use Rattle.implib.specs.Text.Token.{TokenView}
use Rattle.implib.specs.Views.Hearing.{HearsMore, HearsOthers, export_heard, exports_heard, first_heard, item_heard, many_heard, statement_heard}
use Rattle.implib.specs.Views.Parser.{one_put}
use Rattle.implib.specs.Views.TokenReader.{◌>>=◌, Reader, export_by, export_read, exports_from, exports_read, statement_read, with_statement}
use Rattle.implib.proofs.Text.Heard.{export_begins, exports_heard-is, hears_terminals, statement_begins}
use Rattle.implib.proofs.Text.ParserLoops.{ok_is, ok_is_not_err}

-- ---- items that were put

module _ {A S : Type 0} (apply : S → A → S) (state after : S) (rest : List TokenView) where
  -- what was put was read
  pub item_of : (read : Reader (Option A)) → one_put apply state read ≡ Ok (true, after, rest) → (x : A) × (read ≡ Ok (Some x, rest))
  item_of (Ok (Some x, left)) e = (x, ap (λ (l : List TokenView). Ok (Some x, l)) (ap (λ (y : Bool × S × List TokenView). y.2) (ok_is e)))
  item_of (Ok (None, left)) e = absurd (false≢true (ap (λ (y : Bool × S × List TokenView). y.0) (ok_is e)))
  item_of (Err refusal) e = absurd (ok_is_not_err (sym e))

  -- where nothing was put there was no item
  pub none_of : (read : Reader (Option A)) → one_put apply state read ≡ Ok (false, after, rest) → read ≡ Ok (None, rest)
  none_of (Ok (Some x, left)) e = absurd (false≢true (sym (ap (λ (y : Bool × S × List TokenView). y.0) (ok_is e))))
  none_of (Ok (None, left)) e = ap (λ (l : List TokenView). Ok (None, l)) (ap (λ (y : Bool × S × List TokenView). y.2) (ok_is e))
  none_of (Err refusal) e = absurd (ok_is_not_err (sym e))

-- ---- a loop

-- what was heard, and what is to be heard, are together the total
pub record Goes (now : List Heard → Type 0) (later total : List Heard) : Type 0 where
  pub heard : List Heard
  pub known : now heard
  pub same : heard ++ later ≡ total

module _ {A : Type 0} (roles : A → List Role) (item : List TokenView → Reader (Option A)) (before : List Heard → Type 0) where
  -- the total of what is heard from the beginning on
  pub record HeardRemains (now : List Heard → Type 0) (tokens : List TokenView) (total : List Heard) : Type 0 where
    pub fuel : ℕ
    pub enough : length tokens ≤ fuel
    pub goes : (heard : List Heard) → before heard → Goes now (many_heard roles item fuel tokens) (heard ++ total)

  -- at the beginning
  pub heard_all : (tokens : List TokenView) → HeardRemains before tokens (many_heard roles item (length tokens) tokens)
  heard_all tokens = record { fuel = length tokens; enough = omega arith; goes = λ heard known. record { heard = heard; known = known; same = refl } }

  many_more : (n : ℕ) (tokens rest : List TokenView) (x : A) → item tokens ≡ Ok (Some x, rest) → many_heard roles item (suc n) tokens ≡ heard_of (roles x) tokens ++ many_heard roles item n rest
  unfolding many_heard
  many_more n tokens rest x read = ap (first_heard roles (many_heard roles item n) tokens) read

  many_none : (n : ℕ) (tokens rest : List TokenView) → item tokens ≡ Ok (None, rest) → many_heard roles item n tokens ≡ []
  unfolding many_heard
  many_none zero tokens rest read = refl
  many_none (suc n) tokens rest read = ap (first_heard roles (many_heard roles item n) tokens) read

  -- a turn that found an item
  pub heard_more : (now after : List Heard → Type 0) (tokens rest : List TokenView) (total : List Heard) (x : A) → item tokens ≡ Ok (Some x, rest) → length rest < length tokens → HearsMore now after (item_heard roles tokens (item tokens))
      → HeardRemains now tokens total → HeardRemains after rest total
  heard_more now after tokens rest total x read shorter hears remains = more remains.fuel remains.enough remains.goes where
    more : (fuel : ℕ) → length tokens ≤ fuel → ((heard : List Heard) → before heard → Goes now (many_heard roles item fuel tokens) (heard ++ total)) → HeardRemains after rest total
    more zero enough goes = absurd (omega (arith, enough, shorter))
    more (suc n) enough goes = record {
      fuel = n;
      enough = omega (arith, enough, shorter);
      goes = λ heard known. grind (arith, append_assoc, many_more);
    }

  -- a turn that found none
  pub heard_none : (now after : List Heard → Type 0) (tokens rest : List TokenView) (total : List Heard) → item tokens ≡ Ok (None, rest) → HearsMore now after (item_heard roles tokens (item tokens))
      → HeardRemains now tokens total → HearsMore before after total
  heard_none now after tokens rest total read hears remains heard known = grind (arith, heard, known, many_none)

-- ---- an export

-- its name, and then its other parts
pub export_hears : (before named after : List Heard → Type 0) (tokens : List TokenView) (token : TokenView) (after_name rest : List TokenView) (e : Export) → tokens ≡ token ∷ after_name → export_read tokens ≡ Ok (Some e, rest)
    → HearsMore before named ((record { role = Name; token = token }) ∷ []) → HearsOthers named after_name after rest → HearsMore before after (export_heard tokens)
unfolding export_heard
export_hears before named after tokens token after_name rest e starts read names hears heard known =
    let begins : StartsWith (token ∷ after_name) (export_terminals Word e) rest = subst (λ (l : List TokenView). StartsWith l (export_terminals Word e) rest) starts (export_begins tokens e rest read) in
    let parts = target_terminals e.target ++ flat_map attribute_terminals e.attributes in
    let all = hears_terminals named after after_name rest parts begins.1 hears (heard ++ (record { role = Name; token = token }) ∷ []) (names heard known) in
    let same : item_heard export_roles tokens (export_read tokens) ≡ (record { role = Name; token = token }) ∷ heard_of (others parts) after_name = ap (item_heard export_roles tokens) read ∙ ap (heard_of (export_roles e)) starts in
    subst after (append_assoc heard ((record { role = Name; token = token }) ∷ []) (heard_of (others parts) after_name) ∙ ap (λ (l : List Heard). heard ++ l) (sym same)) all

-- nothing is heard where there is none
export_hears_none : (before : List Heard → Type 0) (tokens rest : List TokenView) → export_read tokens ≡ Ok (None, rest) → HearsMore before before (export_heard tokens)
unfolding export_heard
export_hears_none before tokens rest read heard known = subst before (sym (ap (λ (r : Reader (Option Export)). heard ++ item_heard export_roles tokens r) read ∙ append-nil heard)) known

pub export_hears_end : (before : List Heard → Type 0) (tokens : List TokenView) → tokens ≡ [] → HearsMore before before (export_heard tokens)
unfolding export_read
export_hears_end before tokens ends = export_hears_none before tokens [] (ap export_read ends)

export_by_none : (kind : TokenKind) (token : TokenView) (rest : List TokenView) → kind ≢ Identifier → export_by kind token rest ≡ Ok (None, token ∷ rest)
export_by_none Identifier token rest other = absurd (other refl)
export_by_none kind token rest other = refl

pub export_hears_other : (before : List Heard → Type 0) (tokens : List TokenView) (token : TokenView) (rest : List TokenView) → tokens ≡ token ∷ rest → token.kind ≢ Identifier → HearsMore before before (export_heard tokens)
unfolding export_read
export_hears_other before tokens token rest starts other =
    export_hears_none before tokens (token ∷ rest) (ap export_read starts ∙ export_by_none token.kind token rest other)

-- ---- a statement

statement_hears_none : (before : List Heard → Type 0) (tokens rest : List TokenView) → statement_read tokens ≡ Ok (None, rest) → HearsMore before before (statement_heard tokens)
unfolding statement_heard
statement_hears_none before tokens rest read heard known = subst before (sym (ap (λ (r : Reader (Option Statement)). heard ++ item_heard statement_roles tokens r) read ∙ append-nil heard)) known

pub statement_hears_end : (before : List Heard → Type 0) (tokens : List TokenView) → tokens ≡ [] → HearsMore before before (statement_heard tokens)
unfolding statement_read
statement_hears_end before tokens ends = statement_hears_none before tokens [] (ap statement_read ends)

pub statement_hears_eof : (before : List Heard → Type 0) (tokens : List TokenView) (token : TokenView) (rest : List TokenView) → tokens ≡ token ∷ rest → token.kind ≡ Eof → HearsMore before before (statement_heard tokens)
unfolding statement_read
statement_hears_eof before tokens token rest starts kind = statement_hears_none before tokens (token ∷ rest) (rw (starts, kind) refl)

-- a statement other than `EXPORTS` has other parts alone
other_of : (before after : List Heard → Type 0) (tokens : List TokenView) (token : TokenView) (after_first rest : List TokenView) (s : Statement) → tokens ≡ token ∷ after_first → token.kind ≢ KwExports → statement_read tokens ≡ Ok (Some s, rest)
    → HearsOthers before tokens after rest → HearsMore before after (statement_heard tokens)
unfolding statement_heard
other_of before after tokens token after_first rest s starts kind read hears heard known =
    let begins = statement_begins tokens s rest read in
    let all = hears_terminals before after tokens rest (statement_terminals s) begins hears heard known in
    let first : StartsWith (token ∷ after_first) (statement_terminals s) rest = subst (λ (l : List TokenView). StartsWith l (statement_terminals s) rest) starts begins in
    subst (λ (l : List Heard). after (heard ++ l)) (ap (λ (roles : List Role). heard_of roles tokens) (plain s first) ∙ sym (ap (item_heard statement_roles tokens) read)) all
  where
    plain : (s : Statement) → StartsWith (token ∷ after_first) (statement_terminals s) rest → others (statement_terminals s) ≡ statement_roles s
    plain (Exports exports) first = absurd (kind first.0)
    plain (Sizes region reserve commit) first = refl
    plain Nameless first = refl
    plain (Named name base) first = refl
    plain (Version major minor) first = refl

-- exports that were read are a statement
exports_statement : (read : Reader (List Export)) (s : Statement) (rest : List TokenView) → (read >>= exports_from) ≡ Ok (Some s, rest) → (exports : List Export) × (read ≡ Ok (exports, rest)) × (s ≡ Exports exports)
exports_statement (Ok found) s rest e = grind (arith, ok_is)
exports_statement (Err refusal) s rest e = absurd (ok_is_not_err (sym e))

-- `EXPORTS`, and then the exports
exports_of : (before begun after : List Heard → Type 0) (tokens : List TokenView) (token : TokenView) (after_first rest : List TokenView) (s : Statement) → tokens ≡ token ∷ after_first → token.kind ≡ KwExports → statement_read tokens ≡ Ok (Some s, rest)
    → HearsOthers before tokens begun after_first → HearsMore begun after (exports_heard after_first) → HearsMore before after (statement_heard tokens)
unfolding statement_heard statement_read
exports_of before begun after tokens token after_first rest s starts kind read begins hears heard known =
    let made : (exports_read after_first >>= exports_from) ≡ Ok (Some s, rest) = rw (starts, kind) at read in
    let parts = exports_statement (exports_read after_first) s rest made in
    let first : StartsWith tokens (Of KwExports ∷ []) after_first = rw starts (kind, refl) in
    let opened = hears_terminals before begun tokens after_first (Of KwExports ∷ []) first begins heard known in
    let all = hears (heard ++ heard_of (Other ∷ []) tokens) opened in
    let same : item_heard statement_roles tokens (statement_read tokens) ≡ heard_of (Other ∷ []) tokens ++ exports_heard after_first =
    ap (item_heard statement_roles tokens) (read ∙ ap (λ (s : Statement). Ok (Some s, rest)) parts.2)
    ∙ rw starts (ap (λ (l : List Heard). (record { role = Other; token = token }) ∷ l) (sym (exports_heard-is after_first parts.0 rest parts.1))) in
    subst after (append_assoc heard (heard_of (Other ∷ []) tokens) (exports_heard after_first) ∙ ap (λ (l : List Heard). heard ++ l) (sym same)) all

-- the same, of a statement that was put to a definition
module _ (machine : MachineType) (d e : DefinitionView) (before after : List Heard → Type 0) (tokens : List TokenView) (token : TokenView) (after_first rest : List TokenView) (starts : tokens ≡ token ∷ after_first) (read : one_put (with_statement machine) d (statement_read tokens) ≡ Ok (true, e, rest)) where
  pub other_hears : token.kind ≢ KwExports → HearsOthers before tokens after rest → HearsMore before after (statement_heard tokens)
  other_hears kind hears =
      let found = item_of (with_statement machine) d e rest (statement_read tokens) read in
      other_of before after tokens token after_first rest found.0 starts kind found.1 hears

  pub exports_hears : (begun : List Heard → Type 0) → token.kind ≡ KwExports → HearsOthers before tokens begun after_first → HearsMore begun after (exports_heard after_first) → HearsMore before after (statement_heard tokens)
  exports_hears begun kind begins hears =
      let found = item_of (with_statement machine) d e rest (statement_read tokens) read in
      exports_of before begun after tokens token after_first rest found.0 starts kind found.1 begins hears
