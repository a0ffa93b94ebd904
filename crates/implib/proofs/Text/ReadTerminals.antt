-- What the readers give is derived so, and what they refuse is refused by the grammar: words, sizes, names and versions.
use Rattle.std.proofs.Common.{arith, ◌≡◌, ℕ, ◌⊎◌, inl, inr, List, [], ◌∷◌, ◌++◌, Option, Some, None, Ok, Err, refl, sym, ap, subst}
use Rattle.std.specs.Result.{MatchResult}
use Rattle.implib.specs.declared.def.lexer.TokenKind.{TokenKind}
use Rattle.implib.specs.declared.def.lexer.TokenKind.TheVariants.{Identifier, Comma, Equal, KwBase}
use Rattle.implib.specs.Fault.{Cause, ExpectedIdentifier, ExpectedEqual}
use Rattle.implib.specs.Text.Grammar.{Terminal, Of, Word, Number, Numbers, StartsWith, IsWord, Statement, base_terminals, commit_terminals, NameOrLibrary, Matches, statement_terminals}
use Rattle.implib.specs.Text.Number.{u64_limit}
use Rattle.implib.specs.Views.TokenReader.{Reader, Refusal, ◌>>=◌, number_of, version_of, word_by, word_read, integer_or, number_from, number_read, version_from, version_read, some_number, commit_by, commit_read, sizes_of, sizes_from, sizes_read, sign_by, sign_read, base_by, base_read, named_from, name_by, name_read}
use Rattle.implib.specs.Text.SyntaxError.{IsNotIdentifier, IsNotNumber, IsNotVersion, IsNotEqualSign, follow_size, follow_name, follow}
use Rattle.implib.specs.Text.Token.{TokenView}
use Rattle.implib.proofs.Text.StartsWith.{StartsWith-append, IsAfter, AtFront, AtFront-weaker, CutAfter}
use Rattle.implib.proofs.Text.Many.{bind_outcome}
use Rattle.implib.proofs.Text.TokenKinds.{none_at, not_at}
use Rattle.implib.proofs.Text.Words.{number_of-gives, number_of-lacks, version_of-gives, version_of-lacks}

-- ---- words

abbrev pub WordRead : List TokenView → TokenView × List TokenView → Type 0
WordRead tokens word = (tokens ≡ word.0 ∷ word.1) × (word.0.kind ≡ Identifier)

pub word_starts : (tokens : List TokenView) (word : TokenView × List TokenView) → WordRead tokens word → StartsWith tokens (Word word.0.value ∷ []) word.1
word_starts tokens word h = grind arith

word_by_outcome : (kind : TokenKind) (t : TokenView) (rest : List TokenView) → t.kind ≡ kind → MatchResult (word_by kind t rest) (WordRead (t ∷ rest)) (AtFront IsNotIdentifier (t ∷ rest))
word_by_outcome Identifier t rest e = (refl, e)
word_by_outcome kind t rest e = (record { other = not_at t.kind kind Identifier e refl; reported = ap ExpectedIdentifier (sym e) }, refl)

pub word_outcome : (tokens : List TokenView) → MatchResult (word_read tokens) (WordRead tokens) (AtFront IsNotIdentifier tokens)
unfolding word_read
word_outcome [] = tt
word_outcome (t ∷ rest) = word_by_outcome t.kind t rest refl

-- ---- numbers

abbrev pub NumberRefused : TokenView → Cause → Type 0
NumberRefused t cause = IsNotIdentifier t cause ⊎ IsNotNumber t cause

abbrev pub NumberRead : List TokenView → ℕ × List TokenView → Type 0
NumberRead tokens n = StartsWith tokens (Number n.0 ∷ []) n.1

number_or_outcome : (t : TokenView) (rest : List TokenView) → t.kind ≡ Identifier → (o : Option ℕ) → number_of t.value u64_limit ≡ o → MatchResult (integer_or o t rest) (NumberRead (t ∷ rest)) (AtFront NumberRefused (t ∷ rest))
number_or_outcome t rest is (Some n) e = ((is, number_of-gives t.value u64_limit n e), refl)
number_or_outcome t rest is None e = (inr (record { kind = is; none = number_of-lacks t.value u64_limit e; reported = refl }), refl)

number_from_outcome : (tokens : List TokenView) (word : TokenView × List TokenView) → WordRead tokens word → MatchResult (number_from word) (NumberRead tokens) (AtFront NumberRefused tokens)
number_from_outcome tokens word h =
    subst (λ (s : List TokenView). MatchResult (number_from word) (NumberRead s) (AtFront NumberRefused s)) (sym h.0) (number_or_outcome word.0 word.1 h.1 (number_of word.0.value u64_limit) refl)

pub number_outcome : (tokens : List TokenView) → MatchResult (number_read tokens) (NumberRead tokens) (AtFront NumberRefused tokens)
unfolding number_read
number_outcome tokens =
    bind_outcome (WordRead tokens) (AtFront IsNotIdentifier tokens) (NumberRead tokens) (AtFront NumberRefused tokens) (word_read tokens) number_from (word_outcome tokens)
    (λ word h. number_from_outcome tokens word h)
    (λ refusal h. AtFront-weaker IsNotIdentifier NumberRefused (λ t c k. inl k) tokens refusal h)

-- ---- versions

abbrev pub VersionRefused : TokenView → Cause → Type 0
VersionRefused t cause = IsNotIdentifier t cause ⊎ IsNotVersion t cause

abbrev pub VersionRead : List TokenView → (ℕ × ℕ) × List TokenView → Type 0
VersionRead tokens v = StartsWith tokens (Numbers v.0.0 v.0.1 ∷ []) v.1

version_or_outcome : (t : TokenView) (rest : List TokenView) → t.kind ≡ Identifier → (o : Option (ℕ × ℕ)) → version_of t.value ≡ o → MatchResult (integer_or o t rest) (VersionRead (t ∷ rest)) (AtFront VersionRefused (t ∷ rest))
version_or_outcome t rest is (Some n) e = ((is, version_of-gives t.value n.0 n.1 e), refl)
version_or_outcome t rest is None e = (inr (record { kind = is; none = version_of-lacks t.value e; reported = refl }), refl)

version_from_outcome : (tokens : List TokenView) (word : TokenView × List TokenView) → WordRead tokens word → MatchResult (version_from word) (VersionRead tokens) (AtFront VersionRefused tokens)
version_from_outcome tokens word h =
    subst (λ (s : List TokenView). MatchResult (version_from word) (VersionRead s) (AtFront VersionRefused s)) (sym h.0) (version_or_outcome word.0 word.1 h.1 (version_of word.0.value) refl)

pub version_outcome : (tokens : List TokenView) → MatchResult (version_read tokens) (VersionRead tokens) (AtFront VersionRefused tokens)
unfolding version_read
version_outcome tokens =
    bind_outcome (WordRead tokens) (AtFront IsNotIdentifier tokens) (VersionRead tokens) (AtFront VersionRefused tokens) (word_read tokens) version_from (word_outcome tokens)
    (λ word h. version_from_outcome tokens word h)
    (λ refusal h. AtFront-weaker IsNotIdentifier VersionRefused (λ t c k. inl k) tokens refusal h)

-- ---- sizes

abbrev CommitRead : List TokenView → Option ℕ × List TokenView → Type 0
CommitRead tokens commit = StartsWith tokens (commit_terminals commit.0) commit.1 × IsAfter (follow_size commit.0) commit.1

abbrev CommitCut : List TokenView → Refusal → Type 0
CommitCut tokens refusal = CutAfter tokens (Of Comma ∷ []) NumberRefused refusal

-- whatever the next token is, nothing is asked of it
pub IsAfter-none : (tokens : List TokenView) → IsAfter [] tokens
IsAfter-none [] = tt
IsAfter-none (t ∷ rest) = tt

commit_by_outcome : (kind : TokenKind) (t : TokenView) (rest : List TokenView) → t.kind ≡ kind → MatchResult (commit_by kind t rest) (CommitRead (t ∷ rest)) (CommitCut (t ∷ rest))
commit_by_outcome Comma t rest e =
    bind_outcome (NumberRead rest) (AtFront NumberRefused rest) (CommitRead (t ∷ rest)) (CommitCut (t ∷ rest)) (number_read rest) some_number (number_outcome rest)
    (λ n h. ((e, h), IsAfter-none n.1))
    (λ refusal h. record { mid = rest; begins = (e, refl); refused = h })
commit_by_outcome kind t rest e = (refl, none_at t.kind kind (Comma ∷ []) e refl)

commit_outcome : (tokens : List TokenView) → MatchResult (commit_read tokens) (CommitRead tokens) (CommitCut tokens)
unfolding commit_read
commit_outcome [] = (refl, tt)
commit_outcome (t ∷ rest) = commit_by_outcome t.kind t rest refl

abbrev pub SizesRead : List TokenView → (ℕ × Option ℕ) × List TokenView → Type 0
SizesRead tokens sizes = StartsWith tokens (Number sizes.0.0 ∷ commit_terminals sizes.0.1) sizes.1 × IsAfter (follow_size sizes.0.1) sizes.1

-- the first size is refused, or the second
abbrev pub SizesCut : List TokenView → Refusal → Type 0
SizesCut tokens refusal = AtFront NumberRefused tokens refusal ⊎ ((n : ℕ) × CutAfter tokens (Number n ∷ Of Comma ∷ []) NumberRefused refusal)

sizes_from_outcome : (tokens : List TokenView) (n : ℕ × List TokenView) → NumberRead tokens n → MatchResult (sizes_from n) (SizesRead tokens) (SizesCut tokens)
sizes_from_outcome tokens n h =
    bind_outcome (CommitRead n.1) (CommitCut n.1) (SizesRead tokens) (SizesCut tokens) (commit_read n.1) (sizes_of n.0) (commit_outcome n.1)
    (λ commit k. (StartsWith-append tokens (Number n.0 ∷ []) (commit_terminals commit.0) n.1 commit.1 h k.0, k.1))
    (λ refusal k. inr (
      n.0,
      record {
        mid = k.mid;
        begins = StartsWith-append tokens (Number n.0 ∷ []) (Of Comma ∷ []) n.1 k.mid h k.begins;
        refused = k.refused;
      },
    ))

pub sizes_outcome : (tokens : List TokenView) → MatchResult (sizes_read tokens) (SizesRead tokens) (SizesCut tokens)
unfolding sizes_read
sizes_outcome tokens =
    bind_outcome (NumberRead tokens) (AtFront NumberRefused tokens) (SizesRead tokens) (SizesCut tokens) (number_read tokens) sizes_from (number_outcome tokens)
    (λ n h. sizes_from_outcome tokens n h) (λ refusal h. inl h)

-- ---- names

abbrev SignRead : List TokenView → List TokenView → Type 0
SignRead tokens rest = StartsWith tokens (Of Equal ∷ []) rest

sign_by_outcome : (kind : TokenKind) (t : TokenView) (rest : List TokenView) → t.kind ≡ kind → MatchResult (sign_by kind t rest) (SignRead (t ∷ rest)) (AtFront IsNotEqualSign (t ∷ rest))
sign_by_outcome Equal t rest e = (e, refl)
sign_by_outcome kind t rest e = (record { other = not_at t.kind kind Equal e refl; reported = ap ExpectedEqual (sym e) }, refl)

sign_outcome : (tokens : List TokenView) → MatchResult (sign_read tokens) (SignRead tokens) (AtFront IsNotEqualSign tokens)
unfolding sign_read
sign_outcome [] = tt
sign_outcome (t ∷ rest) = sign_by_outcome t.kind t rest refl

abbrev BaseRead : List TokenView → Option ℕ × List TokenView → Type 0
BaseRead tokens base = StartsWith tokens (base_terminals base.0) base.1 × IsAfter (follow_name base.0) base.1

-- the sign is refused, or the number
abbrev pub BaseCut : List Terminal → List TokenView → Refusal → Type 0
BaseCut front tokens refusal = CutAfter tokens (front ++ Of KwBase ∷ []) IsNotEqualSign refusal ⊎ CutAfter tokens (front ++ Of KwBase ∷ Of Equal ∷ []) NumberRefused refusal

signed_outcome : (t : TokenView) (rest after : List TokenView) → t.kind ≡ KwBase → SignRead rest after
    → MatchResult (number_read after) (λ n. StartsWith (t ∷ rest) (base_terminals (Some n.0)) n.1) (BaseCut [] (t ∷ rest))
signed_outcome t rest after e h = grind (arith, by_number, number_outcome)
  where
    by_number : (r : Reader ℕ) → MatchResult r (NumberRead after) (AtFront NumberRefused after) → MatchResult r (λ n. StartsWith (t ∷ rest) (base_terminals (Some n.0)) n.1) (BaseCut [] (t ∷ rest))
    by_number (Ok n) k = (e, StartsWith-append rest (Of Equal ∷ []) (Number n.0 ∷ []) after n.1 h k)
    by_number (Err refusal) k = inr (record { mid = after; begins = (e, h); refused = k })

base_by_outcome : (kind : TokenKind) (t : TokenView) (rest : List TokenView) → t.kind ≡ kind → MatchResult (base_by kind t rest) (BaseRead (t ∷ rest)) (BaseCut [] (t ∷ rest))
base_by_outcome KwBase t rest e =
    bind_outcome (λ (n : ℕ × List TokenView). StartsWith (t ∷ rest) (base_terminals (Some n.0)) n.1) (BaseCut [] (t ∷ rest)) (BaseRead (t ∷ rest)) (BaseCut [] (t ∷ rest)) (sign_read rest >>= number_read) some_number
    (bind_outcome (SignRead rest) (AtFront IsNotEqualSign rest) (λ (n : ℕ × List TokenView). StartsWith (t ∷ rest) (base_terminals (Some n.0)) n.1) (BaseCut [] (t ∷ rest)) (sign_read rest) number_read (sign_outcome rest)
    (λ after h. signed_outcome t rest after e h)
    (λ refusal h. inl (record { mid = rest; begins = (e, refl); refused = h })))
    (λ n h. (h, IsAfter-none n.1))
    (λ refusal h. h)
base_by_outcome kind t rest e = (refl, none_at t.kind kind (KwBase ∷ []) e refl)

base_outcome : (tokens : List TokenView) → MatchResult (base_read tokens) (BaseRead tokens) (BaseCut [] tokens)
unfolding base_read
base_outcome [] = (refl, tt)
base_outcome (t ∷ rest) = base_by_outcome t.kind t rest refl

abbrev pub NameRead : List TokenView → Statement × List TokenView → Type 0
NameRead tokens statement = StartsWith tokens (statement_terminals statement.0) statement.1 × IsAfter (follow statement.0) statement.1

abbrev pub NameCut : List TokenView → Refusal → Type 0
NameCut tokens refusal = (name : List ℕ) × BaseCut (NameOrLibrary ∷ Word name ∷ []) tokens refusal

named_cut : (first t : TokenView) (rest : List TokenView) (refusal : Refusal) → Matches NameOrLibrary first → IsWord t t.value → BaseCut [] rest refusal → NameCut (first ∷ t ∷ rest) refusal
named_cut first t rest refusal is word (inl c) = (t.value, inl (record { mid = c.mid; begins = (is, (word, c.begins)); refused = c.refused }))
named_cut first t rest refusal is word (inr c) = (t.value, inr (record { mid = c.mid; begins = (is, (word, c.begins)); refused = c.refused }))

name_by_outcome : (first : TokenView) → Matches NameOrLibrary first → (kind : TokenKind) (t : TokenView) (rest : List TokenView) → t.kind ≡ kind → MatchResult (name_by kind t rest) (NameRead (first ∷ t ∷ rest)) (NameCut (first ∷ t ∷ rest))
name_by_outcome first is Identifier t rest e =
    let word : IsWord t t.value = record { kind = e; value_is = refl } in
    bind_outcome (BaseRead rest) (BaseCut [] rest) (NameRead (first ∷ t ∷ rest)) (NameCut (first ∷ t ∷ rest)) (base_read rest) (named_from t.value) (base_outcome rest)
    (λ base k. ((is, (word, k.0)), k.1))
    (λ refusal k. named_cut first t rest refusal is word k)
name_by_outcome first is kind t rest e = ((is, refl), none_at t.kind kind (Identifier ∷ []) e refl)

pub name_outcome : (first : TokenView) → Matches NameOrLibrary first → (tokens : List TokenView) → MatchResult (name_read tokens) (NameRead (first ∷ tokens)) (NameCut (first ∷ tokens))
unfolding name_read
name_outcome first is [] = ((is, refl), tt)
name_outcome first is (t ∷ rest) = name_by_outcome first is t.kind t rest refl
