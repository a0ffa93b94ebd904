-- What is derived is read so, and what the grammar refuses the readers refuse: words, sizes, names and versions.
use Rattle.std.proofs.Common.{arith, ◌≡◌, ◌≢◌, ℕ, inl, inr, List, [], ◌∷◌, Option, Some, None, Ok, Err, refl, sym, ap, ◌∙◌}
use Rattle.implib.specs.declared.def.lexer.TokenKind.{TokenKind}
use Rattle.implib.specs.declared.def.lexer.TokenKind.TheVariants.{Identifier, Comma, Equal, KwBase}
use Rattle.implib.specs.Fault.{Cause, ExpectedIdentifier, ExpectedEqual}
use Rattle.implib.specs.Text.Grammar.{Of, Number, StartsWith, IsWord, IsVersion, Nameless, Named, base_terminals, commit_terminals}
use Rattle.implib.specs.Text.Number.{IsNumber, u64_limit}
use Rattle.implib.specs.Views.TokenReader.{◌>>=◌, refusal_of, word_by, word_read, integer_or, number_from, number_read, version_from, version_read, some_number, commit_by, commit_read, sizes_of, sizes_from, sizes_read, sign_by, sign_read, base_by, base_read, named_from, name_by, name_read}
use Rattle.implib.specs.Text.SyntaxError.{IsNotIdentifier, IsNotEqualSign, follow_size, follow_name}
use Rattle.implib.specs.Text.Token.{TokenView}
use Rattle.implib.proofs.Text.StartsWith.{IsAfter}
use Rattle.implib.proofs.Text.Many.{bind_ok, bind_err}
use Rattle.implib.proofs.Text.ReadTerminals.{NumberRefused, VersionRefused}
use Rattle.implib.proofs.Text.Words.{number_of-is, number_of-none, version_of-is, version_of-none}

-- ---- words

pub word_again : (t : TokenView) (rest : List TokenView) → t.kind ≡ Identifier → word_read (t ∷ rest) ≡ Ok (t, rest)
unfolding word_read
word_again t rest is = ap (λ (k : TokenKind). word_by k t rest) is

word_by_other : (kind : TokenKind) (t : TokenView) (rest : List TokenView) → kind ≢ Identifier → word_by kind t rest ≡ Err (refusal_of (ExpectedIdentifier kind) t)
word_by_other Identifier t rest other = absurd (other refl)
word_by_other kind t rest other = refl

pub word_refused : (t : TokenView) (rest : List TokenView) (cause : Cause) → IsNotIdentifier t cause → word_read (t ∷ rest) ≡ Err (refusal_of cause t)
unfolding word_read
word_refused t rest cause h = word_by_other t.kind t rest h.other ∙ ap (λ (c : Cause). Err (refusal_of c t)) (sym h.reported)

-- ---- numbers

pub number_again : (t : TokenView) (n : ℕ) (rest : List TokenView) → t.kind ≡ Identifier → IsNumber t.value u64_limit n → number_read (t ∷ rest) ≡ Ok (n, rest)
unfolding number_read
number_again t n rest e is =
    bind_ok (word_read (t ∷ rest)) number_from (t, rest) (Ok (n, rest)) (word_again t rest e)
    (ap (λ (o : Option ℕ). integer_or o t rest) (number_of-is t.value u64_limit n is))

pub number_refused : (t : TokenView) (rest : List TokenView) (cause : Cause) → NumberRefused t cause → number_read (t ∷ rest) ≡ Err (refusal_of cause t)
unfolding number_read
number_refused t rest cause (inl h) = bind_err (word_read (t ∷ rest)) number_from (refusal_of cause t) (word_refused t rest cause h)
number_refused t rest cause (inr h) = grind (arith, bind_ok, word_again, number_of-none)

-- ---- versions

pub version_again : (t : TokenView) (major minor : ℕ) (rest : List TokenView) → t.kind ≡ Identifier → IsVersion t.value major minor → version_read (t ∷ rest) ≡ Ok ((major, minor), rest)
unfolding version_read
version_again t major minor rest e is =
    bind_ok (word_read (t ∷ rest)) version_from (t, rest) (Ok ((major, minor), rest)) (word_again t rest e)
    (ap (λ (o : Option (ℕ × ℕ)). integer_or o t rest) (version_of-is t.value major minor is))

pub version_refused : (t : TokenView) (rest : List TokenView) (cause : Cause) → VersionRefused t cause → version_read (t ∷ rest) ≡ Err (refusal_of cause t)
unfolding version_read
version_refused t rest cause (inl h) = bind_err (word_read (t ∷ rest)) version_from (refusal_of cause t) (word_refused t rest cause h)
version_refused t rest cause (inr h) = grind (arith, bind_ok, word_again, version_of-none)

-- ---- sizes

commit_by_other : (kind : TokenKind) (t : TokenView) (rest : List TokenView) → kind ≢ Comma → commit_by kind t rest ≡ Ok (None, t ∷ rest)
commit_by_other Comma t rest other = absurd (other refl)
commit_by_other kind t rest other = refl

no_commit : (tokens : List TokenView) → IsAfter (Comma ∷ []) tokens → commit_read tokens ≡ Ok (None, tokens)
unfolding commit_read
no_commit [] h = refl
no_commit (t ∷ rest) h = commit_by_other t.kind t rest h.0

-- after the comma the number decides
after_comma : (t : TokenView) (rest : List TokenView) → t.kind ≡ Comma → commit_read (t ∷ rest) ≡ (number_read rest >>= some_number)
unfolding commit_read
after_comma t rest e = ap (λ (k : TokenKind). commit_by k t rest) e

commit_again : (commit : Option ℕ) (tokens rest : List TokenView) → StartsWith tokens (commit_terminals commit) rest → IsAfter (follow_size commit) rest → commit_read tokens ≡ Ok (commit, rest)
commit_again None tokens rest h after = ap commit_read h ∙ no_commit rest after
commit_again (Some n) [] rest h after = absurd h
commit_again (Some n) (t ∷ []) rest h after = absurd h.1
commit_again (Some n) (t ∷ u ∷ tokens) rest h after =
    after_comma t (u ∷ tokens) h.0
    ∙ bind_ok (number_read (u ∷ tokens)) some_number (n, tokens) (Ok (Some n, rest)) (number_again u n tokens h.1.0.0 h.1.0.1) (ap (λ (s : List TokenView). Ok (Some n, s)) h.1.1)

pub sizes_again : (n : ℕ) (commit : Option ℕ) (tokens rest : List TokenView) → StartsWith tokens (Number n ∷ commit_terminals commit) rest → IsAfter (follow_size commit) rest → sizes_read tokens ≡ Ok ((n, commit), rest)
unfolding sizes_read
sizes_again n commit [] rest h after = absurd h
sizes_again n commit (t ∷ tokens) rest h after =
    bind_ok (number_read (t ∷ tokens)) sizes_from (n, tokens) (Ok ((n, commit), rest)) (number_again t n tokens h.0.0 h.0.1)
    (bind_ok (commit_read tokens) (sizes_of n) (commit, rest) (Ok ((n, commit), rest)) (commit_again commit tokens rest h.1 after) refl)

pub size_refused : (t : TokenView) (rest : List TokenView) (cause : Cause) → NumberRefused t cause → sizes_read (t ∷ rest) ≡ Err (refusal_of cause t)
unfolding sizes_read
size_refused t rest cause h = bind_err (number_read (t ∷ rest)) sizes_from (refusal_of cause t) (number_refused t rest cause h)

pub second_size_refused : (n : ℕ) (tokens : List TokenView) (t : TokenView) (rest : List TokenView) (cause : Cause) → StartsWith tokens (Number n ∷ Of Comma ∷ []) (t ∷ rest) → NumberRefused t cause → sizes_read tokens ≡ Err (refusal_of cause t)
unfolding sizes_read
second_size_refused n [] t rest cause h refused = absurd h
second_size_refused n (u ∷ []) t rest cause h refused = absurd h.1
second_size_refused n (u ∷ comma ∷ tokens) t rest cause h refused =
    let expected = ap (λ (s : List TokenView). number_read s >>= some_number) h.1.1 ∙ bind_err (number_read (t ∷ rest)) some_number (refusal_of cause t) (number_refused t rest cause refused) in
    bind_ok (number_read (u ∷ comma ∷ tokens)) sizes_from (n, comma ∷ tokens) (Err (refusal_of cause t)) (number_again u n (comma ∷ tokens) h.0.0 h.0.1)
    (bind_err (commit_read (comma ∷ tokens)) (sizes_of n) (refusal_of cause t) (after_comma comma tokens h.1.0 ∙ expected))

-- ---- names

base_by_other : (kind : TokenKind) (t : TokenView) (rest : List TokenView) → kind ≢ KwBase → base_by kind t rest ≡ Ok (None, t ∷ rest)
base_by_other KwBase t rest other = absurd (other refl)
base_by_other kind t rest other = refl

no_base : (tokens : List TokenView) → IsAfter (KwBase ∷ []) tokens → base_read tokens ≡ Ok (None, tokens)
unfolding base_read
no_base [] h = refl
no_base (t ∷ rest) h = base_by_other t.kind t rest h.0

after_base : (t : TokenView) (rest : List TokenView) → t.kind ≡ KwBase → base_read (t ∷ rest) ≡ (sign_read rest >>= number_read >>= some_number)
unfolding base_read
after_base t rest e = ap (λ (k : TokenKind). base_by k t rest) e

sign_again : (t : TokenView) (rest : List TokenView) → t.kind ≡ Equal → sign_read (t ∷ rest) ≡ Ok rest
unfolding sign_read
sign_again t rest e = ap (λ (k : TokenKind). sign_by k t rest) e

sign_by_other : (kind : TokenKind) (t : TokenView) (rest : List TokenView) → kind ≢ Equal → sign_by kind t rest ≡ Err (refusal_of (ExpectedEqual kind) t)
sign_by_other Equal t rest other = absurd (other refl)
sign_by_other kind t rest other = refl

sign_refused : (t : TokenView) (rest : List TokenView) (cause : Cause) → IsNotEqualSign t cause → sign_read (t ∷ rest) ≡ Err (refusal_of cause t)
unfolding sign_read
sign_refused t rest cause h = sign_by_other t.kind t rest h.other ∙ ap (λ (c : Cause). Err (refusal_of c t)) (sym h.reported)

base_again : (base : Option ℕ) (tokens rest : List TokenView) → StartsWith tokens (base_terminals base) rest → IsAfter (follow_name base) rest → base_read tokens ≡ Ok (base, rest)
base_again None tokens rest h after = ap base_read h ∙ no_base rest after
base_again (Some n) [] rest h after = absurd h
base_again (Some n) (t ∷ []) rest h after = absurd h.1
base_again (Some n) (t ∷ sign ∷ []) rest h after = absurd h.1.1
base_again (Some n) (t ∷ sign ∷ u ∷ tokens) rest h after =
    let expected = bind_ok (sign_read (sign ∷ u ∷ tokens)) number_read (u ∷ tokens) (Ok (n, tokens)) (sign_again sign (u ∷ tokens) h.1.0) (number_again u n tokens h.1.1.0.0 h.1.1.0.1) in
    after_base t (sign ∷ u ∷ tokens) h.0
    ∙ bind_ok (sign_read (sign ∷ u ∷ tokens) >>= number_read) some_number (n, tokens) (Ok (Some n, rest)) expected (ap (λ (s : List TokenView). Ok (Some n, s)) h.1.1.1)

base_sign_refused : (base t : TokenView) (rest : List TokenView) (cause : Cause) → base.kind ≡ KwBase → IsNotEqualSign t cause → base_read (base ∷ t ∷ rest) ≡ Err (refusal_of cause t)
base_sign_refused base t rest cause e h = grind (arith, after_base, bind_err, sign_refused)

base_number_refused : (base sign t : TokenView) (rest : List TokenView) (cause : Cause) → base.kind ≡ KwBase → sign.kind ≡ Equal → NumberRefused t cause → base_read (base ∷ sign ∷ t ∷ rest) ≡ Err (refusal_of cause t)
base_number_refused base sign t rest cause e s h =
    after_base base (sign ∷ t ∷ rest) e
    ∙ bind_err (sign_read (sign ∷ t ∷ rest) >>= number_read) some_number (refusal_of cause t)
    (bind_ok (sign_read (sign ∷ t ∷ rest)) number_read (t ∷ rest) (Err (refusal_of cause t)) (sign_again sign (t ∷ rest) s) (number_refused t rest cause h))

name_by_other : (kind : TokenKind) (t : TokenView) (rest : List TokenView) → kind ≢ Identifier → name_by kind t rest ≡ Ok (Nameless, t ∷ rest)
name_by_other Identifier t rest other = absurd (other refl)
name_by_other kind t rest other = refl

pub no_name_again : (tokens : List TokenView) → IsAfter (Identifier ∷ []) tokens → name_read tokens ≡ Ok (Nameless, tokens)
unfolding name_read
no_name_again [] h = refl
no_name_again (t ∷ rest) h = name_by_other t.kind t rest h.0

-- after a name its base decides
after_name : (t : TokenView) (name : List ℕ) (rest : List TokenView) → IsWord t name → name_read (t ∷ rest) ≡ (base_read rest >>= named_from name)
unfolding name_read
after_name t name rest is = grind arith

pub name_again : (name : List ℕ) (base : Option ℕ) (t : TokenView) (tokens rest : List TokenView) → IsWord t name → StartsWith tokens (base_terminals base) rest → IsAfter (follow_name base) rest
    → name_read (t ∷ tokens) ≡ Ok (Named name base, rest)
name_again name base t tokens rest is h after =
    after_name t name tokens is ∙ bind_ok (base_read tokens) (named_from name) (base, rest) (Ok (Named name base, rest)) (base_again base tokens rest h after) refl

pub name_sign_refused : (name : List ℕ) (word base t : TokenView) (rest : List TokenView) (cause : Cause) → IsWord word name → base.kind ≡ KwBase → IsNotEqualSign t cause → name_read (word ∷ base ∷ t ∷ rest) ≡ Err (refusal_of cause t)
name_sign_refused name word base t rest cause is e h =
    after_name word name (base ∷ t ∷ rest) is ∙ bind_err (base_read (base ∷ t ∷ rest)) (named_from name) (refusal_of cause t) (base_sign_refused base t rest cause e h)

pub name_number_refused : (name : List ℕ) (word base sign t : TokenView) (rest : List TokenView) (cause : Cause) → IsWord word name → base.kind ≡ KwBase → sign.kind ≡ Equal → NumberRefused t cause
    → name_read (word ∷ base ∷ sign ∷ t ∷ rest) ≡ Err (refusal_of cause t)
name_number_refused name word base sign t rest cause is e s h =
    after_name word name (base ∷ sign ∷ t ∷ rest) is ∙ bind_err (base_read (base ∷ sign ∷ t ∷ rest)) (named_from name) (refusal_of cause t) (base_number_refused base sign t rest cause e s h)
