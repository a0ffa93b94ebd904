-- What is derived is read so, and what the grammar refuses the readers refuse: attributes and exports.
use Rattle.std.proofs.Common.{◌≡◌, ◌≢◌, ℕ, inl, inr, Bool, true, false, List, [], ◌∷◌, ◌++◌, Option, Some, None, Ok, Err, refl, sym, ap, subst, ◌∙◌, arith}
use Rattle.std.specs.List.{flat_map}
use Rattle.implib.specs.declared.def.lexer.TokenKind.{TokenKind}
use Rattle.implib.specs.declared.def.lexer.TokenKind.TheVariants.{Eof, Identifier, Equal, EqualEqual, KwConstant, KwData, KwNoname, KwPrivate}
use Rattle.implib.specs.Fault.{Cause}
use Rattle.implib.specs.Text.Grammar.{Attribute, Joined, Apart, Data, Constant, Private, Alias, Export, Terminal, Of, Word, Later, StartsWith, IsWord, IsLoneAt, at_sign, no_name_terminals, attribute_terminals, target_terminals, export_terminals, exports_terminals}
use Rattle.implib.specs.Text.Number.{IsNumber, u16_limit}
use Rattle.implib.specs.Views.TokenReader.{◌>>=◌, Refusal, refusal_of, number_of, AtWord, Lone, WithOrdinal, Plain, word_read, no_name_by, no_name_read, ordinal_or, ordinal_by, ordinal_read, joined_from, apart_of, apart_from, alias_from, at_attribute, attribute_by, attribute_read, attributes_read, target_of, target_from, target_by, target_read, export_of, export_from, export_by, export_read, exports_read}
use Rattle.implib.specs.Text.SyntaxError.{IsNotIdentifier, IsNoneOf, attribute_kinds, follow_ordinal, follow_attribute, follow_attributes, follow_target, follow_export, follow_exports, bare}
use Rattle.implib.specs.Text.Token.{TokenView}
use Rattle.implib.proofs.Text.StartsWith.{IsNoneOf-append, IsNoneOf-parts, IsAfter-parts, StartsWith-parted, StartsWith-shorter, IsAfter}
use Rattle.implib.proofs.Text.Many.{bind_ok, bind_err, Takes, AreRead, all_again, all_refused}
use Rattle.implib.proofs.Text.ReadAttributes.{OrdinalRefused, TargetRefused, NoAttribute, first_of_absent_target, attribute_nonempty}
use Rattle.implib.proofs.Text.ReadExports.{ExportEnds}
use Rattle.implib.proofs.Text.TerminalsRead.{word_again, word_refused}
use Rattle.implib.proofs.Text.TokenKinds.{none_at}
use Rattle.implib.proofs.Text.Words.{IsAtWord, at_word-is, at_word-gives, number_of-is, number_of-none}

-- ---- `NONAME`

no_name_by_other : (kind : TokenKind) (t : TokenView) (rest : List TokenView) → kind ≢ KwNoname → no_name_by kind t rest ≡ (false, t ∷ rest)
no_name_by_other KwNoname t rest other = absurd (other refl)
no_name_by_other kind t rest other = refl

no_no_name : (tokens : List TokenView) → IsAfter (KwNoname ∷ []) tokens → no_name_read tokens ≡ (false, tokens)
unfolding no_name_read
no_no_name [] h = refl
no_no_name (t ∷ rest) h = no_name_by_other t.kind t rest h.0

no_name_again : (no_name : Bool) (tokens rest : List TokenView) → StartsWith tokens (no_name_terminals no_name) rest → IsAfter (follow_ordinal no_name) rest → no_name_read tokens ≡ (no_name, rest)
unfolding no_name_read
no_name_again false tokens rest h after = ap no_name_read h ∙ no_no_name rest after
no_name_again true [] rest h after = absurd h
no_name_again true (t ∷ tokens) rest h after = grind arith

-- ---- the ordinal after a lone `@`

ordinal_by_other : (kind : TokenKind) (t : TokenView) (rest : List TokenView) → kind ≢ Eof → ordinal_by kind t rest ≡ ordinal_or (number_of t.value u16_limit) t rest
ordinal_by_other Eof t rest other = absurd (other refl)
ordinal_by_other kind t rest other = refl

ordinal_again : (t : TokenView) (n : ℕ) (rest : List TokenView) → t.kind ≢ Eof → IsNumber t.value u16_limit n → ordinal_read (t ∷ rest) ≡ Ok (n, rest)
unfolding ordinal_read
ordinal_again t n rest other is =
    ordinal_by_other t.kind t rest other ∙ ap (λ (o : Option ℕ). ordinal_or o t rest) (number_of-is t.value u16_limit n is)

ordinal_refused : (t : TokenView) (rest : List TokenView) (cause : Cause) → OrdinalRefused t cause → ordinal_read (t ∷ rest) ≡ Err (refusal_of cause t)
unfolding ordinal_read
ordinal_refused t rest cause (inl h) = grind arith
ordinal_refused t rest cause (inr h) = grind (arith, ordinal_by_other, number_of-none)

-- ---- attributes

attribute_by_none : (kind : TokenKind) (t : TokenView) (rest : List TokenView) → IsNoneOf kind attribute_kinds → (kind ≡ Identifier → IsAtWord Plain t.value) → attribute_by kind t rest ≡ Ok (None, t ∷ rest)
attribute_by_none Identifier t rest h plain = ap (λ (w : AtWord). at_attribute w t rest) (at_word-is t.value Plain (plain refl))
attribute_by_none EqualEqual t rest h plain = absurd (h.0 refl)
attribute_by_none KwData t rest h plain = absurd (h.1.0 refl)
attribute_by_none KwConstant t rest h plain = absurd (h.1.1.0 refl)
attribute_by_none KwPrivate t rest h plain = absurd (h.1.1.1.0 refl)
attribute_by_none kind t rest h plain = refl

no_attribute : (tokens : List TokenView) → NoAttribute tokens → attribute_read tokens ≡ Ok (None, tokens)
unfolding attribute_read
no_attribute [] h = refl
no_attribute (t ∷ rest) h = attribute_by_none t.kind t rest h.0 h.1

-- what a word decides, and what `==` decides
at_kind : (t : TokenView) (rest : List TokenView) (kind : TokenKind) → t.kind ≡ kind → attribute_read (t ∷ rest) ≡ attribute_by kind t rest
unfolding attribute_read
at_kind t rest kind e = ap (λ (k : TokenKind). attribute_by k t rest) e

at_word_kind : (t : TokenView) (rest : List TokenView) (word : AtWord) → t.kind ≡ Identifier → IsAtWord word t.value → attribute_read (t ∷ rest) ≡ at_attribute word t rest
at_word_kind t rest word e is = at_kind t rest Identifier e ∙ ap (λ (w : AtWord). at_attribute w t rest) (at_word-is t.value word is)

attribute_again : (a : Attribute) (tokens rest : List TokenView) → StartsWith tokens (attribute_terminals a) rest → IsAfter (follow_attribute a) rest → attribute_read tokens ≡ Ok (Some a, rest)
attribute_again (Joined n no_name) [] rest h after = absurd h
attribute_again (Joined n no_name) (t ∷ tokens) rest h after =
    at_word_kind t tokens (WithOrdinal n) h.0.0 h.0.1 ∙ ap (joined_from n) (no_name_again no_name tokens rest h.1 after)
attribute_again (Apart n no_name) [] rest h after = absurd h
attribute_again (Apart n no_name) (t ∷ []) rest h after = absurd h.1
attribute_again (Apart n no_name) (t ∷ u ∷ tokens) rest h after =
    at_word_kind t (u ∷ tokens) Lone h.0.kind h.0.value_is
    ∙ bind_ok (ordinal_read (u ∷ tokens)) apart_from (n, tokens) (Ok (Some (Apart n no_name), rest)) (ordinal_again u n tokens h.1.0.0 h.1.0.1) (ap (apart_of n) (no_name_again no_name tokens rest h.1.1 after))
attribute_again Data [] rest h after = absurd h
attribute_again Data (t ∷ tokens) rest h after = at_kind t tokens KwData h.0 ∙ ap (λ (s : List TokenView). Ok (Some Data, s)) h.1
attribute_again Constant [] rest h after = absurd h
attribute_again Constant (t ∷ tokens) rest h after = at_kind t tokens KwConstant h.0 ∙ ap (λ (s : List TokenView). Ok (Some Constant, s)) h.1
attribute_again Private [] rest h after = absurd h
attribute_again Private (t ∷ tokens) rest h after = at_kind t tokens KwPrivate h.0 ∙ ap (λ (s : List TokenView). Ok (Some Private, s)) h.1
attribute_again (Alias value) [] rest h after = absurd h
attribute_again (Alias value) (t ∷ []) rest h after = absurd h.1
attribute_again (Alias value) (t ∷ u ∷ tokens) rest h after =
    at_kind t (u ∷ tokens) EqualEqual h.0
    ∙ bind_ok (word_read (u ∷ tokens)) alias_from (u, tokens) (Ok (Some (Alias value), rest)) (word_again u tokens h.1.0.kind)
    (ap (λ (v : List ℕ). Ok (Some (Alias v), tokens)) h.1.0.value_is ∙ ap (λ (s : List TokenView). Ok (Some (Alias value), s)) h.1.1)

alias_refused : (t u : TokenView) (rest : List TokenView) (cause : Cause) → t.kind ≡ EqualEqual → IsNotIdentifier u cause → attribute_read (t ∷ u ∷ rest) ≡ Err (refusal_of cause u)
alias_refused t u rest cause e h =
    at_kind t (u ∷ rest) EqualEqual e ∙ bind_err (word_read (u ∷ rest)) alias_from (refusal_of cause u) (word_refused u rest cause h)

lone_refused : (t u : TokenView) (rest : List TokenView) (cause : Cause) → IsWord t (at_sign ∷ []) → OrdinalRefused u cause → attribute_read (t ∷ u ∷ rest) ≡ Err (refusal_of cause u)
lone_refused t u rest cause is h =
    at_word_kind t (u ∷ rest) Lone is.kind is.value_is ∙ bind_err (ordinal_read (u ∷ rest)) apart_from (refusal_of cause u) (ordinal_refused u rest cause h)

-- neither `NONAME` nor `=` begins an attribute
abbrev no_attribute_kinds : List TokenKind
no_attribute_kinds = KwNoname ∷ Equal ∷ []

attribute_first : (a : Attribute) (more : List Terminal) (tokens rest : List TokenView) → StartsWith tokens (attribute_terminals a ++ more) rest → IsAfter no_attribute_kinds tokens
attribute_first a more [] rest h = tt
attribute_first (Joined n no_name) more (t ∷ tokens) rest h = none_at t.kind Identifier no_attribute_kinds h.0.0 refl
attribute_first (Apart n no_name) more (t ∷ tokens) rest h = none_at t.kind Identifier no_attribute_kinds h.0.kind refl
attribute_first Data more (t ∷ tokens) rest h = none_at t.kind KwData no_attribute_kinds h.0 refl
attribute_first Constant more (t ∷ tokens) rest h = none_at t.kind KwConstant no_attribute_kinds h.0 refl
attribute_first Private more (t ∷ tokens) rest h = none_at t.kind KwPrivate no_attribute_kinds h.0 refl
attribute_first (Alias value) more (t ∷ tokens) rest h = none_at t.kind EqualEqual no_attribute_kinds h.0 refl

clear_ordinal : (no_name : Bool) (kind : TokenKind) → kind ≢ KwNoname → IsNoneOf kind (follow_ordinal no_name)
clear_ordinal true kind other = tt
clear_ordinal false kind other = (other, tt)

clear_attribute : (a : Attribute) (kind : TokenKind) → kind ≢ KwNoname → IsNoneOf kind (follow_attribute a)
clear_attribute (Joined n no_name) kind other = clear_ordinal no_name kind other
clear_attribute (Apart n no_name) kind other = clear_ordinal no_name kind other
clear_attribute Data kind other = tt
clear_attribute Constant kind other = tt
clear_attribute Private kind other = tt
clear_attribute (Alias value) kind other = tt

pub clear_attributes : (items : List Attribute) (kind : TokenKind) → kind ≢ KwNoname → IsNoneOf kind (follow_attributes items)
clear_attributes [] kind other = tt
clear_attributes (a ∷ []) kind other = clear_attribute a kind other
clear_attributes (a ∷ b ∷ items) kind other = clear_attributes (b ∷ items) kind other

clear_after : (a : Attribute) (tokens : List TokenView) → IsAfter no_attribute_kinds tokens → IsAfter (follow_attribute a) tokens
clear_after a [] h = tt
clear_after a (t ∷ rest) h = clear_attribute a t.kind h.0

attributes_again : (items : List Attribute) (tokens rest : List TokenView) → StartsWith tokens (flat_map attribute_terminals items) rest → IsAfter (follow_attributes items) rest → AreRead attribute_read items tokens rest
attributes_again [] tokens rest h after = h
attributes_again (a ∷ []) tokens rest h after = grind (arith, StartsWith-parted, attribute_again, StartsWith-shorter, attribute_nonempty)
attributes_again (a ∷ b ∷ items) tokens rest h after =
    let p = StartsWith-parted tokens (attribute_terminals a) (flat_map attribute_terminals (b ∷ items)) rest h in
    let ends = clear_after a p.mid (attribute_first b (flat_map attribute_terminals items) p.mid rest p.back) in
    (p.mid, record { read = attribute_again a tokens p.mid p.front ends; shorter = StartsWith-shorter tokens (attribute_terminals a) p.mid (attribute_nonempty a) p.front }, attributes_again (b ∷ items) p.mid rest p.back after)

-- ---- targets

target_by_other : (kind : TokenKind) (t : TokenView) (rest : List TokenView) → kind ≢ Equal → target_by kind t rest ≡ Ok (None, t ∷ rest)
target_by_other Equal t rest other = absurd (other refl)
target_by_other kind t rest other = refl

no_target : (tokens : List TokenView) → IsAfter (Equal ∷ []) tokens → target_read tokens ≡ Ok (None, tokens)
unfolding target_read
no_target [] h = refl
no_target (t ∷ rest) h = target_by_other t.kind t rest h.0

after_sign : (t : TokenView) (rest : List TokenView) → t.kind ≡ Equal → target_read (t ∷ rest) ≡ (word_read rest >>= target_from)
unfolding target_read
after_sign t rest e = ap (λ (k : TokenKind). target_by k t rest) e

not_lone_target : (word : TokenView × List TokenView) (found : AtWord) → IsAtWord found word.0.value → ¬ (IsLoneAt word.0.value) → target_of found word ≡ Ok (Some word.0.value, word.1)
not_lone_target word Lone is other = absurd (other is)
not_lone_target word (WithOrdinal n) is other = refl
not_lone_target word Plain is other = refl

target_again : (target : Option (List ℕ)) (tokens rest : List TokenView) → StartsWith tokens (target_terminals target) rest → IsAfter (first_of_absent_target target) rest → target_read tokens ≡ Ok (target, rest)
target_again None tokens rest h after = ap target_read h ∙ no_target rest after
target_again (Some value) [] rest h after = absurd h
target_again (Some value) (t ∷ []) rest h after = absurd h.1
target_again (Some value) (t ∷ u ∷ tokens) rest h after = grind (arith, after_sign, bind_ok, word_again, not_lone_target, at_word-gives)

target_refused : (t u : TokenView) (rest : List TokenView) (cause : Cause) → t.kind ≡ Equal → TargetRefused u cause → target_read (t ∷ u ∷ rest) ≡ Err (refusal_of cause u)
target_refused t u rest cause e (inl h) =
    after_sign t (u ∷ rest) e ∙ bind_err (word_read (u ∷ rest)) target_from (refusal_of cause u) (word_refused u rest cause h)
target_refused t u rest cause e (inr h) =
    after_sign t (u ∷ rest) e
    ∙ bind_ok (word_read (u ∷ rest)) target_from (u, rest) (Err (refusal_of cause u)) (word_again u rest h.kind)
    (ap (λ (w : AtWord). target_of w (u, rest)) (at_word-is u.value Lone h.lone) ∙ ap (λ (c : Cause). Err (refusal_of c u)) (sym h.reported))

-- ---- one export

before_attributes : (target : Option (List ℕ)) (items : List Attribute) (tokens rest : List TokenView) → StartsWith tokens (flat_map attribute_terminals items) rest → IsAfter (follow_target target items) rest → IsAfter (first_of_absent_target target) tokens
before_attributes None [] tokens rest h after = subst (IsAfter (Equal ∷ [])) (sym h) after
before_attributes None (a ∷ items) [] rest h after = tt
before_attributes None (a ∷ items) (t ∷ tokens) rest h after = (attribute_first a (flat_map attribute_terminals items) (t ∷ tokens) rest h).1
before_attributes (Some value) items [] rest h after = tt
before_attributes (Some value) items (t ∷ tokens) rest h after = tt

-- what an export's first word leads to
after_word : (e : Export) (t : TokenView) (tokens : List TokenView) → IsWord t e.word → export_read (t ∷ tokens) ≡ (target_read tokens >>= export_from e.word)
unfolding export_read
after_word e t tokens is = grind arith

export_again : (e : Export) (tokens rest : List TokenView) → StartsWith tokens (export_terminals Word e) rest → ExportEnds e rest → export_read tokens ≡ Ok (Some e, rest)
unfolding attributes_read
export_again e [] rest h ends = absurd h
export_again e (t ∷ tokens) rest h ends =
    let p = StartsWith-parted tokens (target_terminals e.target) (flat_map attribute_terminals e.attributes) rest h.1 in
    let kinds = IsAfter-parts attribute_kinds (follow_target e.target e.attributes ++ follow_attributes e.attributes) rest ends.kinds in
    let last = IsAfter-parts (follow_target e.target e.attributes) (follow_attributes e.attributes) rest kinds.1 in
    let target = target_again e.target tokens p.mid p.front (before_attributes e.target e.attributes p.mid rest p.back last.0) in
    let read = all_again attribute_read e.attributes p.mid rest (attributes_again e.attributes p.mid rest p.back last.1) (no_attribute rest (kinds.0, ends.plain)) in
    after_word e t tokens h.0
    ∙ bind_ok (target_read tokens) (export_from e.word) (e.target, p.mid) (Ok (Some e, rest)) target
    (bind_ok (attributes_read p.mid) (export_of e.word e.target) (e.attributes, rest) (Ok (Some e, rest)) read refl)

clear_target : (target : Option (List ℕ)) (items : List Attribute) (kind : TokenKind) → kind ≢ Equal → IsNoneOf kind (follow_target target items)
clear_target None [] kind other = (other, tt)
clear_target None (a ∷ items) kind other = tt
clear_target (Some value) items kind other = tt

pub target_stops : (word : List ℕ) (tokens : List TokenView) (t : TokenView) (rest : List TokenView) (cause : Cause) → StartsWith tokens (export_terminals Word (bare word) ++ Of Equal ∷ []) (t ∷ rest) → TargetRefused t cause
    → export_read tokens ≡ Err (refusal_of cause t)
target_stops word [] t rest cause h refused = absurd h
target_stops word (w ∷ []) t rest cause h refused = absurd h.1
target_stops word (w ∷ sign ∷ tokens) t rest cause h refused =
    after_word (bare word) w (sign ∷ tokens) h.0
    ∙ bind_err (target_read (sign ∷ tokens)) (export_from word) (refusal_of cause t)
    (ap (λ (s : List TokenView). target_read (sign ∷ s)) h.1.1 ∙ target_refused sign t rest cause h.1.0 refused)

-- the attributes so far are read, and one that is refused refuses the export
attribute_stops : (e : Export) (tokens : List TokenView) (first : TokenView) (whole : List TokenView) (refusal : Refusal) → StartsWith tokens (export_terminals Word e) (first ∷ whole) → IsNoneOf first.kind no_attribute_kinds → attribute_read (first ∷ whole) ≡ Err refusal
    → export_read tokens ≡ Err refusal
unfolding attributes_read
attribute_stops e [] first whole refusal h clear refused = absurd h
attribute_stops e (t ∷ tokens) first whole refusal h clear refused =
    let p = StartsWith-parted tokens (target_terminals e.target) (flat_map attribute_terminals e.attributes) (first ∷ whole) h.1 in
    let target = target_again e.target tokens p.mid p.front (before_attributes e.target e.attributes p.mid (first ∷ whole) p.back (clear_target e.target e.attributes first.kind clear.1.0)) in
    let chain = attributes_again e.attributes p.mid (first ∷ whole) p.back (clear_attributes e.attributes first.kind clear.0) in
    after_word e t tokens h.0
    ∙ bind_ok (target_read tokens) (export_from e.word) (e.target, p.mid) (Err refusal) target
    (bind_err (attributes_read p.mid) (export_of e.word e.target) refusal (all_refused attribute_read e.attributes p.mid first whole refusal chain refused))

pub alias_stops : (e : Export) (tokens whole : List TokenView) (t : TokenView) (rest : List TokenView) (cause : Cause) → StartsWith tokens (export_terminals Word e) whole → StartsWith whole (Of EqualEqual ∷ []) (t ∷ rest) → IsNotIdentifier t cause → export_read tokens ≡ Err (refusal_of cause t)
alias_stops e tokens [] t rest cause h begun refused = absurd begun
alias_stops e tokens (first ∷ whole) t rest cause h begun refused =
    attribute_stops e tokens first whole (refusal_of cause t) h (none_at first.kind EqualEqual no_attribute_kinds begun.0 refl)
    (ap (λ (s : List TokenView). attribute_read (first ∷ s)) begun.1 ∙ alias_refused first t rest cause begun.0 refused)

pub ordinal_stops : (e : Export) (tokens whole : List TokenView) (t : TokenView) (rest : List TokenView) (cause : Cause) → StartsWith tokens (export_terminals Word e) whole → StartsWith whole (Word (at_sign ∷ []) ∷ []) (t ∷ rest) → OrdinalRefused t cause → export_read tokens ≡ Err (refusal_of cause t)
ordinal_stops e tokens [] t rest cause h begun refused = absurd begun
ordinal_stops e tokens (first ∷ whole) t rest cause h begun refused =
    attribute_stops e tokens first whole (refusal_of cause t) h (none_at first.kind Identifier no_attribute_kinds begun.0.kind refl)
    (ap (λ (s : List TokenView). attribute_read (first ∷ s)) begun.1 ∙ lone_refused first t rest cause begun.0 refused)

-- ---- exports

-- what can go on an export, whatever it holds
abbrev pub export_kinds : List TokenKind
export_kinds = attribute_kinds ++ no_attribute_kinds

pub clear_export : (e : Export) (kind : TokenKind) → IsNoneOf kind export_kinds → IsNoneOf kind (follow_export e)
clear_export e kind h =
    let p = IsNoneOf-parts kind attribute_kinds no_attribute_kinds h in
    IsNoneOf-append kind attribute_kinds (follow_target e.target e.attributes ++ follow_attributes e.attributes) p.0
    (IsNoneOf-append kind (follow_target e.target e.attributes) (follow_attributes e.attributes) (clear_target e.target e.attributes kind p.1.1.0) (clear_attributes e.attributes kind p.1.0))

-- a later name is a word
later_is_word : (items : List Export) (tokens rest : List TokenView) → StartsWith tokens (exports_terminals Later items) rest → StartsWith tokens (exports_terminals Word items) rest
later_is_word [] tokens rest h = h
later_is_word (e ∷ items) [] rest h = absurd h
later_is_word (e ∷ items) (t ∷ tokens) rest h = (h.0.word, h.1)

-- an export ends where a later one begins
ends_at_later : (e next : Export) (items : List Export) (tokens rest : List TokenView) → StartsWith tokens (exports_terminals Later (next ∷ items)) rest → ExportEnds e tokens
ends_at_later e next items [] rest h = absurd h
ends_at_later e next items (t ∷ tokens) rest h = record {
  kinds = clear_export e t.kind (none_at t.kind Identifier export_kinds h.0.word.kind refl);
  plain = λ i. subst (IsAtWord Plain) (sym h.0.word.value_is) (h.0.not_lone, h.0.not_ordinal);
}

take_export : (e : Export) (tokens rest : List TokenView) → StartsWith tokens (export_terminals Word e) rest → ExportEnds e rest → Takes export_read tokens e rest
take_export e tokens rest h ends = grind (arith, export_again, StartsWith-shorter)

ends_at_rest : (e : Export) (rest : List TokenView) → IsAfter (Identifier ∷ follow_export e) rest → ExportEnds e rest
ends_at_rest e [] h = record { kinds = tt; plain = tt }
ends_at_rest e (t ∷ rest) h = record { kinds = h.1; plain = λ i. absurd (h.0 i) }

exports_chain : (items : List Export) (tokens rest : List TokenView) → StartsWith tokens (exports_terminals Word items) rest → IsAfter (Identifier ∷ follow_exports items) rest → AreRead export_read items tokens rest
exports_chain [] tokens rest h after = h
exports_chain (e ∷ []) tokens rest h after =
    let p = StartsWith-parted tokens (export_terminals Word e) [] rest h in
    let ends = ends_at_rest e rest after in
    (p.mid, take_export e tokens p.mid p.front (subst (ExportEnds e) (sym p.back) ends), p.back)
exports_chain (e ∷ next ∷ items) tokens rest h after =
    let p = StartsWith-parted tokens (export_terminals Word e) (exports_terminals Later (next ∷ items)) rest h in
    (p.mid, take_export e tokens p.mid p.front (ends_at_later e next items p.mid rest p.back), exports_chain (next ∷ items) p.mid rest (later_is_word (next ∷ items) p.mid rest p.back) after)

export_by_other : (kind : TokenKind) (t : TokenView) (rest : List TokenView) → kind ≢ Identifier → export_by kind t rest ≡ Ok (None, t ∷ rest)
export_by_other Identifier t rest other = absurd (other refl)
export_by_other kind t rest other = refl

no_export : (tokens : List TokenView) (kinds : List TokenKind) → IsAfter (Identifier ∷ kinds) tokens → export_read tokens ≡ Ok (None, tokens)
unfolding export_read
no_export [] kinds h = refl
no_export (t ∷ rest) kinds h = export_by_other t.kind t rest h.0

pub exports_again : (items : List Export) (tokens rest : List TokenView) → StartsWith tokens (exports_terminals Word items) rest → IsAfter (Identifier ∷ follow_exports items) rest → exports_read tokens ≡ Ok (items, rest)
unfolding exports_read
exports_again items tokens rest h after = grind (arith, all_again, exports_chain, no_export)

-- exports are read up to the last one
record BeforeLast (items : List Export) (last : Export) (tokens whole : List TokenView) : Type 0 where
  mid : List TokenView
  chain : AreRead export_read items tokens mid
  back : StartsWith mid (export_terminals Word last) whole

before_last : (items : List Export) (last : Export) (tokens whole : List TokenView) → StartsWith tokens (exports_terminals Word (items ++ last ∷ [])) whole → BeforeLast items last tokens whole
before_last [] last tokens whole h = grind (arith, StartsWith-parted tokens (export_terminals Word last) [] whole h)
before_last (e ∷ []) last tokens whole h =
    let p = StartsWith-parted tokens (export_terminals Word e) (exports_terminals Later (last ∷ [])) whole h in
    let b = before_last [] last p.mid whole (later_is_word (last ∷ []) p.mid whole p.back) in
    record { mid = b.mid; chain = (p.mid, take_export e tokens p.mid p.front (ends_at_later e last [] p.mid whole p.back), b.chain); back = b.back }
before_last (e ∷ next ∷ items) last tokens whole h =
    let p = StartsWith-parted tokens (export_terminals Word e) (exports_terminals Later (next ∷ items ++ last ∷ [])) whole h in
    let b = before_last (next ∷ items) last p.mid whole (later_is_word (next ∷ items ++ last ∷ []) p.mid whole p.back) in
    record { mid = b.mid; chain = (p.mid, take_export e tokens p.mid p.front (ends_at_later e next (items ++ last ∷ []) p.mid whole p.back), b.chain); back = b.back }

-- the exports before it are read, and an export that is refused refuses them all
pub export_stops : (items : List Export) (last : Export) (tokens whole : List TokenView) (refusal : Refusal) → StartsWith tokens (exports_terminals Word (items ++ last ∷ [])) whole
    → ((mid : List TokenView) → StartsWith mid (export_terminals Word last) whole → export_read mid ≡ Err refusal) → exports_read tokens ≡ Err refusal
unfolding exports_read
export_stops items last tokens whole refusal h refused = grind (arith, before_last, all_refused)
