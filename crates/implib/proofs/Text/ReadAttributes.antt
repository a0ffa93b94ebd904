-- What the readers give is derived so, and what they refuse is refused by the grammar: attributes and exports.
use Rattle.std.proofs.Common.{◌≡◌, ◌≢◌, ℕ, ◌<◌, ◌⊎◌, inl, inr, Bool, List, [], ◌∷◌, length, Option, Some, None, refl, sym, subst, ◌∙◌, arith}
use Rattle.std.specs.Result.{MatchResult}
use Rattle.std.specs.List.{flat_map}
use Rattle.implib.specs.declared.def.lexer.TokenKind.{TokenKind}
use Rattle.implib.specs.declared.def.lexer.TokenKind.TheVariants.{Eof, Identifier, Equal, EqualEqual, KwConstant, KwData, KwNoname, KwPrivate}
use Rattle.implib.specs.Fault.{Cause}
use Rattle.implib.specs.Text.Grammar.{Attribute, Joined, Apart, Data, Constant, Private, Alias, Of, Word, Ordinal, StartsWith, IsWord, IsLoneAt, at_sign, no_name_terminals, attribute_terminals, target_terminals}
use Rattle.implib.specs.Text.Number.{u16_limit}
use Rattle.implib.specs.Views.TokenReader.{◌>>=◌, Refusal, number_of, AtWord, Lone, WithOrdinal, Plain, at_word, word_read, no_name_by, no_name_read, ordinal_or, ordinal_by, ordinal_read, apart_from, alias_from, at_attribute, attribute_by, attribute_read, attributes_read, target_of, target_from, target_by, target_read}
use Rattle.implib.specs.Text.SyntaxError.{IsNotIdentifier, IsEndForOrdinal, IsNotOrdinal, IsLoneTarget, attribute_kinds, follow_ordinal, follow_attribute, follow_attributes}
use Rattle.implib.specs.Text.Token.{TokenView}
use Rattle.implib.proofs.Text.StartsWith.{StartsWith-append, StartsWith-shorter, IsAfter, AtFront, AtFront-weaker, CutAfter}
use Rattle.implib.proofs.Text.Many.{bind_outcome, Chain, ItemRead, AllRead, Stopped, all_outcome}
use Rattle.implib.proofs.Text.ReadTerminals.{WordRead, word_outcome, word_starts, IsAfter-none}
use Rattle.implib.proofs.Text.TokenKinds.{none_at, not_at}
use Rattle.implib.proofs.Text.Words.{IsAtWord, at_word-at, at_word-gives, at_word-is, number_of-gives, number_of-lacks}

-- ---- `NONAME`

abbrev NoNameRead : List TokenView → Bool × List TokenView → Type 0
NoNameRead tokens no_name = StartsWith tokens (no_name_terminals no_name.0) no_name.1 × IsAfter (follow_ordinal no_name.0) no_name.1

no_name_by_outcome : (kind : TokenKind) (t : TokenView) (rest : List TokenView) → t.kind ≡ kind → NoNameRead (t ∷ rest) (no_name_by kind t rest)
no_name_by_outcome KwNoname t rest e = ((e, refl), IsAfter-none rest)
no_name_by_outcome kind t rest e = (refl, none_at t.kind kind (KwNoname ∷ []) e refl)

no_name_outcome : (tokens : List TokenView) → NoNameRead tokens (no_name_read tokens)
unfolding no_name_read
no_name_outcome [] = (refl, tt)
no_name_outcome (t ∷ rest) = no_name_by_outcome t.kind t rest refl

-- ---- the ordinal after a lone `@`

abbrev pub OrdinalRefused : TokenView → Cause → Type 0
OrdinalRefused t cause = IsEndForOrdinal t cause ⊎ IsNotOrdinal t cause

abbrev OrdinalRead : List TokenView → ℕ × List TokenView → Type 0
OrdinalRead tokens n = StartsWith tokens (Ordinal n.0 ∷ []) n.1

ordinal_or_outcome : (t : TokenView) (rest : List TokenView) → t.kind ≢ Eof → (o : Option ℕ) → number_of t.value u16_limit ≡ o → MatchResult (ordinal_or o t rest) (OrdinalRead (t ∷ rest)) (AtFront OrdinalRefused (t ∷ rest))
ordinal_or_outcome t rest other (Some n) e = ((other, number_of-gives t.value u16_limit n e), refl)
ordinal_or_outcome t rest other None e = (inr (record { not_end = other; none = number_of-lacks t.value u16_limit e; reported = refl }), refl)

ordinal_by_outcome : (kind : TokenKind) (t : TokenView) (rest : List TokenView) → t.kind ≡ kind → MatchResult (ordinal_by kind t rest) (OrdinalRead (t ∷ rest)) (AtFront OrdinalRefused (t ∷ rest))
ordinal_by_outcome Eof t rest e = (inl (record { end = e; reported = refl }), refl)
ordinal_by_outcome kind t rest e = ordinal_or_outcome t rest (not_at t.kind kind Eof e refl) (number_of t.value u16_limit) refl

ordinal_outcome : (tokens : List TokenView) → MatchResult (ordinal_read tokens) (OrdinalRead tokens) (AtFront OrdinalRefused tokens)
unfolding ordinal_read
ordinal_outcome [] = tt
ordinal_outcome (t ∷ rest) = ordinal_by_outcome t.kind t rest refl

-- ---- attributes

-- an attribute before what follows it
abbrev pub AttributeLocated : List TokenView → Attribute → List TokenView → Type 0
AttributeLocated tokens a rest = StartsWith tokens (attribute_terminals a) rest × IsAfter (follow_attribute a) rest

-- the first word, if a word comes first, begins no attribute
abbrev pub PlainFront : List TokenView → Type 0
PlainFront [] = Unit {0}
PlainFront (t ∷ rest) = t.kind ≡ Identifier → IsAtWord Plain t.value

-- no attribute begins here
abbrev pub NoAttribute : List TokenView → Type 0
NoAttribute tokens = IsAfter attribute_kinds tokens × PlainFront tokens

-- the word after `==` is refused, or the ordinal after `@`
abbrev pub AttributeCut : List TokenView → Refusal → Type 0
AttributeCut tokens refusal = CutAfter tokens (Of EqualEqual ∷ []) IsNotIdentifier refusal ⊎ CutAfter tokens (Word (at_sign ∷ []) ∷ []) OrdinalRefused refusal

abbrev pub AttributeRead : List TokenView → Option Attribute × List TokenView → Type 0
AttributeRead tokens found = ItemRead AttributeLocated NoAttribute tokens found

apart_outcome : (t : TokenView) (rest : List TokenView) → IsWord t (at_sign ∷ []) → MatchResult (ordinal_read rest >>= apart_from) (AttributeRead (t ∷ rest)) (AttributeCut (t ∷ rest))
apart_outcome t rest word =
    bind_outcome (OrdinalRead rest) (AtFront OrdinalRefused rest) (AttributeRead (t ∷ rest)) (AttributeCut (t ∷ rest)) (ordinal_read rest) apart_from (ordinal_outcome rest)
    (λ n h. let after = no_name_outcome n.1 in
    ((word, StartsWith-append rest (Ordinal n.0 ∷ []) (no_name_terminals (no_name_read n.1).0) n.1 (no_name_read n.1).1 h after.0), after.1))
    (λ refusal h. inr (record { mid = rest; begins = (word, refl); refused = h }))

at_attribute_outcome : (word : AtWord) (t : TokenView) (rest : List TokenView) → t.kind ≡ Identifier → IsAtWord word t.value → MatchResult (at_attribute word t rest) (AttributeRead (t ∷ rest)) (AttributeCut (t ∷ rest))
at_attribute_outcome Lone t rest e is = apart_outcome t rest (record { kind = e; value_is = is })
at_attribute_outcome (WithOrdinal n) t rest e is = let after = no_name_outcome rest in (((e, is), after.0), after.1)
at_attribute_outcome Plain t rest e is = (refl, (none_at t.kind Identifier attribute_kinds e refl, λ i. is))

attribute_by_outcome : (kind : TokenKind) (t : TokenView) (rest : List TokenView) → t.kind ≡ kind → MatchResult (attribute_by kind t rest) (AttributeRead (t ∷ rest)) (AttributeCut (t ∷ rest))
attribute_by_outcome Identifier t rest e = at_attribute_outcome (at_word t.value) t rest e (at_word-gives t.value)
attribute_by_outcome EqualEqual t rest e =
    bind_outcome (WordRead rest) (AtFront IsNotIdentifier rest) (AttributeRead (t ∷ rest)) (AttributeCut (t ∷ rest)) (word_read rest) alias_from (word_outcome rest)
    (λ word h. ((e, word_starts rest word h), IsAfter-none word.1))
    (λ refusal h. inl (record { mid = rest; begins = (e, refl); refused = h }))
attribute_by_outcome KwData t rest e = ((e, refl), IsAfter-none rest)
attribute_by_outcome KwConstant t rest e = ((e, refl), IsAfter-none rest)
attribute_by_outcome KwPrivate t rest e = ((e, refl), IsAfter-none rest)
attribute_by_outcome kind t rest e = (refl, (none_at t.kind kind attribute_kinds e refl, λ i. absurd (not_at t.kind kind Identifier e refl i)))

attribute_outcome : (tokens : List TokenView) → MatchResult (attribute_read tokens) (AttributeRead tokens) (AttributeCut tokens)
unfolding attribute_read
attribute_outcome [] = (refl, (tt, tt))
attribute_outcome (t ∷ rest) = attribute_by_outcome t.kind t rest refl

pub attribute_nonempty : (a : Attribute) → 0 < length (attribute_terminals a)
attribute_nonempty (Joined n no_name) = omega arith
attribute_nonempty (Apart n no_name) = omega arith
attribute_nonempty Data = omega arith
attribute_nonempty Constant = omega arith
attribute_nonempty Private = omega arith
attribute_nonempty (Alias value) = omega arith

pub attribute_shorter : (tokens : List TokenView) (a : Attribute) (rest : List TokenView) → AttributeLocated tokens a rest → length rest < length tokens
attribute_shorter tokens a rest h = StartsWith-shorter tokens (attribute_terminals a) rest (attribute_nonempty a) h.0

abbrev pub AttributesRead : List TokenView → List Attribute × List TokenView → Type 0
AttributesRead tokens found = AllRead AttributeLocated NoAttribute tokens found

abbrev pub AttributesCut : List TokenView → Refusal → Type 0
AttributesCut tokens refusal = Stopped AttributeLocated NoAttribute AttributeCut tokens refusal

pub attributes_outcome : (tokens : List TokenView) → MatchResult (attributes_read tokens) (AttributesRead tokens) (AttributesCut tokens)
unfolding attributes_read
attributes_outcome tokens = all_outcome AttributeLocated NoAttribute AttributeCut attribute_read attribute_outcome attribute_shorter (tt, tt) tokens

pub attributes_begin : (items : List Attribute) (tokens rest : List TokenView) → Chain AttributeLocated NoAttribute items tokens rest → StartsWith tokens (flat_map attribute_terminals items) rest
attributes_begin [] tokens rest h = h
attributes_begin (a ∷ items) tokens rest h = grind (arith, attributes_begin items h.0 rest h.2, StartsWith-append)

pub attributes_end : (items : List Attribute) (tokens rest : List TokenView) → Chain AttributeLocated NoAttribute items tokens rest → IsAfter (follow_attributes items) rest
attributes_end [] tokens rest h = IsAfter-none rest
attributes_end (a ∷ []) tokens rest h = subst (IsAfter (follow_attribute a)) h.2 h.1.1
attributes_end (a ∷ b ∷ items) tokens rest h = attributes_end (b ∷ items) h.0 rest h.2

-- ---- targets

abbrev pub TargetRefused : TokenView → Cause → Type 0
TargetRefused t cause = IsNotIdentifier t cause ⊎ IsLoneTarget t cause

-- what an export has without a target
abbrev pub first_of_absent_target : Option (List ℕ) → List TokenKind
first_of_absent_target None = Equal ∷ []
first_of_absent_target (Some value) = []

abbrev pub TargetRead : List TokenView → Option (List ℕ) × List TokenView → Type 0
TargetRead tokens target = StartsWith tokens (target_terminals target.0) target.1 × IsAfter (first_of_absent_target target.0) target.1

abbrev pub TargetCut : List TokenView → Refusal → Type 0
TargetCut tokens refusal = CutAfter tokens (Of Equal ∷ []) TargetRefused refusal

not_lone : (value : List ℕ) (word : AtWord) → at_word value ≡ word → word ≢ Lone → ¬ (IsLoneAt value)
not_lone value word e other lone = other (sym e ∙ at_word-is value Lone lone)

target_of_outcome : (first t : TokenView) (rest : List TokenView) → first.kind ≡ Equal → t.kind ≡ Identifier → (found : AtWord) → at_word t.value ≡ found
    → MatchResult (target_of found (t, rest)) (TargetRead (first ∷ t ∷ rest)) (TargetCut (first ∷ t ∷ rest))
target_of_outcome first t rest sign is Lone e = record {
  mid = t ∷ rest;
  begins = (sign, refl);
  refused = (inr (record { kind = is; lone = at_word-at t.value Lone e; reported = refl }), refl);
}
target_of_outcome first t rest sign is found e =
    ((sign, ((record { kind = is; value_is = refl }, not_lone t.value found e (λ h. absurd cc)), refl)), IsAfter-none rest)

target_from_outcome : (first : TokenView) (tokens : List TokenView) (word : TokenView × List TokenView) → first.kind ≡ Equal → WordRead tokens word → MatchResult (target_from word) (TargetRead (first ∷ tokens)) (TargetCut (first ∷ tokens))
target_from_outcome first tokens word sign h =
    subst (λ (s : List TokenView). MatchResult (target_from word) (TargetRead (first ∷ s)) (TargetCut (first ∷ s))) (sym h.0)
    (target_of_outcome first word.0 word.1 sign h.1 (at_word word.0.value) refl)

target_by_outcome : (kind : TokenKind) (t : TokenView) (rest : List TokenView) → t.kind ≡ kind → MatchResult (target_by kind t rest) (TargetRead (t ∷ rest)) (TargetCut (t ∷ rest))
target_by_outcome Equal t rest e =
    bind_outcome (WordRead rest) (AtFront IsNotIdentifier rest) (TargetRead (t ∷ rest)) (TargetCut (t ∷ rest)) (word_read rest) target_from (word_outcome rest)
    (λ word h. target_from_outcome t rest word e h)
    (λ refusal h. record { mid = rest; begins = (e, refl); refused = AtFront-weaker IsNotIdentifier TargetRefused (λ u c k. inl k) rest refusal h })
target_by_outcome kind t rest e = (refl, none_at t.kind kind (Equal ∷ []) e refl)

pub target_outcome : (tokens : List TokenView) → MatchResult (target_read tokens) (TargetRead tokens) (TargetCut tokens)
unfolding target_read
target_outcome [] = (refl, tt)
target_outcome (t ∷ rest) = target_by_outcome t.kind t rest refl
