-- What the readers give is derived so, and what they refuse is refused by the grammar: exports.
use Rattle.std.proofs.Common.{◌≡◌, ℕ, ◌<◌, inl, inr, List, [], ◌∷◌, ◌++◌, length, Option, Some, None, refl, sym, subst, arith}
use Rattle.std.specs.Result.{MatchResult}
use Rattle.std.specs.List.{flat_map}
use Rattle.implib.specs.declared.def.lexer.TokenKind.{TokenKind}
use Rattle.implib.specs.declared.def.lexer.TokenKind.TheVariants.{Identifier, Equal, EqualEqual}
use Rattle.implib.specs.Fault.{Cause}
use Rattle.implib.specs.Text.Grammar.{Attribute, Export, Terminal, Of, Word, Later, StartsWith, at_sign, attribute_terminals, target_terminals, export_terminals, exports_terminals}
use Rattle.implib.specs.Views.TokenReader.{Refusal, Plain, target_read, attributes_read, export_of, export_from, export_by, export_read, exports_read}
use Rattle.implib.specs.Text.SyntaxError.{IsNotIdentifier, follow_target, follow_export, follow_exports, bare}
use Rattle.implib.specs.Text.Token.{TokenView}
use Rattle.implib.proofs.Text.StartsWith.{IsAfter-append, StartsWith-append, StartsWith-shorter, IsAfter, AtFront}
use Rattle.implib.proofs.Text.Many.{bind_outcome, Chain, ItemRead, AllRead, Stopped, all_outcome}
use Rattle.implib.proofs.Text.ReadTerminals.{IsAfter-none}
use Rattle.implib.proofs.Text.ReadAttributes.{OrdinalRefused, TargetRefused, AttributeLocated, NoAttribute, AttributeCut, AttributesRead, AttributesCut, PlainFront, attributes_outcome, attributes_begin, attributes_end, first_of_absent_target, TargetRead, TargetCut, target_outcome}
use Rattle.implib.proofs.Text.TokenKinds.{none_at}
use Rattle.implib.proofs.Text.Words.{IsAtWord}

-- ---- an export that has begun

-- what has begun of an export: its target, an alias or an ordinal
pub data Part : Type 0 where
  TargetPart : List ℕ → Part
  AliasPart : Export → Part
  OrdinalPart : Export → Part

-- the export so far
abbrev pub part_export : Part → Export
part_export (TargetPart word) = bare word
part_export (AliasPart e) = e
part_export (OrdinalPart e) = e

-- what has begun
abbrev pub part_wanted : Part → Terminal
part_wanted (TargetPart word) = Of Equal
part_wanted (AliasPart e) = Of EqualEqual
part_wanted (OrdinalPart e) = Word (at_sign ∷ [])

abbrev pub part_refused : Part → TokenView → Cause → Type 0
part_refused (TargetPart word) = TargetRefused
part_refused (AliasPart e) = IsNotIdentifier
part_refused (OrdinalPart e) = OrdinalRefused

-- the export so far, what has begun, and then a token that is refused
pub record PartCut (tokens : List TokenView) (refusal : Refusal) : Type 0 where
  pub part : Part
  pub whole : List TokenView
  pub mid : List TokenView
  pub begins : StartsWith tokens (export_terminals Word (part_export part)) whole
  pub begun : StartsWith whole (part_wanted part ∷ []) mid
  pub refused : AtFront (part_refused part) mid refusal

-- ---- one export

-- the export is whole where it ends
pub record ExportEnds (e : Export) (rest : List TokenView) : Type 0 where
  pub kinds : IsAfter (follow_export e) rest
  pub plain : PlainFront rest

abbrev pub ExportLocated : List TokenView → Export → List TokenView → Type 0
ExportLocated tokens e rest = StartsWith tokens (export_terminals Word e) rest × ExportEnds e rest

-- no export begins here
abbrev pub NoExport : List TokenView → Type 0
NoExport tokens = IsAfter (Identifier ∷ []) tokens

abbrev pub ExportRead : List TokenView → Option Export × List TokenView → Type 0
ExportRead tokens found = ItemRead ExportLocated NoExport tokens found

after_target : (target : Option (List ℕ)) (items : List Attribute) (mid rest : List TokenView) → IsAfter (first_of_absent_target target) mid → Chain AttributeLocated NoAttribute items mid rest → IsAfter (follow_target target items) rest
after_target None [] mid rest h chain = subst (IsAfter (Equal ∷ [])) chain h
after_target None (a ∷ items) mid rest h chain = IsAfter-none rest
after_target (Some value) items mid rest h chain = IsAfter-none rest

whole_export : (t : TokenView) (tokens : List TokenView) (target : Option (List ℕ) × List TokenView) (found : List Attribute × List TokenView) → t.kind ≡ Identifier → TargetRead tokens target → AttributesRead target.1 found
    → ExportLocated (t ∷ tokens) (record { word = t.value; target = target.0; attributes = found.0 }) found.1
whole_export t tokens target found e h k = grind (arith, StartsWith-append, attributes_begin, IsAfter-append, after_target, attributes_end)

cut_attribute : (t : TokenView) (tokens : List TokenView) (target : Option (List ℕ) × List TokenView) (refusal : Refusal) → t.kind ≡ Identifier → TargetRead tokens target → (items : List Attribute) (mid : List TokenView) → Chain AttributeLocated NoAttribute items target.1 mid → AttributeCut mid refusal
    → PartCut (t ∷ tokens) refusal
cut_attribute t tokens target refusal e h items mid chain (inl c) = record {
  part = AliasPart (record { word = t.value; target = target.0; attributes = items });
  whole = mid;
  mid = c.mid;
  begins = (record { kind = e; value_is = refl }, StartsWith-append tokens (target_terminals target.0) (flat_map attribute_terminals items) target.1 mid h.0 (attributes_begin items target.1 mid chain));
  begun = c.begins;
  refused = c.refused;
}
cut_attribute t tokens target refusal e h items mid chain (inr c) = record {
  part = OrdinalPart (record { word = t.value; target = target.0; attributes = items });
  whole = mid;
  mid = c.mid;
  begins = (record { kind = e; value_is = refl }, StartsWith-append tokens (target_terminals target.0) (flat_map attribute_terminals items) target.1 mid h.0 (attributes_begin items target.1 mid chain));
  begun = c.begins;
  refused = c.refused;
}

cut_target : (t : TokenView) (tokens : List TokenView) (refusal : Refusal) → t.kind ≡ Identifier → TargetCut tokens refusal → PartCut (t ∷ tokens) refusal
cut_target t tokens refusal e c = record {
  part = TargetPart t.value;
  whole = tokens;
  mid = c.mid;
  begins = (record { kind = e; value_is = refl }, refl);
  begun = c.begins;
  refused = c.refused;
}

export_from_outcome : (t : TokenView) (tokens : List TokenView) (target : Option (List ℕ) × List TokenView) → t.kind ≡ Identifier → TargetRead tokens target → MatchResult (export_from t.value target) (ExportRead (t ∷ tokens)) (PartCut (t ∷ tokens))
export_from_outcome t tokens target e h =
    bind_outcome (AttributesRead target.1) (AttributesCut target.1) (ExportRead (t ∷ tokens)) (PartCut (t ∷ tokens)) (attributes_read target.1) (export_of t.value target.0) (attributes_outcome target.1)
    (λ found k. whole_export t tokens target found e h k)
    (λ refusal k. cut_attribute t tokens target refusal e h k.items k.mid k.chain k.refused)

export_by_outcome : (kind : TokenKind) (t : TokenView) (rest : List TokenView) → t.kind ≡ kind → MatchResult (export_by kind t rest) (ExportRead (t ∷ rest)) (PartCut (t ∷ rest))
export_by_outcome Identifier t rest e =
    bind_outcome (TargetRead rest) (TargetCut rest) (ExportRead (t ∷ rest)) (PartCut (t ∷ rest)) (target_read rest) (export_from t.value) (target_outcome rest)
    (λ target h. export_from_outcome t rest target e h)
    (λ refusal h. cut_target t rest refusal e h)
export_by_outcome kind t rest e = (refl, none_at t.kind kind (Identifier ∷ []) e refl)

pub export_outcome : (tokens : List TokenView) → MatchResult (export_read tokens) (ExportRead tokens) (PartCut tokens)
unfolding export_read
export_outcome [] = (refl, tt)
export_outcome (t ∷ rest) = export_by_outcome t.kind t rest refl

pub export_shorter : (tokens : List TokenView) (e : Export) (rest : List TokenView) → ExportLocated tokens e rest → length rest < length tokens
export_shorter tokens e rest h = StartsWith-shorter tokens (export_terminals Word e) rest (omega arith) h.0

-- ---- exports

abbrev pub ExportsRead : List TokenView → List Export × List TokenView → Type 0
ExportsRead tokens found = AllRead ExportLocated NoExport tokens found

abbrev pub ExportsCut : List TokenView → Refusal → Type 0
ExportsCut tokens refusal = Stopped ExportLocated NoExport PartCut tokens refusal

pub exports_outcome : (tokens : List TokenView) → MatchResult (exports_read tokens) (ExportsRead tokens) (ExportsCut tokens)
unfolding exports_read
exports_outcome tokens = all_outcome ExportLocated NoExport PartCut export_read export_outcome export_shorter tt tokens

-- a plain word can be the name of a later export
pub as_later : (tokens : List TokenView) (e : Export) (rest : List TokenView) → PlainFront tokens → StartsWith tokens (export_terminals Word e) rest → StartsWith tokens (export_terminals Later e) rest
as_later [] e rest plain h = absurd h
as_later (t ∷ tokens) e rest plain h =
    let is : IsAtWord Plain e.word = subst (IsAtWord Plain) h.0.value_is (plain h.0.kind) in
    (record { word = h.0; not_lone = is.0; not_ordinal = is.1 }, h.1)

-- exports one after another, and one more of which nothing is asked where it ends
later_exports : (items : List Export) (e : Export) (tokens mid rest : List TokenView) → PlainFront tokens → Chain ExportLocated NoExport items tokens mid → StartsWith mid (export_terminals Word e) rest
    → StartsWith tokens (exports_terminals Later (items ++ e ∷ [])) rest
later_exports [] e tokens mid rest plain chain h =
    StartsWith-append tokens (export_terminals Later e) [] rest rest (as_later tokens e rest plain (subst (λ (s : List TokenView). StartsWith s (export_terminals Word e) rest) (sym chain) h)) refl
later_exports (x ∷ items) e tokens mid rest plain chain h =
    StartsWith-append tokens (export_terminals Later x) (exports_terminals Later (items ++ e ∷ [])) chain.0 rest (as_later tokens x chain.0 plain chain.1.0) (later_exports items e chain.0 mid rest chain.1.1.plain chain.2 h)

pub exports_then : (items : List Export) (e : Export) (tokens mid rest : List TokenView) → Chain ExportLocated NoExport items tokens mid → StartsWith mid (export_terminals Word e) rest
    → StartsWith tokens (exports_terminals Word (items ++ e ∷ [])) rest
exports_then [] e tokens mid rest chain h = grind (arith, StartsWith-append)
exports_then (x ∷ items) e tokens mid rest chain h = grind (arith, StartsWith-append, later_exports, mid)

later_begin : (items : List Export) (tokens rest : List TokenView) → PlainFront tokens → Chain ExportLocated NoExport items tokens rest → StartsWith tokens (exports_terminals Later items) rest
later_begin [] tokens rest plain chain = chain
later_begin (x ∷ items) tokens rest plain chain =
    StartsWith-append tokens (export_terminals Later x) (exports_terminals Later items) chain.0 rest (as_later tokens x chain.0 plain chain.1.0) (later_begin items chain.0 rest chain.1.1.plain chain.2)

pub exports_begin : (items : List Export) (tokens rest : List TokenView) → Chain ExportLocated NoExport items tokens rest → StartsWith tokens (exports_terminals Word items) rest
exports_begin [] tokens rest chain = chain
exports_begin (x ∷ items) tokens rest chain = grind (arith, StartsWith-append, later_begin)

pub exports_end : (items : List Export) (tokens rest : List TokenView) → Chain ExportLocated NoExport items tokens rest → IsAfter (follow_exports items) rest
exports_end [] tokens rest chain = IsAfter-none rest
exports_end (x ∷ []) tokens rest chain = subst (IsAfter (follow_export x)) chain.2 chain.1.1.kinds
exports_end (x ∷ y ∷ items) tokens rest chain = exports_end (y ∷ items) chain.0 rest chain.2
