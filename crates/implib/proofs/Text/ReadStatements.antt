-- What the readers give is derived so, and what they refuse is refused by the grammar: statements.
use Rattle.std.proofs.Common.{◌≡◌, ◌≢◌, ℕ, ◌<◌, ◌⊎◌, inl, inr, List, [], ◌∷◌, ◌++◌, length, Option, refl, subst, arith}
use Rattle.std.specs.Result.{MatchResult}
use Rattle.implib.specs.declared.def.lexer.TokenKind.{TokenKind}
use Rattle.implib.specs.declared.def.lexer.TokenKind.TheVariants.{Eof, Identifier, Equal, EqualEqual, KwExports, KwHeapsize, KwLibrary, KwName, KwStacksize, KwVersion}
use Rattle.implib.specs.Fault.{Cause, UnknownDirective}
use Rattle.implib.specs.Text.Grammar.{Export, Region, Heap, Stack, Statement, Exports, Sizes, Nameless, Named, Version, Of, NameOrLibrary, Word, Matches, StartsWith, region_kind, export_terminals, exports_terminals, statement_terminals, terminals}
use Rattle.implib.specs.Views.TokenReader.{◌>>=◌, Refusal, sizes_read, version_read, name_read, exports_read, exports_from, region_from, some_statement, versions_from, statement_by, statement_read, statements_read}
use Rattle.implib.specs.Text.SyntaxError.{IsNoneOf, directives, follow, follow_exports, follow_last, PartialStatement, ToSize, ToSecondSize, ToBaseSign, ToBase, ToVersion, ToTarget, ToAlias, ToOrdinal, partial_terminals, IsUnexpectedAfter, bare}
use Rattle.implib.specs.Text.Token.{TokenView}
use Rattle.implib.proofs.Text.StartsWith.{IsAfter-append, StartsWith-append, StartsWith-shorter, IsAfter, AtFront}
use Rattle.implib.proofs.Text.Many.{bind_outcome, Chain, ItemRead, AllRead, Stopped, all_outcome}
use Rattle.implib.proofs.Text.ReadTerminals.{IsAfter-none, SizesRead, SizesCut, sizes_outcome, VersionRead, VersionRefused, version_outcome, NameRead, NameCut, BaseCut, name_outcome}
use Rattle.implib.proofs.Text.ReadExports.{Part, TargetPart, AliasPart, OrdinalPart, part_export, part_wanted, part_refused, ExportLocated, NoExport, ExportsRead, ExportsCut, exports_outcome, exports_then, exports_begin, exports_end}
use Rattle.implib.proofs.Text.TokenKinds.{none_at, not_at}

-- a statement before what follows it
abbrev pub StatementLocated : List TokenView → Statement → List TokenView → Type 0
StatementLocated tokens s rest = StartsWith tokens (statement_terminals s) rest × IsAfter (follow s) rest

-- the end is here
abbrev pub NoStatement : List TokenView → Type 0
NoStatement [] = Unit {0}
NoStatement (t ∷ rest) = t.kind ≡ Eof

abbrev pub StatementRead : List TokenView → Option Statement × List TokenView → Type 0
StatementRead tokens found = ItemRead StatementLocated NoStatement tokens found

-- a token that begins no statement
pub record BeginsNone (t : TokenView) (cause : Cause) : Type 0 where
  pub not_end : t.kind ≢ Eof
  pub no_directive : IsNoneOf t.kind directives
  pub reported : cause ≡ UnknownDirective t.value

-- a statement that has begun, and then a token that is refused
pub record StartedCut (tokens : List TokenView) (refusal : Refusal) : Type 0 where
  pub partial : PartialStatement
  pub mid : List TokenView
  pub begins : StartsWith tokens (partial_terminals partial) mid
  pub refused : AtFront (IsUnexpectedAfter partial) mid refusal

abbrev pub StatementCut : List TokenView → Refusal → Type 0
StatementCut tokens refusal = AtFront BeginsNone tokens refusal ⊎ StartedCut tokens refusal

-- ---- each kind of statement

cut_part : (t : TokenView) (rest : List TokenView) (items : List Export) (next : List TokenView) (refusal : Refusal) → t.kind ≡ KwExports → Chain ExportLocated NoExport items rest next
    → (part : Part) (whole mid : List TokenView) → StartsWith next (export_terminals Word (part_export part)) whole → StartsWith whole (part_wanted part ∷ []) mid → AtFront (part_refused part) mid refusal
    → StatementCut (t ∷ rest) refusal
cut_part t rest items next refusal e chain (TargetPart word) whole mid begins begun refused = inr (record {
  partial = ToTarget items word;
  mid = mid;
  begins = (e, StartsWith-append rest (exports_terminals Word (items ++ bare word ∷ [])) (Of Equal ∷ []) whole mid (exports_then items (bare word) rest next whole chain begins) begun);
  refused = refused;
})
cut_part t rest items next refusal e chain (AliasPart last) whole mid begins begun refused = inr (record {
  partial = ToAlias items last;
  mid = mid;
  begins = (e, StartsWith-append rest (exports_terminals Word (items ++ last ∷ [])) (Of EqualEqual ∷ []) whole mid (exports_then items last rest next whole chain begins) begun);
  refused = refused;
})
cut_part t rest items next refusal e chain (OrdinalPart last) whole mid begins begun refused = inr (record {
  partial = ToOrdinal items last;
  mid = mid;
  begins = (e, StartsWith-append rest (exports_terminals Word (items ++ last ∷ [])) (part_wanted (OrdinalPart last) ∷ []) whole mid (exports_then items last rest next whole chain begins) begun);
  refused = refused;
})

exports_statement : (t : TokenView) (rest : List TokenView) → t.kind ≡ KwExports → MatchResult (exports_read rest >>= exports_from) (StatementRead (t ∷ rest)) (StatementCut (t ∷ rest))
exports_statement t rest e =
    bind_outcome (ExportsRead rest) (ExportsCut rest) (StatementRead (t ∷ rest)) (StatementCut (t ∷ rest)) (exports_read rest) exports_from (exports_outcome rest)
    (λ found k. ((e, exports_begin found.0 rest found.1 k.0), IsAfter-append (Identifier ∷ []) (follow_exports found.0) found.1 k.1 (exports_end found.0 rest found.1 k.0)))
    (λ refusal k. cut_part t rest k.items k.mid refusal e k.chain k.refused.part k.refused.whole k.refused.mid k.refused.begins k.refused.begun k.refused.refused)

cut_sizes : (t : TokenView) (rest : List TokenView) (region : Region) (refusal : Refusal) → t.kind ≡ region_kind region → SizesCut rest refusal → StatementCut (t ∷ rest) refusal
cut_sizes t rest region refusal e (inl h) = inr (record { partial = ToSize region; mid = rest; begins = (e, refl); refused = h })
cut_sizes t rest region refusal e (inr c) = inr (record { partial = ToSecondSize region c.0; mid = c.1.mid; begins = (e, c.1.begins); refused = c.1.refused })

sizes_statement : (t : TokenView) (rest : List TokenView) (region : Region) → t.kind ≡ region_kind region → MatchResult (sizes_read rest >>= region_from region) (StatementRead (t ∷ rest)) (StatementCut (t ∷ rest))
sizes_statement t rest region e =
    bind_outcome (SizesRead rest) (SizesCut rest) (StatementRead (t ∷ rest)) (StatementCut (t ∷ rest)) (sizes_read rest) (region_from region) (sizes_outcome rest)
    (λ sizes k. ((e, k.0), k.1))
    (λ refusal k. cut_sizes t rest region refusal e k)

cut_base : (t : TokenView) (rest : List TokenView) (name : List ℕ) (refusal : Refusal) → BaseCut (NameOrLibrary ∷ Word name ∷ []) (t ∷ rest) refusal → StatementCut (t ∷ rest) refusal
cut_base t rest name refusal (inl c) = inr (record { partial = ToBaseSign name; mid = c.mid; begins = c.begins; refused = c.refused })
cut_base t rest name refusal (inr c) = inr (record { partial = ToBase name; mid = c.mid; begins = c.begins; refused = c.refused })

name_statement : (t : TokenView) (rest : List TokenView) → Matches NameOrLibrary t → MatchResult (name_read rest >>= some_statement) (StatementRead (t ∷ rest)) (StatementCut (t ∷ rest))
name_statement t rest is =
    bind_outcome (NameRead (t ∷ rest)) (NameCut (t ∷ rest)) (StatementRead (t ∷ rest)) (StatementCut (t ∷ rest)) (name_read rest) some_statement (name_outcome t is rest)
    (λ statement k. k)
    (λ refusal k. cut_base t rest k.0 refusal k.1)

version_statement : (t : TokenView) (rest : List TokenView) → t.kind ≡ KwVersion → MatchResult (version_read rest >>= versions_from) (StatementRead (t ∷ rest)) (StatementCut (t ∷ rest))
version_statement t rest e =
    bind_outcome (VersionRead rest) (AtFront VersionRefused rest) (StatementRead (t ∷ rest)) (StatementCut (t ∷ rest)) (version_read rest) versions_from (version_outcome rest)
    (λ version k. ((e, k), IsAfter-none version.1))
    (λ refusal k. inr (record { partial = ToVersion; mid = rest; begins = (e, refl); refused = k }))

statement_by_outcome : (kind : TokenKind) (t : TokenView) (rest : List TokenView) → t.kind ≡ kind → MatchResult (statement_by kind t rest) (StatementRead (t ∷ rest)) (StatementCut (t ∷ rest))
statement_by_outcome Eof t rest e = (refl, e)
statement_by_outcome KwExports t rest e = exports_statement t rest e
statement_by_outcome KwHeapsize t rest e = sizes_statement t rest Heap e
statement_by_outcome KwStacksize t rest e = sizes_statement t rest Stack e
statement_by_outcome KwName t rest e = name_statement t rest (inl e)
statement_by_outcome KwLibrary t rest e = name_statement t rest (inr e)
statement_by_outcome KwVersion t rest e = version_statement t rest e
statement_by_outcome kind t rest e = inl (record { not_end = not_at t.kind kind Eof e refl; no_directive = none_at t.kind kind directives e refl; reported = refl }, refl)

pub statement_outcome : (tokens : List TokenView) → MatchResult (statement_read tokens) (StatementRead tokens) (StatementCut tokens)
unfolding statement_read
statement_outcome [] = (refl, tt)
statement_outcome (t ∷ rest) = statement_by_outcome t.kind t rest refl

-- ---- statements

pub statement_nonempty : (s : Statement) → 0 < length (statement_terminals s)
statement_nonempty (Exports items) = omega arith
statement_nonempty (Sizes region reserve commit) = omega arith
statement_nonempty Nameless = omega arith
statement_nonempty (Named name base) = omega arith
statement_nonempty (Version major minor) = omega arith

pub statement_shorter : (tokens : List TokenView) (s : Statement) (rest : List TokenView) → StatementLocated tokens s rest → length rest < length tokens
statement_shorter tokens s rest h = StartsWith-shorter tokens (statement_terminals s) rest (statement_nonempty s) h.0

abbrev pub StatementsRead : List TokenView → List Statement × List TokenView → Type 0
StatementsRead tokens found = AllRead StatementLocated NoStatement tokens found

abbrev pub StatementsCut : List TokenView → Refusal → Type 0
StatementsCut tokens refusal = Stopped StatementLocated NoStatement StatementCut tokens refusal

pub statements_outcome : (tokens : List TokenView) → MatchResult (statements_read tokens) (StatementsRead tokens) (StatementsCut tokens)
unfolding statements_read
statements_outcome tokens = all_outcome StatementLocated NoStatement StatementCut statement_read statement_outcome statement_shorter tt tokens

pub statements_begin : (items : List Statement) (tokens rest : List TokenView) → Chain StatementLocated NoStatement items tokens rest → StartsWith tokens (terminals items) rest
statements_begin [] tokens rest chain = chain
statements_begin (s ∷ items) tokens rest chain = grind (arith, statements_begin items chain.0 rest chain.2, StartsWith-append)

pub statements_end : (items : List Statement) (tokens rest : List TokenView) → Chain StatementLocated NoStatement items tokens rest → IsAfter (follow_last items) rest
statements_end [] tokens rest chain = IsAfter-none rest
statements_end (s ∷ []) tokens rest chain = subst (IsAfter (follow s)) chain.2 chain.1.1
statements_end (s ∷ u ∷ items) tokens rest chain = statements_end (u ∷ items) chain.0 rest chain.2
