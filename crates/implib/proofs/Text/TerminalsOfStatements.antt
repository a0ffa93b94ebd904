-- What is derived is read so, and what the grammar refuses the readers refuse: statements.
use Rattle.std.proofs.Common.{arith, ◌≡◌, ◌≢◌, ℕ, inl, inr, List, [], ◌∷◌, ◌++◌, Option, Some, None, Ok, Err, refl, sym, ap, subst, ◌∙◌}
use Rattle.implib.specs.declared.def.lexer.TokenKind.{TokenKind}
use Rattle.implib.specs.declared.def.lexer.TokenKind.TheVariants.{Eof, Identifier, Comma, Equal, EqualEqual, KwBase, KwExports, KwHeapsize, KwLibrary, KwName, KwStacksize, KwVersion}
use Rattle.implib.specs.Fault.{Cause, UnknownDirective}
use Rattle.implib.specs.Text.Grammar.{Export, Region, Heap, Stack, Statement, Exports, Sizes, Nameless, Named, Version, Terminal, Of, NameOrLibrary, Word, Matches, StartsWith, Sentence, at_sign, region_kind, export_terminals, exports_terminals, statement_terminals, terminals}
use Rattle.implib.specs.Views.TokenReader.{◌>>=◌, Refusal, refusal_of, sizes_read, version_read, name_read, export_read, exports_read, exports_from, region_from, some_statement, versions_from, statement_by, statement_read, statements_read}
use Rattle.implib.specs.Text.SyntaxError.{IsNoneOf, IsSyntaxError, unexpected_token, directives, follow, follow_size, follow_name, follow_exports, follow_last, PartialStatement, ToSize, ToSecondSize, ToBaseSign, ToBase, ToVersion, ToTarget, ToAlias, ToOrdinal, partial_terminals, IsUnexpectedAfter, bare}
use Rattle.implib.specs.Text.Token.{TokenView}
use Rattle.implib.proofs.Text.StartsWith.{StartsWith-parted, StartsWith-append, StartsWith-shorter, IsAfter}
use Rattle.implib.proofs.Text.Many.{bind_ok, bind_err, Takes, AreRead, all_again, all_refused}
use Rattle.implib.proofs.Text.ReadStatements.{statement_nonempty}
use Rattle.implib.proofs.Text.TerminalsRead.{sizes_again, size_refused, second_size_refused, version_again, version_refused, no_name_again, name_again, name_sign_refused, name_number_refused}
use Rattle.implib.proofs.Text.TerminalsOfExports.{export_kinds, clear_export, exports_again, export_stops, target_stops, alias_stops, ordinal_stops}
use Rattle.implib.proofs.Text.TokenKinds.{none_at}

-- ---- what can go on a statement, whatever it holds

abbrev statement_kinds : List TokenKind
statement_kinds = Identifier ∷ Comma ∷ KwBase ∷ export_kinds

clear_exports : (items : List Export) (kind : TokenKind) → IsNoneOf kind export_kinds → IsNoneOf kind (follow_exports items)
clear_exports [] kind h = tt
clear_exports (e ∷ []) kind h = clear_export e kind h
clear_exports (e ∷ next ∷ items) kind h = clear_exports (next ∷ items) kind h

clear_size : (commit : Option ℕ) (kind : TokenKind) → kind ≢ Comma → IsNoneOf kind (follow_size commit)
clear_size None kind h = (h, tt)
clear_size (Some n) kind h = tt

clear_name : (base : Option ℕ) (kind : TokenKind) → kind ≢ KwBase → IsNoneOf kind (follow_name base)
clear_name None kind h = (h, tt)
clear_name (Some n) kind h = tt

clear_statement : (s : Statement) (kind : TokenKind) → IsNoneOf kind statement_kinds → IsNoneOf kind (follow s)
clear_statement (Exports items) kind h = (h.0, clear_exports items kind h.1.1.1)
clear_statement (Sizes region reserve commit) kind h = clear_size commit kind h.1.0
clear_statement Nameless kind h = (h.0, tt)
clear_statement (Named name base) kind h = clear_name base kind h.1.1.0
clear_statement (Version major minor) kind h = tt

clear_statements : (items : List Statement) (kind : TokenKind) → IsNoneOf kind statement_kinds → IsNoneOf kind (follow_last items)
clear_statements [] kind h = tt
clear_statements (s ∷ []) kind h = clear_statement s kind h
clear_statements (s ∷ next ∷ items) kind h = clear_statements (next ∷ items) kind h

clear_after : (s : Statement) (tokens : List TokenView) → IsAfter statement_kinds tokens → IsAfter (follow s) tokens
clear_after s [] h = tt
clear_after s (t ∷ rest) h = clear_statement s t.kind h

clear_last : (items : List Statement) (tokens : List TokenView) → IsAfter statement_kinds tokens → IsAfter (follow_last items) tokens
clear_last items [] h = tt
clear_last items (t ∷ rest) h = clear_statements items t.kind h

-- ---- a statement begins with a directive, which goes on none

region_first : (region : Region) (t : TokenView) → t.kind ≡ region_kind region → IsNoneOf t.kind statement_kinds
region_first Heap t e = none_at t.kind KwHeapsize statement_kinds e refl
region_first Stack t e = none_at t.kind KwStacksize statement_kinds e refl

name_first : (t : TokenView) → Matches NameOrLibrary t → IsNoneOf t.kind statement_kinds
name_first t (inl e) = none_at t.kind KwName statement_kinds e refl
name_first t (inr e) = none_at t.kind KwLibrary statement_kinds e refl

statement_first : (s : Statement) (more : List Terminal) (tokens rest : List TokenView) → StartsWith tokens (statement_terminals s ++ more) rest → IsAfter statement_kinds tokens
statement_first s more [] rest h = tt
statement_first (Exports items) more (t ∷ tokens) rest h = none_at t.kind KwExports statement_kinds h.0 refl
statement_first (Sizes region reserve commit) more (t ∷ tokens) rest h = region_first region t h.0
statement_first Nameless more (t ∷ tokens) rest h = name_first t h.0
statement_first (Named name base) more (t ∷ tokens) rest h = name_first t h.0
statement_first (Version major minor) more (t ∷ tokens) rest h = none_at t.kind KwVersion statement_kinds h.0 refl

started_first : (partial : PartialStatement) (tokens rest : List TokenView) → StartsWith tokens (partial_terminals partial) rest → IsAfter statement_kinds tokens
started_first partial [] rest h = tt
started_first (ToSize region) (t ∷ tokens) rest h = region_first region t h.0
started_first (ToSecondSize region n) (t ∷ tokens) rest h = region_first region t h.0
started_first (ToBaseSign name) (t ∷ tokens) rest h = name_first t h.0
started_first (ToBase name) (t ∷ tokens) rest h = name_first t h.0
started_first ToVersion (t ∷ tokens) rest h = none_at t.kind KwVersion statement_kinds h.0 refl
started_first (ToTarget exports word) (t ∷ tokens) rest h = none_at t.kind KwExports statement_kinds h.0 refl
started_first (ToAlias exports last) (t ∷ tokens) rest h = none_at t.kind KwExports statement_kinds h.0 refl
started_first (ToOrdinal exports last) (t ∷ tokens) rest h = none_at t.kind KwExports statement_kinds h.0 refl

-- what has begun has a token
started_some : (partial : PartialStatement) (t : TokenView) (rest : List TokenView) → StartsWith [] (partial_terminals partial) (t ∷ rest) → ⊥
started_some (ToSize region) t rest h = h
started_some (ToSecondSize region n) t rest h = h
started_some (ToBaseSign name) t rest h = h
started_some (ToBase name) t rest h = h
started_some ToVersion t rest h = h
started_some (ToTarget exports word) t rest h = h
started_some (ToAlias exports last) t rest h = h
started_some (ToOrdinal exports last) t rest h = h

-- ---- one statement

at_kind : (t : TokenView) (rest : List TokenView) (kind : TokenKind) → t.kind ≡ kind → statement_read (t ∷ rest) ≡ statement_by kind t rest
unfolding statement_read
at_kind t rest kind e = ap (λ (k : TokenKind). statement_by k t rest) e

at_region : (t : TokenView) (rest : List TokenView) (region : Region) → t.kind ≡ region_kind region → statement_read (t ∷ rest) ≡ (sizes_read rest >>= region_from region)
at_region t rest Heap e = at_kind t rest KwHeapsize e
at_region t rest Stack e = at_kind t rest KwStacksize e

at_name : (t : TokenView) (rest : List TokenView) → Matches NameOrLibrary t → statement_read (t ∷ rest) ≡ (name_read rest >>= some_statement)
at_name t rest (inl e) = at_kind t rest KwName e
at_name t rest (inr e) = at_kind t rest KwLibrary e

statement_again : (s : Statement) (tokens rest : List TokenView) → StartsWith tokens (statement_terminals s) rest → IsAfter (follow s) rest → statement_read tokens ≡ Ok (Some s, rest)
statement_again (Exports items) [] rest h after = absurd h
statement_again (Exports items) (t ∷ tokens) rest h after =
    at_kind t tokens KwExports h.0 ∙ bind_ok (exports_read tokens) exports_from (items, rest) (Ok (Some (Exports items), rest)) (exports_again items tokens rest h.1 after) refl
statement_again (Sizes region reserve commit) [] rest h after = absurd h
statement_again (Sizes region reserve commit) (t ∷ tokens) rest h after =
    at_region t tokens region h.0
    ∙ bind_ok (sizes_read tokens) (region_from region) ((reserve, commit), rest) (Ok (Some (Sizes region reserve commit), rest)) (sizes_again reserve commit tokens rest h.1 after) refl
statement_again Nameless [] rest h after = absurd h
statement_again Nameless (t ∷ tokens) rest h after = grind (arith, at_name, bind_ok, no_name_again)
statement_again (Named name base) [] rest h after = absurd h
statement_again (Named name base) (t ∷ []) rest h after = absurd h.1
statement_again (Named name base) (t ∷ u ∷ tokens) rest h after =
    at_name t (u ∷ tokens) h.0
    ∙ bind_ok (name_read (u ∷ tokens)) some_statement (Named name base, rest) (Ok (Some (Named name base), rest)) (name_again name base u tokens rest h.1.0 h.1.1 after) refl
statement_again (Version major minor) [] rest h after = absurd h
statement_again (Version major minor) (t ∷ []) rest h after = absurd h.1
statement_again (Version major minor) (t ∷ u ∷ tokens) rest h after =
    at_kind t (u ∷ tokens) KwVersion h.0
    ∙ bind_ok (version_read (u ∷ tokens)) versions_from ((major, minor), tokens) (Ok (Some (Version major minor), rest)) (version_again u major minor tokens h.1.0.0 h.1.0.1) (ap (λ (s : List TokenView). Ok (Some (Version major minor), s)) h.1.1)

statement_by_other : (kind : TokenKind) (t : TokenView) (rest : List TokenView) → kind ≢ Eof → IsNoneOf kind directives → statement_by kind t rest ≡ Err (refusal_of (UnknownDirective t.value) t)
statement_by_other Eof t rest other h = absurd (other refl)
statement_by_other KwExports t rest other h = absurd (h.0 refl)
statement_by_other KwHeapsize t rest other h = absurd (h.1.0 refl)
statement_by_other KwStacksize t rest other h = absurd (h.1.1.0 refl)
statement_by_other KwName t rest other h = absurd (h.1.1.1.0 refl)
statement_by_other KwLibrary t rest other h = absurd (h.1.1.1.1.0 refl)
statement_by_other KwVersion t rest other h = absurd (h.1.1.1.1.1.0 refl)
statement_by_other kind t rest other h = refl

unknown_refused : (t : TokenView) (rest : List TokenView) (cause : Cause) → t.kind ≢ Eof → IsNoneOf t.kind directives → cause ≡ UnknownDirective t.value → statement_read (t ∷ rest) ≡ Err (refusal_of cause t)
unfolding statement_read
unknown_refused t rest cause other h reported = statement_by_other t.kind t rest other h ∙ ap (λ (c : Cause). Err (refusal_of c t)) (sym reported)

-- ---- a statement that has begun

exports_stop : (items : List Export) (last : Export) (begun : Terminal) (first : TokenView) (tokens : List TokenView) (t : TokenView) (rest : List TokenView) (refusal : Refusal) → first.kind ≡ KwExports
    → StartsWith tokens (exports_terminals Word (items ++ last ∷ []) ++ begun ∷ []) (t ∷ rest)
    → ((mid whole : List TokenView) → StartsWith mid (export_terminals Word last) whole → StartsWith whole (begun ∷ []) (t ∷ rest) → export_read mid ≡ Err refusal)
    → statement_read (first ∷ tokens) ≡ Err refusal
exports_stop items last begun first tokens t rest refusal e h refused =
    let p = StartsWith-parted tokens (exports_terminals Word (items ++ last ∷ [])) (begun ∷ []) (t ∷ rest) h in
    at_kind first tokens KwExports e
    ∙ bind_err (exports_read tokens) exports_from refusal (export_stops items last tokens p.mid refusal p.front (λ mid back. refused mid p.mid back p.back))

target_so_far : (word : List ℕ) (mid whole : List TokenView) (t : TokenView) (rest : List TokenView) (cause : Cause) → StartsWith mid (export_terminals Word (bare word)) whole → StartsWith whole (Of Equal ∷ []) (t ∷ rest) → IsUnexpectedAfter (ToTarget [] word) t cause → export_read mid ≡ Err (refusal_of cause t)
target_so_far word mid whole t rest cause back begun refused =
    target_stops word mid t rest cause (StartsWith-append mid (export_terminals Word (bare word)) (Of Equal ∷ []) whole (t ∷ rest) back begun) refused

started_refused : (partial : PartialStatement) (tokens : List TokenView) (t : TokenView) (rest : List TokenView) (cause : Cause) → StartsWith tokens (partial_terminals partial) (t ∷ rest) → IsUnexpectedAfter partial t cause → statement_read tokens ≡ Err (refusal_of cause t)
started_refused (ToSize region) [] t rest cause h refused = absurd h
started_refused (ToSize region) (u ∷ tokens) t rest cause h refused =
    at_region u tokens region h.0 ∙ bind_err (sizes_read tokens) (region_from region) (refusal_of cause t) (ap sizes_read h.1 ∙ size_refused t rest cause refused)
started_refused (ToSecondSize region n) [] t rest cause h refused = absurd h
started_refused (ToSecondSize region n) (u ∷ tokens) t rest cause h refused =
    at_region u tokens region h.0 ∙ bind_err (sizes_read tokens) (region_from region) (refusal_of cause t) (second_size_refused n tokens t rest cause h.1 refused)
started_refused (ToBaseSign name) [] t rest cause h refused = absurd h
started_refused (ToBaseSign name) (u ∷ []) t rest cause h refused = absurd h.1
started_refused (ToBaseSign name) (u ∷ word ∷ []) t rest cause h refused = absurd h.1.1
started_refused (ToBaseSign name) (u ∷ word ∷ base ∷ tokens) t rest cause h refused =
    at_name u (word ∷ base ∷ tokens) h.0
    ∙ bind_err (name_read (word ∷ base ∷ tokens)) some_statement (refusal_of cause t)
    (ap (λ (s : List TokenView). name_read (word ∷ base ∷ s)) h.1.1.1 ∙ name_sign_refused name word base t rest cause h.1.0 h.1.1.0 refused)
started_refused (ToBase name) [] t rest cause h refused = absurd h
started_refused (ToBase name) (u ∷ []) t rest cause h refused = absurd h.1
started_refused (ToBase name) (u ∷ word ∷ []) t rest cause h refused = absurd h.1.1
started_refused (ToBase name) (u ∷ word ∷ base ∷ []) t rest cause h refused = absurd h.1.1.1
started_refused (ToBase name) (u ∷ word ∷ base ∷ sign ∷ tokens) t rest cause h refused =
    at_name u (word ∷ base ∷ sign ∷ tokens) h.0
    ∙ bind_err (name_read (word ∷ base ∷ sign ∷ tokens)) some_statement (refusal_of cause t)
    (ap (λ (s : List TokenView). name_read (word ∷ base ∷ sign ∷ s)) h.1.1.1.1 ∙ name_number_refused name word base sign t rest cause h.1.0 h.1.1.0 h.1.1.1.0 refused)
started_refused ToVersion [] t rest cause h refused = absurd h
started_refused ToVersion (u ∷ tokens) t rest cause h refused =
    at_kind u tokens KwVersion h.0 ∙ bind_err (version_read tokens) versions_from (refusal_of cause t) (ap version_read h.1 ∙ version_refused t rest cause refused)
started_refused (ToTarget exports word) [] t rest cause h refused = absurd h
started_refused (ToTarget exports word) (u ∷ tokens) t rest cause h refused =
    exports_stop exports (bare word) (Of Equal) u tokens t rest (refusal_of cause t) h.0 h.1 (λ mid whole back begun. target_so_far word mid whole t rest cause back begun refused)
started_refused (ToAlias exports last) [] t rest cause h refused = absurd h
started_refused (ToAlias exports last) (u ∷ tokens) t rest cause h refused =
    exports_stop exports last (Of EqualEqual) u tokens t rest (refusal_of cause t) h.0 h.1 (λ mid whole back begun. alias_stops last mid whole t rest cause back begun refused)
started_refused (ToOrdinal exports last) [] t rest cause h refused = absurd h
started_refused (ToOrdinal exports last) (u ∷ tokens) t rest cause h refused =
    exports_stop exports last (Word (at_sign ∷ [])) u tokens t rest (refusal_of cause t) h.0 h.1 (λ mid whole back begun. ordinal_stops last mid whole t rest cause back begun refused)

-- ---- statements

take_statement : (s : Statement) (tokens rest : List TokenView) → StartsWith tokens (statement_terminals s) rest → IsAfter (follow s) rest → Takes statement_read tokens s rest
take_statement s tokens rest h after = grind (arith, statement_again, StartsWith-shorter, statement_nonempty)

statements_chain : (items : List Statement) (tokens rest : List TokenView) → StartsWith tokens (terminals items) rest → IsAfter (follow_last items) rest → AreRead statement_read items tokens rest
statements_chain [] tokens rest h after = h
statements_chain (s ∷ []) tokens rest h after =
    let p = StartsWith-parted tokens (statement_terminals s) [] rest h in
    (p.mid, take_statement s tokens p.mid p.front (subst (IsAfter (follow s)) (sym p.back) after), p.back)
statements_chain (s ∷ next ∷ items) tokens rest h after =
    let p = StartsWith-parted tokens (statement_terminals s) (terminals (next ∷ items)) rest h in
    let ends = clear_after s p.mid (statement_first next (terminals items) p.mid rest p.back) in
    (p.mid, take_statement s tokens p.mid p.front ends, statements_chain (next ∷ items) p.mid rest p.back after)

end_read : (t : TokenView) (rest : List TokenView) → t.kind ≡ Eof → statement_read (t ∷ rest) ≡ Ok (None, t ∷ rest)
end_read t rest e = at_kind t rest Eof e

-- what is derived is read
pub sentence-read : (tokens : List TokenView) (statements : List Statement) → Sentence tokens statements → (rest : List TokenView) × (statements_read tokens ≡ Ok (statements, rest))
unfolding statements_read
sentence-read tokens statements h = grind (arith, StartsWith-parted, all_again, statements_chain, clear_last, none_at, end_read)

-- what the grammar refuses is refused for that cause, at that token
pub broken-refused : (tokens : List TokenView) (cause : Cause) → (b : IsSyntaxError tokens cause) → statements_read tokens ≡ Err (refusal_of cause (unexpected_token b))
unfolding statements_read
broken-refused tokens cause (inl b) =
    all_refused statement_read b.statements tokens b.token b.rest (refusal_of cause b.token) (statements_chain b.statements tokens (b.token ∷ b.rest) b.begins b.not_in_follow) (unknown_refused b.token b.rest cause b.not_end b.no_directive b.reported)
broken-refused tokens cause (inr b) =
    let p = StartsWith-parted tokens (terminals b.statements) (partial_terminals b.partial) (b.token ∷ b.rest) b.begins in stopped p.mid p.front p.back
  where
    stopped : (mid : List TokenView) → StartsWith tokens (terminals b.statements) mid → StartsWith mid (partial_terminals b.partial) (b.token ∷ b.rest) → statements_read tokens ≡ Err (refusal_of cause b.token)
    stopped [] front back = absurd (started_some b.partial b.token b.rest back)
    stopped (t ∷ rest) front back =
        all_refused statement_read b.statements tokens t rest (refusal_of cause b.token)
        (statements_chain b.statements tokens (t ∷ rest) front (clear_last b.statements (t ∷ rest) (started_first b.partial (t ∷ rest) (b.token ∷ b.rest) back)))
        (started_refused b.partial (t ∷ rest) b.token b.rest cause back b.refused)
