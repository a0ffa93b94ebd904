-- The warnings of a text are in the order of their offsets.
use Rattle.std.proofs.Common.{◌≡◌, ◌∙◌, ℕ, suc, ◌+◌, ◌≤◌, Bool, false, List, [], ◌∷◌, ◌++◌, Option, append_assoc, append-nil, arith, fold, length, map, subst, sym, ◌||◌}
use Rattle.std.proofs.lemmas.List.{length-append}
use Rattle.std.specs.Str.{IsUtf8, trim, trim_end}
use Rattle.implib.specs.declared.def.lexer.TokenKind.TheVariants as kind
use Rattle.implib.specs.declared.def.position.Position.{Position}
use Rattle.implib.specs.Definition.{ExportView}
use Rattle.implib.specs.Text.Heard.{Heard, IsHeard}
use Rattle.implib.specs.Text.Position.{position_at}
use Rattle.implib.specs.Text.Token.{Blank, Comment, CommaSign, EqualSign, EqualSigns, LastComment, Lexeme, Quoted, TokenView, Unclosed, Word}
use Rattle.implib.specs.Text.Token.{kind_of_word, lexeme_text, tokens_of, tokens_of_lexeme, value_start}
use Rattle.implib.proofs.Text.HeardNames.{whole_of}
use Rattle.implib_rules.specs.declared.places.Place.{Place}
use Rattle.implib_rules.specs.declared.places.Site.{Site}
use Rattle.implib_rules.specs.Places.{Walked, is_heading, placed, places_in, site_at, started, walked, walked_on}
use Rattle.implib_rules.specs.Options.{LibraryOptionsView}
use Rattle.implib_rules.specs.Warnings.{Ascends, NoticeView, WarningView, asked_warnings, index_after}
use Rattle.implib_rules.specs.Warnings.{no_export_notice, other_kind_notice}
use Rattle.implib_rules.specs.Warnings.{warned, warnings_at, warnings_at_site, warnings_from, warnings_of, whole}

-- each token is at this offset or after it, and none is before the one that it follows
abbrev TokensFrom : ℕ → List TokenView → Type 0
TokensFrom offset [] = Unit {0}
TokensFrom offset (token ∷ tokens) = (offset ≤ token.at) × TokensFrom token.at tokens

tokens_from-less : (less offset : ℕ) (tokens : List TokenView) → less ≤ offset → TokensFrom offset tokens → TokensFrom less tokens
tokens_from-less less offset [] order from = tt
tokens_from-less less offset (token ∷ tokens) order from = (omega (arith, order, from.0), from.1)

-- a token within its lexeme, before those of the lexemes after it
one_token : (offset : ℕ) (token : TokenView) (more : ℕ) (tokens : List TokenView) → offset ≤ token.at → token.at ≤ offset + more
    → TokensFrom (offset + more) tokens → TokensFrom offset (token ∷ tokens)
one_token offset token more tokens below within rest = (below, tokens_from-less token.at (offset + more) tokens within rest)

quoted_within : (offset : ℕ) (inside : List ℕ) → offset + 1 + value_start inside ≤ offset + suc (length (inside ++ 34 ∷ []))
quoted_within offset inside = grind (arith, length-append)

-- the tokens of a lexeme, and then those of the lexemes after it
by_lexeme : (offset : ℕ) (lexeme : Lexeme) (rest : List TokenView) → TokensFrom (offset + length (lexeme_text lexeme)) rest
    → TokensFrom offset (tokens_of_lexeme offset lexeme ++ rest)
by_lexeme offset (Blank character) rest from = tokens_from-less offset _ rest (omega arith) from
by_lexeme offset (Comment line) rest from = tokens_from-less offset _ rest (omega arith) from
by_lexeme offset (LastComment line) rest from = tokens_from-less offset _ rest (omega arith) from
by_lexeme offset EqualSign rest from = one_token offset (record { kind = kind.Equal; value = 61 ∷ []; at = offset }) 1 rest (omega arith) (omega arith) from
by_lexeme offset EqualSigns rest from = one_token offset (record { kind = kind.EqualEqual; value = 61 ∷ 61 ∷ []; at = offset }) 2 rest (omega arith) (omega arith) from
by_lexeme offset CommaSign rest from = one_token offset (record { kind = kind.Comma; value = 44 ∷ []; at = offset }) 1 rest (omega arith) (omega arith) from
by_lexeme offset (Quoted inside) rest from =
    one_token offset (record { kind = kind.Identifier; value = trim inside; at = offset + 1 + value_start inside })
    (suc (length (inside ++ 34 ∷ []))) rest (omega arith) (quoted_within offset inside) from
by_lexeme offset (Unclosed inside) rest from =
    grind (arith, one_token offset (record { kind = kind.Identifier; value = []; at = offset + 1 }) (suc (length inside)) rest (omega arith) (omega arith) from)
by_lexeme offset (Word run) rest from =
    one_token offset (record { kind = kind_of_word (trim_end run); value = trim_end run; at = offset }) (length run) rest (omega arith) (omega arith) from

-- the tokens of lexemes ascend
tokens_ascend : (offset : ℕ) (lexemes : List Lexeme) → TokensFrom offset (tokens_of offset lexemes)
tokens_ascend offset [] = (omega arith, tt)
tokens_ascend offset (lexeme ∷ lexemes) =
    grind (arith, by_lexeme offset lexeme (tokens_of (offset + length (lexeme_text lexeme)) lexemes) (tokens_ascend (offset + length (lexeme_text lexeme)) lexemes))

-- each place is at this offset or after it, and none is before the one that it follows
abbrev PlacesFrom : ℕ → List Place → Type 0
PlacesFrom offset [] = Unit {0}
PlacesFrom offset (place ∷ places) = (offset ≤ place.position.offset) × PlacesFrom place.position.offset places

places_from-less : (less offset : ℕ) (places : List Place) → less ≤ offset → PlacesFrom offset places → PlacesFrom less places
places_from-less less offset [] order from = tt
places_from-less less offset (place ∷ places) order from = (omega (arith, order, from.0), from.1)

-- the places of tokens, after a heading or not, and after a token in this line
abbrev pub places_after : List ℕ → Bool → ℕ → List Heard → List Place
places_after text is_headed line [] = []
places_after text is_headed line (h ∷ heard) =
    placed (site_at is_headed line (position_at text h.token.at).line h.role h.token.kind) (position_at text h.token.at)
    ++ places_after text (is_headed || is_heading h.token.kind) (position_at text h.token.at).line heard

pub walked_places : (text : List ℕ) (before : Walked) (heard : List Heard)
    → (fold (walked_on text) before heard).places ≡ before.places ++ places_after text before.is_headed before.line heard
walked_places text before [] = sym (append-nil before.places)
walked_places text before (h ∷ heard) = simp (append_assoc, walked_places text (walked_on text before h) heard)

-- the places of tokens that ascend do so
places_ascend : (text : List ℕ) (is_headed : Bool) (line offset : ℕ) (heard : List Heard) (rest : List TokenView) → TokensFrom offset (map (λ (h : Heard). h.token) heard ++ rest)
    → PlacesFrom offset (places_after text is_headed line heard)
places_ascend text is_headed line offset [] rest from = tt
places_ascend text is_headed line offset (h ∷ heard) rest from =
    grind (arith, places_ascend text (is_headed || is_heading h.token.kind) (position_at text h.token.at).line h.token.at heard rest from.1, places_from-less)

ascends-less : (less offset : ℕ) (warnings : List WarningView) → less ≤ offset → Ascends offset warnings → Ascends less warnings
ascends-less less offset [] order from = tt
ascends-less less offset (warning ∷ warnings) order from = (omega (arith, order, from.0), from.1)

-- a warning at the offset that the others begin at
warned_first : (notice : Option NoticeView) (position : Position) (rest : List WarningView) → Ascends position.offset rest
    → Ascends position.offset (warned notice position ++ rest)
warned_first notice position rest from = grind arith

-- warnings at this position go before those from there on
abbrev GoBefore : Position → List WarningView → Type 0
GoBefore position warnings = (rest : List WarningView) → Ascends position.offset rest → Ascends position.offset (warnings ++ rest)

one_before : (notice : Option NoticeView) (position : Position) → GoBefore position (warned notice position)
one_before notice position = λ rest from. warned_first notice position rest from

both_before : (position : Position) (first second : List WarningView) → GoBefore position first → GoBefore position second → GoBefore position (first ++ second)
both_before position first second one other =
    λ rest from. subst (Ascends position.offset) (sym (append_assoc first second rest)) (one (second ++ rest) (other rest from))

-- the warnings of what an export asks for
asked_before : (options : LibraryOptionsView) (exports : List ExportView) (is_left_out : Bool) (position : Position) (e : ExportView)
    → GoBefore position (asked_warnings options exports is_left_out position e)
asked_before options exports is_left_out position e = grind (arith, both_before, one_before)

-- the warnings at what stands there, and others from there on
site_first : (options : LibraryOptionsView) (exports : List ExportView) (index : ℕ) (at : Site) (position : Position) (rest : List WarningView)
    → Ascends position.offset rest → Ascends position.offset (warnings_at_site options exports index at position ++ rest)
site_first options exports index at position rest from = grind (arith, warned_first, both_before, one_before, asked_before)

-- the warnings at places that ascend do so
warnings_ascend : (options : LibraryOptionsView) (exports : List ExportView) (index offset : ℕ) (places : List Place) → PlacesFrom offset places
    → Ascends offset (warnings_from options exports index places)
unfolding warnings_from
warnings_ascend options exports index offset [] from = tt
warnings_ascend options exports index offset (place ∷ places) from =
    ascends-less offset place.position.offset (warnings_at options exports index place ++ warnings_from options exports (index_after place.site index) places) from.0
    (site_first options exports index place.site place.position _
    (warnings_ascend options exports (index_after place.site index) place.position.offset places from.1))

pub in_order : (text : List ℕ) (heard : List Heard) (options : LibraryOptionsView) (exports : List ExportView) (count : ℕ) → IsUtf8 text → IsHeard text heard
    → Ascends 0 (warnings_of options exports (places_in text heard) count)
unfolding walked
in_order text heard options exports count utf8 is =
    let all = whole_of text is.tokens heard utf8 is.lexed is in
    let tokens_from = subst (TokensFrom 0) (sym is.lexed.given ∙ all.whole) (tokens_ascend 0 is.lexed.lexemes) in
    let places_from = subst (PlacesFrom 0) (sym (walked_places text started heard)) (places_ascend text false 1 0 heard (all.end ∷ []) tokens_from) in
    both_before whole _ _ (one_before (no_export_notice exports) whole) (one_before (other_kind_notice options.flavor count) whole) _
    (warnings_ascend options exports 0 0 (places_in text heard) places_from)
