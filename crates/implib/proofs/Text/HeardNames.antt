-- Each token of a text but its end is heard, and the names that are heard are the words of the exports.
use Rattle.std.proofs.Common.{◌≡◌, ℕ, List, [], ◌∷◌, ◌++◌, length, map, Option, Some, None, unwrap_or, option_map, refl, sym, ap, subst, ◌∙◌, arith}
use Rattle.std.proofs.lemmas.List.{length-append, map-append}
use Rattle.std.proofs.lemmas.Simd.{map-map}
use Rattle.std.specs.List.{flat_map}
use Rattle.std.specs.Str.{IsUtf8}
use Rattle.implib.specs.declared.def.lexer.TokenKind.TheVariants.{Eof}
use Rattle.implib.specs.declared.def.listener.Role.{Role}
use Rattle.implib.specs.declared.def.listener.Role.TheVariants.{Name, Other}
use Rattle.implib.specs.declared.machine.MachineType.{MachineType}
use Rattle.implib.specs.Definition.{DefinitionView, ExportView}
use Rattle.implib.specs.Text.Grammar.{Export, Exports, Later, Matches, Named, Nameless, Of, Sentence, Sizes, Statement, StartsWith, Terminal, Version, Word, export_terminals, exports_terminals, statement_terminals, terminals}
use Rattle.implib.specs.Text.Heard.{Heard, IsHeard, IsWhole, export_roles, heard_of, name_first, names_of, others, roles_of, statement_roles}
use Rattle.implib.specs.Text.Meaning.{export_meaning, exports_in}
use Rattle.implib.specs.Text.Parses.{Parses}
use Rattle.implib.specs.Text.Token.{Lexed, TokenView}
use Rattle.implib.specs.Underscore.{decorated}
use Rattle.implib.specs.Renaming.{name_to_link}
use Rattle.implib.proofs.Text.Heard.{StartsWith-spans, export_roles-length, heard_of-append, statement_roles-length}
use Rattle.implib.proofs.Text.OneReading.{one_list}
use Rattle.implib.proofs.Text.StartsWith.{StartsWith-parted}
use Rattle.implib.proofs.Text.Token.{Lexed-unique}

-- ---- names

name_first-append : (role : Role) (token : TokenView) (names more : List TokenView) → name_first role token (names ++ more) ≡ name_first role token names ++ more
name_first-append Name token names more = refl
name_first-append Other token names more = refl

pub names_of-append : (first second : List Heard) → names_of (first ++ second) ≡ names_of first ++ names_of second
names_of-append [] second = refl
names_of-append (h ∷ first) second = ap (name_first h.role h.token) (names_of-append first second) ∙ name_first-append h.role h.token (names_of first) (names_of second)

-- other parts have no names
no_names : (terminals : List Terminal) (tokens : List TokenView) → names_of (heard_of (others terminals) tokens) ≡ []
no_names [] tokens = refl
no_names (w ∷ terminals) [] = refl
no_names (w ∷ terminals) (t ∷ tokens) = no_names terminals tokens

-- the values of the names in tokens with these roles
abbrev values : List Role → List TokenView → List (List ℕ)
values roles tokens = map (λ (t : TokenView). t.value) (names_of (heard_of roles tokens))

values-append : (first second : List Role) (tokens : List TokenView) (a : List Terminal) (rest : List TokenView) → length a ≡ length first → StartsWith tokens a rest → values (first ++ second) tokens ≡ values first tokens ++ values second rest
values-append first second tokens a rest size starts = grind (arith, StartsWith-spans, heard_of-append, names_of-append, map-append)

-- a name has the word of its export
export_value : (name : List ℕ → Terminal) (e : Export) (tokens rest : List TokenView) → ((word : List ℕ) (t : TokenView) → Matches (name word) t → t.value ≡ word) → StartsWith tokens (export_terminals name e) rest → values (export_roles e) tokens ≡ e.word ∷ []
export_value name e [] rest says h = absurd h
export_value name e (t ∷ tokens) rest says h = grind (arith, no_names)

exports_values : (name : List ℕ → Terminal) (exports : List Export) (tokens rest : List TokenView) → ((word : List ℕ) (t : TokenView) → Matches (name word) t → t.value ≡ word) → StartsWith tokens (exports_terminals name exports) rest → values (flat_map export_roles exports) tokens ≡ map (λ (e : Export). e.word) exports
exports_values name [] tokens rest says h = refl
exports_values name (e ∷ exports) tokens rest says h =
    let p = StartsWith-parted tokens (export_terminals name e) (exports_terminals Later exports) rest h in
    values-append (export_roles e) (flat_map export_roles exports) tokens (export_terminals name e) p.mid (export_roles-length name e) p.front
    ∙ ap (λ (words : List (List ℕ)). words ++ values (flat_map export_roles exports) p.mid) (export_value name e tokens p.mid says p.front)
    ∙ ap (λ (words : List (List ℕ)). e.word ∷ words) (exports_values Later exports p.mid rest (λ word t is. is.word.value_is) p.back)

statement_values : (s : Statement) (tokens rest : List TokenView) → StartsWith tokens (statement_terminals s) rest → values (statement_roles s) tokens ≡ map (λ (e : Export). e.word) (exports_in s)
statement_values (Exports exports) [] rest h = absurd h
statement_values (Exports exports) (t ∷ tokens) rest h = exports_values Word exports tokens rest (λ word t is. is.value_is) h.1
statement_values (Sizes region reserve commit) tokens rest h = ap (map (λ (t : TokenView). t.value)) (no_names (statement_terminals (Sizes region reserve commit)) tokens)
statement_values Nameless tokens rest h = ap (map (λ (t : TokenView). t.value)) (no_names (statement_terminals Nameless) tokens)
statement_values (Named name base) tokens rest h = ap (map (λ (t : TokenView). t.value)) (no_names (statement_terminals (Named name base)) tokens)
statement_values (Version major minor) tokens rest h = ap (map (λ (t : TokenView). t.value)) (no_names (statement_terminals (Version major minor)) tokens)

statements_values : (statements : List Statement) (tokens rest : List TokenView) → StartsWith tokens (terminals statements) rest → values (roles_of statements) tokens ≡ map (λ (e : Export). e.word) (flat_map exports_in statements)
statements_values [] tokens rest h = refl
statements_values (s ∷ statements) tokens rest h =
    let p = StartsWith-parted tokens (statement_terminals s) (terminals statements) rest h in
    values-append (statement_roles s) (roles_of statements) tokens (statement_terminals s) p.mid (statement_roles-length s) p.front
    ∙ ap (λ (words : List (List ℕ)). words ++ values (roles_of statements) p.mid) (statement_values s tokens p.mid p.front)
    ∙ ap (λ (words : List (List ℕ)). map (λ (e : Export). e.word) (exports_in s) ++ words) (statements_values statements p.mid rest p.back)
    ∙ sym (map-append (λ (e : Export). e.word) (exports_in s) (flat_map exports_in statements))

-- ---- the definition

by_target : (machine : MachineType) (word : List ℕ) (target : Option (List ℕ)) → decorated machine word ≡ name_to_link (option_map (λ (_ : List ℕ). decorated machine word) target) (decorated machine (unwrap_or target word))
by_target machine word None = refl
by_target machine word (Some other) = refl

words_meant : (machine : MachineType) (exports : List Export) → map (decorated machine) (map (λ (e : Export). e.word) exports) ≡ map (λ (e : ExportView). name_to_link e.ext_name e.name) (map (export_meaning machine) exports)
words_meant machine [] = refl
words_meant machine (e ∷ exports) = grind (arith, words_meant machine exports, by_target)

pub names_are_words : (text : List ℕ) (machine : MachineType) (definition : DefinitionView) (heard : List Heard) → IsUtf8 text → Parses text machine definition → IsHeard text heard
    → map (λ (t : TokenView). decorated machine t.value) (names_of heard) ≡ map (λ (e : ExportView). name_to_link e.ext_name e.name) definition.exports
names_are_words text machine definition heard utf8 parses is =
    let tokens = Lexed-unique text is.tokens parses.tokens utf8 is.lexed parses.lexed in
    let statements = one_list is.tokens is.statements parses.statements is.sentence (subst (λ (tokens : List TokenView). Sentence tokens parses.statements) (sym tokens) parses.sentence) in
    let p = StartsWith-parted is.tokens (terminals is.statements) (Of Eof ∷ []) [] is.sentence in
    sym (map-map (decorated machine) (λ (t : TokenView). t.value) (names_of heard))
    ∙ ap (λ (heard : List Heard). map (decorated machine) (map (λ (t : TokenView). t.value) (names_of heard))) is.is
    ∙ ap (map (decorated machine)) (statements_values is.statements is.tokens p.mid p.front)
    ∙ ap (λ (statements : List Statement). map (decorated machine) (map (λ (e : Export). e.word) (flat_map exports_in statements))) statements
    ∙ words_meant machine (flat_map exports_in parses.statements)
    ∙ ap (λ (d : DefinitionView). map (λ (e : ExportView). name_to_link e.ext_name e.name) d.exports) parses.means

-- ---- all tokens

all_heard : (roles : List Role) (front rest : List TokenView) → length front ≡ length roles → map (λ (h : Heard). h.token) (heard_of roles (front ++ rest)) ≡ front
all_heard [] [] rest e = refl
all_heard [] (t ∷ front) rest e = absurd (omega (arith, e))
all_heard (r ∷ roles) [] rest e = absurd (omega (arith, e))
all_heard (r ∷ roles) (t ∷ front) rest e = ap (λ (l : List TokenView). t ∷ l) (all_heard roles front rest (omega (arith, e)))

roles-length : (statements : List Statement) → length (terminals statements) ≡ length (roles_of statements)
roles-length [] = refl
roles-length (s ∷ statements) = grind (arith, roles-length statements, statement_roles-length, length-append)

only_end : (tokens rest : List TokenView) (heard : List TokenView) → tokens ≡ heard ++ rest → StartsWith rest (Of Eof ∷ []) [] → (end : TokenView) × (end.kind ≡ Eof) × (tokens ≡ heard ++ end ∷ [])
only_end tokens [] heard whole h = absurd h
only_end tokens (end ∷ rest) heard whole h = (end, h.0, whole ∙ ap (λ (l : List TokenView). heard ++ end ∷ l) h.1)

pub whole_of : (text : List ℕ) (tokens : List TokenView) (heard : List Heard) → IsUtf8 text → Lexed text tokens → IsHeard text heard → IsWhole tokens heard
whole_of text tokens heard utf8 lexed is =
    let p = StartsWith-parted is.tokens (terminals is.statements) (Of Eof ∷ []) [] is.sentence in
    let s = StartsWith-spans is.tokens (terminals is.statements) p.mid p.front in
    let front : map (λ (h : Heard). h.token) heard ≡ s.front =
    ap (map (λ (h : Heard). h.token)) (is.is ∙ ap (heard_of (roles_of is.statements)) s.whole) ∙ all_heard (roles_of is.statements) s.front p.mid (s.size ∙ roles-length is.statements) in
    let end = only_end is.tokens p.mid s.front s.whole p.back in
    record {
      end = end.0;
      is_end = end.1;
      whole = Lexed-unique text tokens is.tokens utf8 lexed is.lexed ∙ end.2 ∙ ap (λ (l : List TokenView). l ++ end.0 ∷ []) (sym front);
    }

-- a text is heard in one way
pub heard_once : (text : List ℕ) (heard others : List Heard) → IsUtf8 text → IsHeard text heard → IsHeard text others → heard ≡ others
heard_once text heard others utf8 first second =
    let tokens = Lexed-unique text first.tokens second.tokens utf8 first.lexed second.lexed in
    let statements = one_list first.tokens first.statements second.statements first.sentence (subst (λ (tokens : List TokenView). Sentence tokens second.statements) (sym tokens) second.sentence) in
    first.is ∙ ap (λ (statements : List Statement). heard_of (roles_of statements) first.tokens) statements ∙ ap (heard_of (roles_of second.statements)) tokens ∙ sym second.is
