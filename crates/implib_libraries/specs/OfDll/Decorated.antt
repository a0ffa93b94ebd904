-- The exports of a DLL with the symbols that a file has for their names (this project's own;
-- docs/DLLTOOL.md, "From a DLL").
-- Of two such symbols of one name the first counts.
use Rattle.std.specs.Prelude.{◌≡◌, ℕ, ◌==◌, Bool, true, false, ◌&&◌, ◌||◌, not, List, [], ◌∷◌}
use Rattle.std.specs.Prelude.{Option, None, Some, bytes_eq, count_by, drop, if◌then◌else◌, length}
use Rattle.std.specs.Prelude.{map, nat_eq}
use Rattle.std.specs.Char.{is_ascii_digit}
use Rattle.std.specs.List.{find, list_all, list_any, starts_with}
use Rattle.std.specs.Option.{option_map}
use Rattle.implib.specs.Ascii.{at_sign, begins_with, question_mark, underscore}
use Rattle.implib.specs.Definition.{ExportView}
use Rattle.implib.specs.Import.{is_empty_text}
use Rattle.implib_dll.specs.Exports.{Exports, NameEntry}
use Rattle.implib_libraries.specs.FromDll.Definition.{exports_of}
use Rattle.implib_rules.specs.Linked.{NamingView, is_at_sign}
use Rattle.implib_libraries.specs.OfDll.Decorations.{DecorationView}

-- an `@` and digits
abbrev pub is_count : List ℕ → Bool
is_count [] = false
is_count (b ∷ digits) =
    b == at_sign && (not (is_empty_text digits) && list_all is_ascii_digit digits)

-- whether a name has no decoration of its own, and is one, as that of a function of C
abbrev pub is_bare_name : List ℕ → Bool
is_bare_name name = not (is_empty_text name)
    && (not (list_any is_at_sign name) && not (begins_with question_mark name))

-- Whether a symbol is that of a function of this name and counts the bytes of its arguments. For
-- example, those of f are stdcall's `_f@8` and fastcall's `@f@8`.
abbrev pub is_decorated : List ℕ → List ℕ → Bool
is_decorated name symbol =
    (begins_with underscore symbol || begins_with at_sign symbol)
    && (is_bare_name name
    && (starts_with nat_eq (drop 1 symbol) name && is_count (drop (length name) (drop 1 symbol))))

-- whether this is a decorated symbol of a name
abbrev pub decorates : List ℕ → DecorationView → Bool
decorates name d = bytes_eq d.name name && is_decorated name d.symbol

-- the first decorated symbol of a name
abbrev pub symbol_for : List DecorationView → List ℕ → Option (List ℕ)
symbol_for decorations name = option_map (λ d. d.symbol) (find (decorates name) decorations)

-- the word of a definition that names a decorated symbol: without the underscore that the rules put
-- in front
abbrev pub word_naming : NamingView → List ℕ → List ℕ
word_naming naming symbol =
    if begins_with underscore symbol && not (naming.is_plain || naming.keeps_decorated)
    then drop 1 symbol else symbol

-- whether a DLL exports a name
abbrev pub is_exported : List NameEntry → List ℕ → Bool
is_exported names word = list_any (λ n. bytes_eq n.text word) names

-- An export by this word, which asks for the name that it had. Where the DLL exports the word
-- itself, whose symbol it is, it stays.
abbrev pub with_word : List NameEntry → ExportView → Option (List ℕ) → ExportView
with_word names e None = e
with_word names e (Some word) =
    if is_exported names word then e else record e { name = word; alias_target = e.name }

-- an export with its symbol; data, and what has no name, stay
abbrev pub decorated_export : NamingView → List DecorationView → List NameEntry → ExportView →
    ExportView
decorated_export naming decorations names e =
    if e.no_name || e.is_data then e
    else with_word names e (option_map (word_naming naming) (symbol_for decorations e.name))

-- exports of a DLL of these names, each with its symbol
abbrev pub with_symbols : NamingView → List DecorationView → List NameEntry → List ExportView →
    List ExportView
with_symbols naming decorations names exports =
    map (decorated_export naming decorations names) exports

-- The exports of a DLL as a definition has them, with the symbols of a file. For example, by
-- `_Sleep@4` for Sleep the export is as of `Sleep@4 == Sleep`.
abbrev pub decorated_exports : NamingView → List DecorationView → Exports → List ExportView
decorated_exports naming decorations e = with_symbols naming decorations e.names (exports_of e)

-- whether a file has a symbol of a name
abbrev pub has_symbol : List DecorationView → List ℕ → Bool
has_symbol decorations name = list_any (λ d. bytes_eq d.name name) decorations

-- whether an export is a function by name that a file lacks
abbrev pub is_missing : List DecorationView → ExportView → Bool
is_missing decorations e = not (e.no_name || e.is_data) && not (has_symbol decorations e.name)

-- how many functions of a DLL, of those with a name, a file lacks
abbrev pub missing : List DecorationView → Exports → ℕ
missing decorations e = count_by (is_missing decorations) (exports_of e)
