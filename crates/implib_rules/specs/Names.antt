-- The name of the DLL that an import library is for (this project's choice, after GNU dlltool and
-- llvm-dlltool).
use Rattle.std.specs.Prelude.{ℕ, ◌==◌, ◌&&◌, Bool, true, false, List, [], ◌∷◌, ◌++◌, Option, None}
use Rattle.std.specs.Prelude.{Some, codes, if◌then◌else◌, length, nat_eq}
use Rattle.std.specs.List.{fold, list_any}
use Rattle.implib.specs.declared.def.lexer.TokenKind.{TokenKind}
use Rattle.implib.specs.declared.def.lexer.TokenKind.TheVariants as kind
use Rattle.implib.specs.Import.{is_empty_text}
use Rattle.implib.specs.Text.Heard.{Heard}
use Rattle.implib.specs.Text.Token.{TokenView}

-- whether a byte is in a name
abbrev pub has : ℕ → List ℕ → Bool
has byte name = list_any (λ b. nat_eq b byte) name

-- whether a token is a word that may be a name
abbrev pub is_identifier : TokenKind → Bool
is_identifier kind.Identifier = true
is_identifier _ = false

-- whether a keyword that begins a heading is `NAME`; of others nothing
abbrev pub heading_of : TokenKind → Option Bool
heading_of kind.KwName = Some true
heading_of kind.KwLibrary = Some false
heading_of _ = None

-- what is known of the headings among tokens, `LIBRARY` or `NAME`
pub record Headed : Type 0 where
  -- whether the last token begins a heading, and then whether the heading is `NAME`
  pub opened : Option Bool
  -- the name of the first heading that has one, and whether that heading is `NAME`
  pub name : List ℕ
  pub is_program : Bool

-- at the beginning of a text
abbrev pub unheaded : Headed
unheaded = record { opened = None; name = []; is_program = false }

-- whether a token is the name of a heading, the first one with a name, and then whether that is
-- `NAME`
abbrev pub named_by : Headed → TokenKind → Option Bool
named_by headed kind =
    if is_empty_text headed.name && is_identifier kind then headed.opened else None

-- after a token that is the name of the first heading, or is not
abbrev pub headed_by : Option Bool → Headed → TokenView → Headed
headed_by None headed token = record headed { opened = heading_of token.kind }
headed_by (Some is_program) headed token = record {
  opened = heading_of token.kind;
  name = token.value;
  is_program = is_program;
}

-- after one more token
abbrev pub headed_on : Headed → Heard → Headed
headed_on headed heard = headed_by (named_by headed heard.token.kind) headed heard.token

-- after tokens of a text
abbrev pub headed_by_all : List Heard → Headed
headed_by_all heard = fold headed_on unheaded heard

-- The name of the DLL that a definition has: that of the first heading with one. For example,
-- `LIBRARY` and then `NAME a` and `LIBRARY b` name a.
abbrev pub own_name : List Heard → List ℕ
own_name heard = (headed_by_all heard).name

-- whether that heading is `NAME`: then the definition is a program's
abbrev pub is_program : List Heard → Bool
is_program heard = (headed_by_all heard).is_program

-- the ending that a name without one gets
abbrev pub ending : Bool → List ℕ
ending true = codes ".exe"
ending false = codes ".dll"

-- the part of a name once a byte is read: a separator ends the part before it
abbrev pub part_with : ℕ → List ℕ → ℕ → List ℕ
part_with separator part b = if b == separator then [] else part ++ b ∷ []

-- the text after the last separator of this kind
unfoldable pub part_after_last : ℕ → List ℕ → List ℕ
part_after_last separator name = fold (part_with separator) [] name

-- A name without its directory: after the last `/` (47), and then after the last `\` (92). For
-- example, that of `d/e/zoo` is zoo, and that of `d/` is empty.
abbrev pub last_part : List ℕ → List ℕ
last_part name = part_after_last 92 (part_after_last 47 name)

-- a name of the definition, without its directory, with an ending where it has no full stop
abbrev pub with_ending : List ℕ → Bool → List ℕ
with_ending name program = if has 46 name then name else name ++ ending program

-- The name of the DLL: the one given on the command line, else the definition's, which gets an
-- ending where it has no full stop. A directory is cut off from either. For example, `LIBRARY
-- d/zoo` names zoo.dll, `NAME zoo` zoo.exe, and `-D d/zoo` zoo.
abbrev pub dll_name : Option (List ℕ) → List ℕ → Bool → List ℕ
dll_name (Some given) own program = last_part given
dll_name None own program = with_ending (last_part own) program

-- whether there is no name, but for a directory
abbrev pub lacks_name : Option (List ℕ) → List ℕ → Bool
lacks_name (Some given) own = nat_eq (length (last_part given)) 0
lacks_name None own = nat_eq (length (last_part own)) 0
