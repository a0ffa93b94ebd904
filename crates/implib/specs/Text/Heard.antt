-- What a listener hears of a text: each token of its statements, in order, with its role
-- (docs/GRAMMAR.md, "Statements").
use Rattle.std.specs.Prelude.{◌≡◌, ℕ, List, [], ◌∷◌, ◌++◌, map}
use Rattle.std.specs.List.{flat_map}
use Rattle.implib.specs.declared.def.lexer.TokenKind.TheVariants.{Eof}
use Rattle.implib.specs.declared.def.listener.Role.{Role}
use Rattle.implib.specs.declared.def.listener.Role.TheVariants.{Name, Other}
use Rattle.implib.specs.Text.Grammar.{Export, Exports, Sentence, Statement, Terminal}
use Rattle.implib.specs.Text.Grammar.{attribute_terminals, statement_terminals, target_terminals}
use Rattle.implib.specs.Text.Token.{Lexed, TokenView}

-- a token, and its role
pub record Heard : Type 0 where
  pub role : Role
  pub token : TokenView

-- tokens with their roles, one for one; what is beyond the roles is not heard
abbrev pub heard_of : List Role → List TokenView → List Heard
heard_of [] tokens = []
heard_of (role ∷ roles) [] = []
heard_of (role ∷ roles) (token ∷ tokens) =
    (record { role = role; token = token }) ∷ heard_of roles tokens

-- the roles of terminals none of which is the name of an export
abbrev pub others : List Terminal → List Role
others terminals = map (λ (_ : Terminal). Other) terminals

-- The roles of an export's terminals: the first one is its name. For example, in `foo = bar DATA`
-- the token `foo` is a name, and the other three are not.
abbrev pub export_roles : Export → List Role
export_roles e =
    Name ∷ others (target_terminals e.target ++ flat_map attribute_terminals e.attributes)

-- the roles of a statement's terminals: those of `EXPORTS` and of each export; no other statement
-- has names
abbrev pub statement_roles : Statement → List Role
statement_roles (Exports exports) = Other ∷ flat_map export_roles exports
statement_roles s = others (statement_terminals s)

-- the roles of the terminals of statements
abbrev pub roles_of : List Statement → List Role
roles_of statements = flat_map statement_roles statements

-- This is heard of a text: its tokens are statements, and each token of these has its role. For
-- example, of `NAME a` and `EXPORTS b` four tokens are heard, and `b` alone is a name.
pub record IsHeard (text : List ℕ) (heard : List Heard) : Type 0 where
  pub tokens : List TokenView
  pub statements : List Statement
  pub lexed : Lexed text tokens
  pub sentence : Sentence tokens statements
  pub is : heard ≡ heard_of (roles_of statements) tokens

-- a token before others, if it is the name of an export
abbrev pub name_first : Role → TokenView → List TokenView → List TokenView
name_first Name token names = token ∷ names
name_first Other token names = names

-- the tokens that are heard as names of exports
abbrev pub names_of : List Heard → List TokenView
names_of [] = []
names_of (first ∷ heard) = name_first first.role first.token (names_of heard)

-- the tokens of a text are those that are heard, and then its end
pub record IsWhole (tokens : List TokenView) (heard : List Heard) : Type 0 where
  pub end : TokenView
  pub is_end : end.kind ≡ Eof
  pub whole : tokens ≡ map (λ (h : Heard). h.token) heard ++ end ∷ []

-- a listener, of whom this holds, has heard a text
abbrev pub HasHeardText : List ℕ → (List Heard → Type 0) → Type 0
HasHeardText text has_heard = (heard : List Heard) × IsHeard text heard × has_heard heard
