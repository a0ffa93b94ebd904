-- A view of what a listener hears from the functions of the parser. No promise cites it.
use Rattle.std.specs.Prelude.{◌≡◌, ℕ, zero, suc, ◌++◌, List, [], map, length, Option, Some, Ok}
use Rattle.implib.specs.declared.def.listener.Role.{Role}
use Rattle.implib.specs.declared.def.listener.Role.TheVariants.{Other}
use Rattle.implib.specs.Text.Heard.{Heard, export_roles, heard_of, statement_roles}
use Rattle.implib.specs.Text.Token.{TokenView}
use Rattle.implib.specs.Views.TokenReader.{Reader, export_read, statement_read}

-- tokens that are heard as other parts than names
abbrev pub as_others : List TokenView → List Heard
as_others tokens = map (λ (t : TokenView). record { role = Other; token = t }) tokens

-- what was heard, and the tokens to come as other parts, are together the total
pub record HearsTotal (has_heard : List Heard → Type 0) (tokens : List TokenView)
    (total : List Heard) : Type 0 where
  pub heard : List Heard
  pub known : has_heard heard
  pub same : heard ++ as_others tokens ≡ total

-- the tokens that were taken were heard as other parts
abbrev pub HearsOthers : (List Heard → Type 0) → List TokenView → (List Heard → Type 0) →
    List TokenView → Type 0
HearsOthers before tokens after rest =
    (total : List Heard) → HearsTotal before tokens total → HearsTotal after rest total

-- more was heard
abbrev pub HearsMore : (List Heard → Type 0) → (List Heard → Type 0) → List Heard → Type 0
HearsMore before after more = (heard : List Heard) → before heard → after (heard ++ more)

-- what is heard of an item, if it was read
abbrev pub item_heard : {A : Type 0} → (A → List Role) → List TokenView → Reader (Option A) →
    List Heard
item_heard roles tokens (Ok (Some item, rest)) = heard_of (roles item) tokens
item_heard roles tokens _ = []

-- the same, and what is heard of the items after it
abbrev pub first_heard : {A : Type 0} → (A → List Role) → (List TokenView → List Heard) →
    List TokenView →
    Reader (Option A) → List Heard
first_heard roles later tokens (Ok (Some item, rest)) = heard_of (roles item) tokens ++ later rest
first_heard roles later tokens _ = []

-- what is heard of at most n items, one after another
unfoldable pub many_heard : {A : Type 0} → (A → List Role) → (List TokenView → Reader (Option A)) →
    ℕ →
    List TokenView → List Heard
many_heard roles item zero tokens = []
many_heard roles item (suc n) tokens =
    first_heard roles (many_heard roles item n) tokens (item tokens)

-- what is heard of an export, and of a statement
unfoldable pub export_heard : List TokenView → List Heard
export_heard tokens = item_heard export_roles tokens (export_read tokens)

unfoldable pub statement_heard : List TokenView → List Heard
statement_heard tokens = item_heard statement_roles tokens (statement_read tokens)

-- what is heard of all exports at the front of the tokens, and of all statements
unfoldable pub exports_heard : List TokenView → List Heard
exports_heard tokens = many_heard export_roles export_read (length tokens) tokens

unfoldable pub statements_heard : List TokenView → List Heard
statements_heard tokens = many_heard statement_roles statement_read (length tokens) tokens
