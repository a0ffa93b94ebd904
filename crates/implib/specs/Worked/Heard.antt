-- What is heard of texts, worked by hand.
use Rattle.std.specs.Prelude.{ℕ, List, [], ◌∷◌, codes}
use Rattle.implib.specs.declared.def.lexer.TokenKind.{TokenKind}
use Rattle.implib.specs.declared.def.lexer.TokenKind.TheVariants as kind
use Rattle.implib.specs.declared.def.listener.Role.TheVariants.{Name, Other}
use Rattle.implib.specs.Text.Heard.{Heard, IsHeard}

-- the name of an export, and another part of a statement: a token with its value and its offset
abbrev pub name : List ℕ → ℕ → Heard
name value at =
    record { role = Name; token = record { kind = kind.Identifier; value = value; at = at } }

abbrev pub other : TokenKind → List ℕ → ℕ → Heard
other kind value at =
    record { role = Other; token = record { kind = kind; value = value; at = at } }

-- the keyword `EXPORTS`, at the beginning of a text
abbrev pub keyword : Heard
keyword = other kind.KwExports (codes "EXPORTS") 0

-- each token but the end is heard once, in its role
pub record WorkedHeard : Type 0 where
  pub nothing : IsHeard [] []
  pub sizes : IsHeard (codes "HEAPSIZE 1,2") (
      other kind.KwHeapsize (codes "HEAPSIZE") 0 ∷ other kind.Identifier (codes "1") 9
      ∷ other kind.Comma (codes ",") 10 ∷ other kind.Identifier (codes "2") 11 ∷ [])
  pub heading : IsHeard (codes "NAME a BASE=1") (
      other kind.KwName (codes "NAME") 0 ∷ other kind.Identifier (codes "a") 5
      ∷ other kind.KwBase (codes "BASE") 7 ∷ other kind.Equal (codes "=") 11
      ∷ other kind.Identifier (codes "1") 12 ∷ [])
  -- a target is no name, and neither is an alias; `@` right after `EXPORTS` is one
  pub exports : IsHeard (codes "EXPORTS @ b=c ==d @5 NONAME\n \"e\" DATA") (
      keyword ∷ name (codes "@") 8 ∷ name (codes "b") 10 ∷ other kind.Equal (codes "=") 11
      ∷ other kind.Identifier (codes "c") 12 ∷ other kind.EqualEqual (codes "==") 14
      ∷ other kind.Identifier (codes "d") 16 ∷ other kind.Identifier (codes "@5") 18
      ∷ other kind.KwNoname (codes "NONAME") 21 ∷ name (codes "e") 30
      ∷ other kind.KwData (codes "DATA") 33 ∷ [])
  pub two_statements : IsHeard (codes "EXPORTS a @ 1\nEXPORTS b") (
      keyword ∷ name (codes "a") 8 ∷ other kind.Identifier (codes "@") 10
      ∷ other kind.Identifier (codes "1") 12 ∷ other kind.KwExports (codes "EXPORTS") 14
      ∷ name (codes "b") 22 ∷ [])
  -- of `f=f` the first word is the name
  pub target : IsHeard (codes "EXPORTS f=f") (
      keyword ∷ name (codes "f") 8 ∷ other kind.Equal (codes "=") 9
      ∷ other kind.Identifier (codes "f") 10 ∷ [])
  pub not_the_target : ¬ (IsHeard (codes "EXPORTS f=f") (
      keyword ∷ other kind.Identifier (codes "f") 8 ∷ other kind.Equal (codes "=") 9
      ∷ name (codes "f") 10 ∷ []))
  -- near misses: another role, kind, value or offset, a token less, and the end
  pub bare : IsHeard (codes "EXPORTS f") (keyword ∷ name (codes "f") 8 ∷ [])
  pub not_another_role : ¬
      (IsHeard (codes "EXPORTS f") (keyword ∷ other kind.Identifier (codes "f") 8 ∷ []))
  pub not_another_kind : ¬ (IsHeard (codes "EXPORTS f")
      (other kind.KwName (codes "EXPORTS") 0 ∷ name (codes "f") 8 ∷ []))
  pub not_another_value : ¬ (IsHeard (codes "EXPORTS f") (keyword ∷ name (codes "g") 8 ∷ []))
  pub not_another_offset : ¬ (IsHeard (codes "EXPORTS f") (keyword ∷ name (codes "f") 7 ∷ []))
  pub not_too_few : ¬ (IsHeard (codes "EXPORTS f") (keyword ∷ []))
  pub not_the_end : ¬
      (IsHeard (codes "EXPORTS f") (keyword ∷ name (codes "f") 8 ∷ other kind.Eof [] 9 ∷ []))
