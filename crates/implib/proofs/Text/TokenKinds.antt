-- Kinds of tokens are distinguished by numbers.
use Rattle.std.proofs.Common.{arith, ◌≡◌, ◌≢◌, ℕ, Bool, true, ◌&&◌, not, eqb, List, [], ◌∷◌, sym, subst, ◌∙◌, eq-eqb}
use Rattle.std.proofs.lemmas.Bool.{and_parts, false≢true}
use Rattle.implib.specs.declared.def.lexer.TokenKind.{TokenKind}
use Rattle.implib.specs.declared.def.lexer.TokenKind.TheVariants.{Unknown, Eof, Identifier, Comma, Equal, EqualEqual, KwBase, KwConstant, KwData, KwExports, KwHeapsize, KwLibrary, KwName, KwNoname, KwPrivate, KwStacksize, KwVersion}
use Rattle.implib.specs.Text.SyntaxError.{IsNoneOf}

abbrev pub kind_number : TokenKind → ℕ
kind_number Unknown = 0
kind_number Eof = 1
kind_number Identifier = 2
kind_number Comma = 3
kind_number Equal = 4
kind_number EqualEqual = 5
kind_number KwBase = 6
kind_number KwConstant = 7
kind_number KwData = 8
kind_number KwExports = 9
kind_number KwHeapsize = 10
kind_number KwLibrary = 11
kind_number KwName = 12
kind_number KwNoname = 13
kind_number KwPrivate = 14
kind_number KwStacksize = 15
kind_number KwVersion = 16

abbrev pub is_same : TokenKind → TokenKind → Bool
is_same a b = eqb (kind_number a) (kind_number b)

abbrev pub is_none : TokenKind → List TokenKind → Bool
is_none kind [] = true
is_none kind (first ∷ kinds) = not (is_same kind first) && is_none kind kinds

-- kinds with other numbers are other kinds
pub differs : (a b : TokenKind) → not (is_same a b) ≡ true → a ≢ b
differs a b h e = grind (arith, eq-eqb, false≢true)

-- what a computed test says of a kind
pub IsNoneOf-by_test : (kind : TokenKind) (kinds : List TokenKind) → is_none kind kinds ≡ true → IsNoneOf kind kinds
IsNoneOf-by_test kind [] h = tt
IsNoneOf-by_test kind (first ∷ kinds) h = grind (arith, IsNoneOf-by_test kind kinds (and_parts (not (is_same kind first)) (is_none kind kinds) h).1, and_parts, differs)

-- of a token whose kind is known
pub none_at : (kind known : TokenKind) (kinds : List TokenKind) → kind ≡ known → is_none known kinds ≡ true → IsNoneOf kind kinds
none_at kind known kinds e h = subst (λ (k : TokenKind). IsNoneOf k kinds) (sym e) (IsNoneOf-by_test known kinds h)

pub not_at : (kind known other : TokenKind) → kind ≡ known → not (is_same known other) ≡ true → kind ≢ other
not_at kind known other e h f = differs known other h (sym e ∙ f)
