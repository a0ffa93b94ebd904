-- Reading a text part by part, and what a list of parts derives.
use Rattle.std.specs.Prelude.{◌≡◌, ◌≤◌, length, take, ℕ, suc, List, [], ◌∷◌, ◌++◌, Some, None}
use Rattle.implib_arm64ec.specs.Grammar.{next}
use Rattle.implib_arm64ec.specs.declared.nonterminal.Nonterminal.{Nonterminal}
use Rattle.implib_arm64ec.specs.declared.nonterminal.Nonterminal.TheVariants.{Leaf, Scopes}
use Rattle.implib_arm64ec.specs.declared.reading.Reading.{Reading}
use Rattle.implib_arm64ec.specs.declared.reading.Reading.TheVariants.{Ends, Stops}

-- The texts that parts derive: each byte begins the first part, and what is still to come of that
-- part stands before the other parts.
pub data Derives : List Nonterminal → List ℕ → Type 0 where
  Nothing : Derives [] []
  Byte : {part : Nonterminal} {parts begun : List Nonterminal} {b : ℕ} {text : List ℕ}
      → next part b ≡ Some begun → Derives (begun ++ parts) text → Derives (part ∷ parts) (b ∷ text)

-- a qualified name: the innermost name and the scopes around it
abbrev pub qualified_name : List Nonterminal
qualified_name = Leaf ∷ Scopes ∷ []

-- one byte further
abbrev pub one_more : Reading → Reading
one_more (Ends place) = Ends (suc place)
one_more (Stops place) = Stops (suc place)

-- Reading parts from the beginning of a text: where they end, or the byte at which they stop short
-- of that, the text's length if its bytes are used up.
unfoldable pub read : List Nonterminal → List ℕ → Reading
read [] text = Ends 0
read (part ∷ parts) [] = Stops 0
read (part ∷ parts) (b ∷ text) =
    elim (next part b) [ None ↦ Stops 0 | Some begun ↦ one_more (read (begun ++ parts) text) ]

-- the parts derive the bytes before a place
pub record DerivesBefore (parts : List Nonterminal) (text : List ℕ) (place : ℕ) : Type 0 where
  pub within : place ≤ length text
  pub derived : Derives parts (take place text)
