-- The documents of the input: its separating lines divide it, and are in no document (this
-- project's layout).
-- For example, `a`, a line `---` and `b` are the documents `a` with its line end, and `b`.
use Rattle.std.specs.Prelude.{ℕ, ◌≡◌, ◌⊎◌, List, [], ◌∷◌, ◌++◌, codes}

-- three hyphens, perhaps with a carriage return
abbrev pub IsSeparator : List ℕ → Type 0
IsSeparator line = (line ≡ codes "---") ⊎ (line ≡ codes "---\r")

-- a line begins after these bytes: there are none, or the last is a line end
abbrev pub LineBeginsAfter : List ℕ → Type 0
LineBeginsAfter before = (before ≡ []) ⊎ ((front : List ℕ) × (before ≡ front ++ 10 ∷ []))

-- a line ends before these bytes: there are none, or the first is a line end
abbrev pub LineEndsBefore : List ℕ → Type 0
LineEndsBefore after = (after ≡ []) ⊎ ((rest : List ℕ) × (after ≡ 10 ∷ rest))

-- a separating line is in the text between these bytes
pub record Separates (text before line after : List ℕ) : Type 0 where
  pub whole : text ≡ before ++ (line ++ after)
  pub separator : IsSeparator line
  pub begins : LineBeginsAfter before
  pub ends : LineEndsBefore after

-- no line of the text separates
abbrev pub IsUndivided : List ℕ → Type 0
IsUndivided text = (before line after : List ℕ) → Separates text before line after → ⊥

-- what follows a separating line: the bytes after its line end, none where the text ends with the
-- line
abbrev pub Follows : List ℕ → List ℕ → Type 0
Follows after rest = ((after ≡ []) × (rest ≡ [])) ⊎ (after ≡ 10 ∷ rest)

-- the text is a document, a separating line, and the rest
pub record Divides (text document rest : List ℕ) : Type 0 where
  pub line : List ℕ
  pub after : List ℕ
  pub separates : Separates text document line after
  pub follows : Follows after rest
  pub undivided : IsUndivided document

-- the documents of a text: with a separating line between each two they give it back, and none has
-- a separating line of its own
abbrev pub Documents : List ℕ → List (List ℕ) → Type 0
Documents text [] = ⊥
Documents text (document ∷ []) = (text ≡ document) × IsUndivided document
Documents text (document ∷ next ∷ documents) =
    (rest : List ℕ) × Divides text document rest × Documents rest (next ∷ documents)

-- the text has one list of documents
pub record HasOneParting (text : List ℕ) : Type 0 where
  pub documents : List (List ℕ)
  pub divided : Documents text documents
  pub only : (others : List (List ℕ)) → Documents text others → others ≡ documents
