-- The symbol by which an import is linked.
use Rattle.std.specs.Prelude.{◌≡◌, ℕ, Bool, List, [], ◌∷◌, Option, None, Some, bytes_eq, codes}
use Rattle.std.specs.Prelude.{drop, if◌then◌else◌, take}
use Rattle.std.specs.List.{find}

-- a symbol without `__imp_`
abbrev pub without_imp : List ℕ → List ℕ
without_imp symbol = if bytes_eq (take 6 symbol) (codes "__imp_") then drop 6 symbol else symbol

-- whether a symbol begins with `__imp_`
abbrev pub begins_imp : List ℕ → Bool
begins_imp symbol = bytes_eq (take 6 symbol) (codes "__imp_")

-- that of an address without `__imp_`; where none is one, the first
abbrev pub linked_by : Option (List ℕ) → List (List ℕ) → List ℕ
linked_by (Some address) declared = drop 6 address
linked_by None [] = []
linked_by None (first ∷ more) = first

-- The symbol by which an import is linked: the first that it declares with `__imp_`, which is that
-- of its address, without that. For example, GNU dlltool's `-C` has `___impplain` before
-- `__imp_plain`, which is linked by plain.
abbrev pub linked_symbol : List (List ℕ) → List ℕ
linked_symbol declared = linked_by (find begins_imp declared) declared

-- symbols by what is declared
pub record WorkedSymbols : Type 0 where
  pub code : linked_symbol (codes "__imp_bar" ∷ codes "bar" ∷ []) ≡ codes "bar"
  pub address : linked_symbol (codes "__imp__baz@4" ∷ []) ≡ codes "_baz@4"
  pub other_name : linked_symbol (codes "__bar" ∷ []) ≡ codes "__bar"
  pub first_of_several : linked_symbol (codes "__imp_one" ∷ codes "__imp_two" ∷ codes "three" ∷ [])
      ≡ codes "one"
  pub prefix_alone : linked_symbol (codes "__imp_" ∷ []) ≡ []
  pub prefix_once : linked_symbol (codes "__imp___imp_bar" ∷ []) ≡ codes "__imp_bar"
  pub older_first : linked_symbol (codes "___impplain" ∷ codes "__imp_plain" ∷ codes "plain" ∷ [])
      ≡ codes "plain"
  pub older_alone : linked_symbol (codes "___impplain" ∷ codes "plain" ∷ []) ≡ codes "___impplain"
  pub arm64ec : linked_symbol (codes "__imp_f" ∷ codes "f" ∷ codes "__imp_aux_f" ∷ codes "#f" ∷ [])
      ≡ codes "f"
  pub none : linked_symbol [] ≡ []
