-- What a writer has after a call, where its bytes are known.
use Rattle.std.specs.Prelude.{◌≡◌, ℕ, List, ◌++◌, Option, MatchResult}
use Rattle.std.specs.declared.result.Result.{Result}
use Rattle.std.specs.Io.KnownBytes.{Appends}
use Rattle.implib.specs.Beginning.{AppendsBeginning}

-- the writer took the bytes, or at an error a beginning of them
abbrev pub Writes : {T E : Type 0} → Option (List ℕ) → Option (List ℕ) → List ℕ → Result T E →
    Type 0
Writes before after bytes result =
    MatchResult result (λ _. Appends before after bytes) (λ _. AppendsBeginning before after bytes)

-- the writer took the bytes up to these that are left
pub record AppendsUpTo (before after : Option (List ℕ)) (bytes rest : List ℕ) : Type 0 where
  pub taken : List ℕ
  pub whole : bytes ≡ taken ++ rest
  pub written : Appends before after taken

-- the writer took the bytes of a buffer and these behind them, up to those that the buffer has then
pub record AppendsBehind (before after : Option (List ℕ)) (old new bytes : List ℕ) : Type 0 where
  pub taken : List ℕ
  pub whole : old ++ bytes ≡ taken ++ new
  pub written : Appends before after taken

-- the same, or at an error the writer took a beginning of them
abbrev pub WritesBehind : {T E : Type 0} → Option (List ℕ) → Option (List ℕ) → List ℕ → List ℕ →
    List ℕ → Result T E → Type 0
WritesBehind before after old new bytes result =
    MatchResult result (λ _. AppendsBehind before after old new bytes)
    (λ _. AppendsBeginning before after (old ++ bytes))
