-- What a map has for the symbols of members.
use Rattle.std.specs.Prelude.{List, ℕ, Option, bytes_eq}
use Rattle.std.specs.HashMap.{HashMap, get_by}
use Rattle.std.specs.declared.hash.FoldHasher.{FoldHasher}
use Rattle.std.specs.declared.hash.BuildHasherDefault.{BuildHasherDefault}
use Rattle.std.proofs.Common.{Bor}

-- the offset that a map has for a symbol
abbrev pub offset_of : HashMap (Bor (List ℕ)) ℕ (BuildHasherDefault FoldHasher) → List ℕ → Option ℕ
offset_of offsets symbol = get_by (λ k. bytes_eq symbol k.now) offsets
