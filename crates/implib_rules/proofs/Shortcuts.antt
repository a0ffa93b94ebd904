-- What the reading of a definition may leave out: keywords where the second byte is no capital, and
-- open quotes where there is no quote.
use Rattle.std.proofs.Common.{rules, ◌≡◌, ℕ, ◌+◌, ◌==◌, false, List, [], ◌∷◌, None, refl, arith}
use Rattle.std.specs.Prelude.{slice_index}
use Rattle.std.specs.Char.{is_ascii_uppercase}
use Rattle.std.specs.List.{list_any}
use Rattle.implib_rules.specs.declared.plain.Reading.{Reading}
use Rattle.implib_rules.specs.Forms.{open_quote_from}
use Rattle.implib_rules.specs.Plain.{is_sections, is_statement, step_of, wants_name, wants_number}
use Rattle.implib_rules.proofs.Targets.{neither}

pub no_keyword : (text : List ℕ) → is_ascii_uppercase (slice_index text 1) ≡ false
    → (wants_name text ≡ false) × (wants_number text ≡ false) × (is_statement text ≡ false) × (is_sections text ≡ false)
no_keyword text small = search rules

pub none_open : (reading : Reading) (at : ℕ) (text : List ℕ) → list_any (λ b. b == 34) text ≡ false → open_quote_from reading at text ≡ None
unfolding open_quote_from
none_open reading at [] none = refl
none_open reading at (b ∷ rest) none = grind (arith, neither, none_open (step_of reading b (b ∷ rest) rest).reading (at + 1) rest (neither (b == 34) (list_any (λ b. b == 34) rest) none).1)
