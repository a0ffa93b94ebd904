-- Symbol tables, an entry at a time.
use Rattle.std.proofs.Common.{◌≡◌, ℕ, zero, suc, ◌+◌, ◌-◌, ◌<◌, List, [], ◌∷◌, ◌++◌, Option, Some, None, map, slice_index, ap, ◌∙◌, arith}
use Rattle.std.proofs.lemmas.List.{map-append}
use Rattle.std.specs.Option.{option_and_then, option_map}
use Rattle.implib.specs.Formats.Object.{Entry, ASymbol, Auxiliary, ObjectSymbol, bytes_at, entries_at, symbol_of}
use Rattle.implib_read.specs.Objects.{entry_at}
use Rattle.implib_read.proofs.Gathering.{Gathers, gathers-more}

-- the entries from an entry on, with how many of those after it are its auxiliary records
joined : List ℕ → List ℕ → ℕ → ℕ → Option (Entry × ℕ) → Option (List Entry)
joined bytes strings later n None = None
joined bytes strings later n (Some (e, auxiliary)) = option_map (λ es. e ∷ es) (entries_at bytes strings later auxiliary n)

with_symbol : (bytes strings : List ℕ) (later n : ℕ) (record_bytes : List ℕ) (symbol : Option ObjectSymbol)
    → option_and_then (λ s. option_map (λ es. ASymbol s ∷ es) (entries_at bytes strings later (slice_index record_bytes 17) n)) symbol
    ≡ joined bytes strings later n (option_map (λ s. (ASymbol s, slice_index record_bytes 17)) symbol)
unfolding joined
with_symbol bytes strings later n record_bytes symbol = grind arith

with_record : (bytes strings : List ℕ) (later n : ℕ) (record_bytes : Option (List ℕ))
    → option_and_then (λ r. option_and_then (λ s. option_map (λ es. ASymbol s ∷ es) (entries_at bytes strings later (slice_index r 17) n)) (symbol_of strings r)) record_bytes
    ≡ joined bytes strings later n (option_and_then (λ r. option_map (λ s. (ASymbol s, slice_index r 17)) (symbol_of strings r)) record_bytes)
unfolding joined
with_record bytes strings later n record_bytes = grind (arith, with_symbol)

with_auxiliary : (bytes strings : List ℕ) (later auxiliary n : ℕ) (record_bytes : Option (List ℕ))
    → option_and_then (λ r. option_map (λ es. Auxiliary r ∷ es) (entries_at bytes strings later auxiliary n)) record_bytes
    ≡ joined bytes strings later n (option_map (λ r. (Auxiliary r, auxiliary)) record_bytes)
unfolding joined
with_auxiliary bytes strings later auxiliary n record_bytes = grind arith

entries_at-step : (bytes strings : List ℕ) (place auxiliary n : ℕ)
    → entries_at bytes strings place auxiliary (suc n) ≡ joined bytes strings (place + 18) n (entry_at bytes strings place auxiliary)
unfolding entries_at entry_at
entries_at-step bytes strings place zero n = with_record bytes strings (place + 18) n (bytes_at bytes place 18)
entries_at-step bytes strings place (suc auxiliary) n = with_auxiliary bytes strings (place + 18) auxiliary n (bytes_at bytes place 18)

pub entries_at-stop : (bytes strings : List ℕ) (place auxiliary n : ℕ) → 0 < n → entry_at bytes strings place auxiliary ≡ None → entries_at bytes strings place auxiliary n ≡ None
unfolding joined
entries_at-stop bytes strings place auxiliary zero some none = absurd (omega (arith, some))
entries_at-stop bytes strings place auxiliary (suc n) some none = entries_at-step bytes strings place auxiliary n ∙ ap (joined bytes strings (place + 18) n) none

pub entries_at-more : (bytes strings : List ℕ) (place auxiliary n : ℕ) (e : Entry) (behind : ℕ) → 0 < n → entry_at bytes strings place auxiliary ≡ Some (e, behind)
    → entries_at bytes strings place auxiliary n ≡ option_map (λ es. e ∷ es) (entries_at bytes strings (place + 18) behind (n - 1))
unfolding joined
entries_at-more bytes strings place auxiliary zero e behind some is = absurd (omega (arith, some))
entries_at-more bytes strings place auxiliary (suc n) e behind some is = grind (arith, entries_at-step)

-- the loop goes on: one more entry
pub entries-read : {A : Type 0} (view : A → Entry) (bytes strings : List ℕ) (whole : Option (List Entry)) (place auxiliary n behind : ℕ) (items next : List A) (x : A)
    → next ≡ items ++ x ∷ [] → 0 < n → entry_at bytes strings place auxiliary ≡ Some (view x, behind)
    → Gathers whole (map view items) (entries_at bytes strings place auxiliary n) → Gathers whole (map view next) (entries_at bytes strings (place + 18) behind (n - 1))
entries-read view bytes strings whole place auxiliary n behind items next x pushed some is so_far =
    let rest = entries_at bytes strings (place + 18) behind (n - 1) in
    grind (arith, gathers-more whole (entries_at bytes strings place auxiliary n) (map view items) (view x) rest so_far (entries_at-more bytes strings place auxiliary n (view x) behind some is), map-append view items (x ∷ []))

pub entries_at-end : (bytes strings : List ℕ) (place auxiliary n : ℕ) → n ≡ 0 → auxiliary ≡ 0 → entries_at bytes strings place auxiliary n ≡ Some []
unfolding entries_at
entries_at-end bytes strings place auxiliary n none no_more = ap (λ k. entries_at bytes strings place k n) no_more ∙ ap (entries_at bytes strings place 0) none

pub entries_at-lacks : (bytes strings : List ℕ) (place auxiliary n : ℕ) → n ≡ 0 → 0 < auxiliary → entries_at bytes strings place auxiliary n ≡ None
unfolding entries_at
entries_at-lacks bytes strings place auxiliary n none more = grind arith
