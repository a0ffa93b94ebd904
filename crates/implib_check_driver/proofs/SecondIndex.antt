-- The second linker member, as this reader and that of `implib_archive` have it.
use Rattle.std.proofs.Common.{◌≡◌, ◌∙◌, ℕ, zero, suc, ◌+◌, ◌-◌, ◌*◌, ◌^◌, ◌<◌, ◌≤◌, Bool, true, false, cond, List, [], ◌∷◌, ◌++◌, Option, Some, ap, append_assoc, arith, bytes_eq, drop, flat_map, length, length-append, map, refl, sym, take, take-take, unwrap_or}
use Rattle.std.specs.Prelude.{slice_get}
use Rattle.std.specs.Int.{from_le_bytes, w16, w32}
use Rattle.std.specs.Map.{lookup}
use Rattle.std.specs.Option.{option_and_then, option_map}
use Rattle.std.proofs.lemmas.List.{drop-drop, drop-take, drop_at, take_at}
use Rattle.std.proofs.lemmas.Grind.{common_steps}
use Rattle.std.proofs.lemmas.Nat.{from_le_bytes-to_le_bytes_2, from_le_bytes-to_le_bytes_4}
use Rattle.implib.specs.Formats.Object.{bytes_at, u32_at}
use Rattle.implib_archive.specs.Archive.{second_linker, strings_of}
use Rattle.implib_archive.specs.Leads.{numbered}
use Rattle.implib_archive.specs.Parts.{u16_le, u32_le}
use Rattle.implib_archive.specs.Reader.{numbers_in, paired, texts_in}
use Rattle.implib_archive.proofs.FoundIndex.{second_data}
use Rattle.implib_archive.proofs.Numbered.{Each, each_weaker}
use Rattle.implib_archive.proofs.Sized.{length-second_linker, length-u16_le, length-u32_le, length_fours, length_twos}
use Rattle.implib_read.specs.Indexes.{SecondIndex, entries_behind, entries_from, offset_numbered, second_index_in, second_index_with}
use Rattle.implib_compare.proofs.FirstEntries.{pair_of}
use Rattle.implib_check_driver.proofs.IndexReadings.{entries_there, nuls, strings_nuls, taken, there}

-- Offsets by their numbers.

number_there : (m j : ℕ) (bytes : List ℕ) → j < m → slice_get (numbers_in (from_le_bytes w32) 4 m bytes) j ≡ Some (from_le_bytes w32 (take 4 (drop (4 * j) bytes)))
unfolding numbers_in
number_there zero j bytes within = absurd (omega (arith, within))
number_there (suc m) zero bytes within = refl
number_there (suc m) (suc j) bytes within =
    let further : 4 * suc j ≡ 4 + 4 * j = omega arith in
    number_there m j (drop 4 bytes) (omega (arith, within))
    ∙ ap (λ t. Some (from_le_bytes w32 (take 4 t))) (drop-drop (4 * j) 4 bytes)
    ∙ ap (λ k. Some (from_le_bytes w32 (take 4 (drop k bytes)))) (sym further)

-- the offset of a number, in either reader
offset_there : (m k : ℕ) (bytes : List ℕ) → 4 * m ≤ length bytes → 0 < k → k ≤ m
    → numbered (numbers_in (from_le_bytes w32) 4 m bytes) k ≡ Some (unwrap_or (offset_numbered (take (4 * m) bytes) k) 0)
unfolding numbered u32_at
offset_there m zero bytes enough some within = absurd (omega (arith, some))
offset_there m (suc j) bytes enough some within =
    let offsets = take (4 * m) bytes in
    let long : length offsets ≡ 4 * m = grind (arith, common_steps, enough) in
    let rest = 4 * m - 4 * j in
    let split : 4 * m ≡ 4 * j + rest = omega (arith, within) in
    let here : take 4 (drop (4 * j) offsets) ≡ take 4 (drop (4 * j) bytes) =
    ap (λ n. take 4 (drop (4 * j) (take n bytes))) split ∙ ap (take 4) (drop-take (4 * j) rest bytes) ∙ take-take 4 rest (drop (4 * j) bytes) (omega (arith, within)) in
    let found : offset_numbered offsets (suc j) ≡ Some (from_le_bytes w32 (take 4 (drop (4 * j) bytes))) =
    ap (option_map (λ offset. u32_at offset 0)) (there offsets (4 * j) 4 (omega (arith, long, within)))
    ∙ ap (λ t. Some (from_le_bytes w32 t)) (take-take 4 4 (drop (4 * j) offsets) (omega arith) ∙ here) in
    number_there m j bytes (omega (arith, within)) ∙ sym (ap (λ o. Some (unwrap_or o 0)) found)

-- Numbers that are looked up.

numbers_read : (sorted : List (List ℕ × ℕ)) (rest : List ℕ) → Each (λ k. k < 2 ^ 16) sorted
    → numbers_in (from_le_bytes w16) 2 (length sorted) (flat_map (λ (e : List ℕ × ℕ). u16_le e.1) sorted ++ rest) ≡ map (λ e. e.1) sorted
unfolding numbers_in u16_le
numbers_read [] rest small = refl
numbers_read (e ∷ sorted) rest small =
    let behind = flat_map (λ (e : List ℕ × ℕ). u16_le e.1) sorted ++ rest in
    let two = length-u16_le e.1 in
    ap (λ t. from_le_bytes w16 (take 2 t) ∷ numbers_in (from_le_bytes w16) 2 (length sorted) (drop 2 t)) (append_assoc (u16_le e.1) (flat_map (λ (e : List ℕ × ℕ). u16_le e.1) sorted) rest)
    ∙ ap (λ t. from_le_bytes w16 t ∷ numbers_in (from_le_bytes w16) 2 (length sorted) (drop 2 (u16_le e.1 ++ behind))) (take_at (u16_le e.1) behind 2 two)
    ∙ ap (λ t. from_le_bytes w16 (u16_le e.1) ∷ numbers_in (from_le_bytes w16) 2 (length sorted) t) (drop_at (u16_le e.1) behind 2 two)
    ∙ ap (λ n. n ∷ numbers_in (from_le_bytes w16) 2 (length sorted) behind) (from_le_bytes-to_le_bytes_2 e.1 small.0)
    ∙ ap (λ ns. e.1 ∷ ns) (numbers_read sorted rest small.1)

-- a number that is found for a symbol is one of them, so that it has an offset
found_one : (s : List ℕ) (F : ℕ → Option ℕ) (g : ℕ → ℕ) (texts : List (List ℕ)) (sorted : List (List ℕ × ℕ)) → Each (λ k. F k ≡ Some (g k)) sorted
    → option_and_then F (lookup (bytes_eq s) (paired texts (map (λ e. e.1) sorted))) ≡ option_map g (lookup (bytes_eq s) (paired texts (map (λ e. e.1) sorted)))
unfolding paired
found_one s F g [] sorted each = refl
found_one s F g (t ∷ texts) [] each = refl
found_one s F g (t ∷ texts) (e ∷ sorted) each = by (bytes_eq s t) (found_one s F g texts sorted each.1)
  where
    by : (b : Bool) → option_and_then F (lookup (bytes_eq s) (paired texts (map (λ e. e.1) sorted))) ≡ option_map g (lookup (bytes_eq s) (paired texts (map (λ e. e.1) sorted)))
        → option_and_then F (cond b (Some e.1) (lookup (bytes_eq s) (paired texts (map (λ e. e.1) sorted)))) ≡ option_map g (cond b (Some e.1) (lookup (bytes_eq s) (paired texts (map (λ e. e.1) sorted))))
    by true rest = each.0
    by false rest = rest

-- The second linker member.

pub record HasSecond (bytes : List ℕ) (sorted : List (List ℕ × ℕ)) : Type 0 where
  pub index : SecondIndex
  pub is : second_index_in bytes ≡ Some index
  -- the entries are those that `implib_archive`'s reader has
  pub same : map pair_of index.entries ≡ (second_data bytes).1
  -- and lead where its numbers lead
  pub leads : (s : List ℕ) → option_and_then (numbered (second_data bytes).0) (lookup (bytes_eq s) (second_data bytes).1)
      ≡ option_map (λ n. unwrap_or (offset_numbered index.offsets n) 0) (lookup (bytes_eq s) (second_data bytes).1)

pub second_there : (places : List ℕ) (sorted : List (List ℕ × ℕ)) (pad : List ℕ) → length places < 2 ^ 16 → length sorted < 2 ^ 32 → Each (λ k. (0 < k) × (k ≤ length places)) sorted
    → Each (λ k. k < 2 ^ 16) sorted → HasSecond (second_linker places sorted ++ pad) sorted
unfolding second_index_in second_linker u32_le u32_at
second_there places sorted pad few few_entries each small =
    let m = length places in
    let n = length sorted in
    let members = u32_le m in
    let offsets = flat_map u32_le places in
    let count = u32_le n in
    let numbers = flat_map (λ (e : List ℕ × ℕ). u16_le e.1) sorted in
    let behind = strings_of sorted ++ pad in
    let rest = count ++ (numbers ++ behind) in
    let bytes = second_linker places sorted ++ pad in
    let four = length-u32_le m in
    let size = length-second_linker places sorted in
    let long = length-append (second_linker places sorted) pad in
    let fours = length_fours u32_le length-u32_le places in
    let at_rest : bytes ≡ (members ++ offsets) ++ rest =
    append_assoc (members ++ offsets ++ count ++ numbers) (strings_of sorted) pad
    ∙ (append_assoc (members ++ offsets ++ count) numbers behind ∙ append_assoc (members ++ offsets) count (numbers ++ behind)) in
    let at_offsets : bytes ≡ members ++ (offsets ++ rest) = at_rest ∙ append_assoc members offsets rest in
    let counted : from_le_bytes w32 (take 4 bytes) ≡ m =
    ap (λ t. from_le_bytes w32 (take 4 t)) at_offsets ∙ (ap (from_le_bytes w32) (take_at members (offsets ++ rest) 4 four) ∙ from_le_bytes-to_le_bytes_4 m (omega (arith, few))) in
    let again : from_le_bytes w32 (take 4 (take 4 bytes)) ≡ m = ap (from_le_bytes w32) (take-take 4 4 bytes (omega arith)) ∙ counted in
    let front : length (members ++ offsets) ≡ 4 + 4 * m = omega (arith, length-append members offsets, four, fours) in
    let found_rest : drop (4 + 4 * m) bytes ≡ rest = ap (drop (4 + 4 * m)) at_rest ∙ drop_at (members ++ offsets) rest (4 + 4 * m) front in
    let n_four = length-u32_le n in
    let n_read : from_le_bytes w32 (take 4 rest) ≡ n = ap (from_le_bytes w32) (take_at count (numbers ++ behind) 4 n_four) ∙ from_le_bytes-to_le_bytes_4 n few_entries in
    let n_again : from_le_bytes w32 (take 4 (take 4 (drop (4 + 4 * m) bytes))) ≡ n =
    ap (from_le_bytes w32) (take-take 4 4 (drop (4 + 4 * m) bytes) (omega arith)) ∙ ap (λ t. from_le_bytes w32 (take 4 t)) found_rest ∙ n_read in
    let at_numbers : drop (4 + 4 * m + 4) bytes ≡ numbers ++ behind =
    sym (drop-drop 4 (4 + 4 * m) bytes) ∙ ap (drop 4) found_rest ∙ drop_at count (numbers ++ behind) 4 n_four in
    let twos = length_twos (λ (e : List ℕ × ℕ). u16_le e.1) (λ e. length-u16_le e.1) sorted in
    let at_strings : drop (4 + 4 * m + 4 + 2 * n) bytes ≡ behind =
    sym (drop-drop (2 * n) (4 + 4 * m + 4) bytes) ∙ ap (drop (2 * n)) at_numbers ∙ drop_at numbers behind (2 * n) twos in
    let enough : n ≤ nuls (drop (4 + 4 * m + 4 + 2 * n) bytes) = omega (arith, ap nuls at_strings, strings_nuls sorted pad) in
    let found = entries_there true n (take (2 * n) (drop (4 + 4 * m + 4) bytes)) (drop (4 + 4 * m + 4 + 2 * n) bytes) enough in
    let index : SecondIndex = record { offsets = take (4 * m) (drop 4 bytes); entries = found.entries } in
    let data_offsets : (second_data bytes).0 ≡ numbers_in (from_le_bytes w32) 4 m (drop 4 bytes) = ap (λ k. numbers_in (from_le_bytes w32) 4 k (drop 4 bytes)) counted in
    let data_entries : (second_data bytes).1 ≡ paired (texts_in n behind) (map (λ e. e.1) sorted) =
    ap (λ k. let r = drop (4 + 4 * k) bytes in let c = from_le_bytes w32 (take 4 r) in paired (texts_in c (drop (4 + 2 * c) r)) (numbers_in (from_le_bytes w16) 2 c (drop 4 r))) counted
    ∙ ap (λ r. let c = from_le_bytes w32 (take 4 r) in paired (texts_in c (drop (4 + 2 * c) r)) (numbers_in (from_le_bytes w16) 2 c (drop 4 r))) found_rest
    ∙ ap (λ c. paired (texts_in c (drop (4 + 2 * c) rest)) (numbers_in (from_le_bytes w16) 2 c (drop 4 rest))) n_read
    ∙ ap (λ t. paired (texts_in n (drop (4 + 2 * n) rest)) (numbers_in (from_le_bytes w16) 2 n t)) (drop_at count (numbers ++ behind) 4 n_four)
    ∙ ap (paired (texts_in n (drop (4 + 2 * n) rest))) (numbers_read sorted behind small)
    ∙ ap (λ t. paired (texts_in n t) (map (λ e. e.1) sorted))
    (sym (drop-drop (2 * n) 4 rest) ∙ ap (drop (2 * n)) (drop_at count (numbers ++ behind) 4 n_four) ∙ drop_at numbers behind (2 * n) twos) in
    let whole_offsets : 4 * m ≤ length (drop 4 bytes) = grind (arith, common_steps, long, size) in
    record {
      index = index;
      is = ap (option_and_then (λ ms. option_and_then (second_index_with bytes (4 + 4 * from_le_bytes w32 (take 4 ms))) (bytes_at bytes 4 (4 * from_le_bytes w32 (take 4 ms))))) (there bytes 0 4 (omega (arith, long, size)))
          ∙ ap (λ k. option_and_then (second_index_with bytes (4 + 4 * k)) (bytes_at bytes 4 (4 * k))) again
          ∙ ap (option_and_then (second_index_with bytes (4 + 4 * m))) (there bytes 4 (4 * m) (omega (arith, long, size)))
          ∙ ap (option_and_then (λ c. option_map (λ entries. record { offsets = take (4 * m) (drop 4 bytes); entries = entries }) (entries_behind true (from_le_bytes w32 (take 4 c)) (4 + 4 * m + 4) bytes)))
          (there bytes (4 + 4 * m) 4 (omega (arith, long, size)))
          ∙ ap (λ k. option_map (λ entries. record { offsets = take (4 * m) (drop 4 bytes); entries = entries }) (entries_behind true k (4 + 4 * m + 4) bytes)) n_again
          ∙ ap (λ o. option_map (λ entries. record { offsets = take (4 * m) (drop 4 bytes); entries = entries }) (option_and_then (λ ps. entries_from true n ps (drop (4 + 4 * m + 4 + 2 * n) bytes)) o))
          (there bytes (4 + 4 * m + 4) (2 * n) (omega (arith, long, size)))
          ∙ ap (option_map (λ entries. record { offsets = take (4 * m) (drop 4 bytes); entries = entries })) found.is;
      same = found.same
          ∙ ap (paired (texts_in n (drop (4 + 4 * m + 4 + 2 * n) bytes))) (taken 2 (λ k. omega arith) (from_le_bytes w16) n (drop (4 + 4 * m + 4) bytes))
          ∙ ap (λ t. paired (texts_in n (drop (4 + 4 * m + 4 + 2 * n) bytes)) (numbers_in (from_le_bytes w16) 2 n t)) at_numbers
          ∙ ap (paired (texts_in n (drop (4 + 4 * m + 4 + 2 * n) bytes))) (numbers_read sorted behind small)
          ∙ ap (λ t. paired (texts_in n t) (map (λ e. e.1) sorted)) at_strings
          ∙ sym data_entries;
      leads = λ s. ap (λ d. option_and_then (numbered d) (lookup (bytes_eq s) (second_data bytes).1)) data_offsets
          ∙ ap (λ d. option_and_then (numbered (numbers_in (from_le_bytes w32) 4 m (drop 4 bytes))) (lookup (bytes_eq s) d)) data_entries
          ∙ found_one s (numbered (numbers_in (from_le_bytes w32) 4 m (drop 4 bytes))) (λ k. unwrap_or (offset_numbered (take (4 * m) (drop 4 bytes)) k) 0) (texts_in n behind) sorted
          (each_weaker _ _ (λ k h. offset_there m k (drop 4 bytes) whole_offsets h.0 h.1) sorted each)
          ∙ sym (ap (λ d. option_map (λ k. unwrap_or (offset_numbered (take (4 * m) (drop 4 bytes)) k) 0) (lookup (bytes_eq s) d)) data_entries);
    }
