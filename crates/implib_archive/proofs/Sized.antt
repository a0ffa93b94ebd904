-- The lengths of the parts of an archive.
use Rattle.std.proofs.Common.{◌≡◌, ℕ, ◌+◌, ◌*◌, ◌%◌, ◌<◌, List, [], ◌∷◌, ◌++◌, Result, OnOk, flat_map, if◌then◌else◌, length, nat_lt, refl, sym, ap, ◌∙◌, append_assoc, length-append, arith}
use Rattle.std.proofs.lemmas.Bool.{lt-ltb}
use Rattle.std.proofs.lemmas.List.{length-replicate}
use Rattle.implib_archive.specs.Archive.{first_linker, linker_label, linkers, names_label, names_part, second_linker, sorted_entries, strings_of}
use Rattle.implib_archive.specs.Parts.{Label, header_bytes, padded_part_bytes, padding, u16_le, u32_be, u32_le}
use Rattle.implib_archive.specs.Pushed.{Pushes}
use Rattle.implib_archive.specs.declared.kind.Kind.{Kind}
use Rattle.implib_archive.specs.declared.kind.Kind.TheVariants.{Coff, Gnu}
use Rattle.implib_archive.proofs.Appended.{on_as, on_then, pushes_then}

pub length_fours : {X : Type 0} (f : X → List ℕ) → ((x : X) → length (f x) ≡ 4) → (xs : List X) → length (flat_map f xs) ≡ 4 * length xs
length_fours f four [] = refl
length_fours f four (x ∷ xs) = omega (arith, length-append (f x) (flat_map f xs), four x, length_fours f four xs)

pub length_twos : {X : Type 0} (f : X → List ℕ) → ((x : X) → length (f x) ≡ 2) → (xs : List X) → length (flat_map f xs) ≡ 2 * length xs
length_twos f two [] = refl
length_twos f two (x ∷ xs) = omega (arith, length-append (f x) (flat_map f xs), two x, length_twos f two xs)

pub length-u32_be : (n : ℕ) → length (u32_be n) ≡ 4
unfolding u32_be
length-u32_be n = refl

pub length-u32_le : (n : ℕ) → length (u32_le n) ≡ 4
unfolding u32_le
length-u32_le n = refl

pub length-u16_le : (n : ℕ) → length (u16_le n) ≡ 2
unfolding u16_le
length-u16_le n = refl

pub length-first_linker : (places : List ℕ) (entries : List (List ℕ × ℕ)) → length (first_linker places entries) ≡ 4 + 4 * length entries + length (strings_of entries)
unfolding first_linker
length-first_linker places entries = grind (arith, length-append, length-u32_be, length_fours)

pub length-second_linker : (places : List ℕ) (sorted : List (List ℕ × ℕ)) → length (second_linker places sorted) ≡ 8 + 4 * length places + 2 * length sorted + length (strings_of sorted)
unfolding second_linker
length-second_linker places sorted = grind (arith, length-append, length-u32_le, length_fours, length_twos, length-u16_le)

pub length-padding : (byte size : ℕ) → length (padding byte size) ≡ size % 2
unfolding padding
length-padding byte size = length-replicate (size % 2) byte

-- a part whose padding is within its data, piece by piece
pub padded_is : (l : Label) (byte size : ℕ) (contents : List ℕ) → length contents ≡ size → header_bytes l (size + size % 2) ++ contents ++ padding byte size ≡ padded_part_bytes l byte contents
unfolding padded_part_bytes
padded_is l byte size contents long = grind (arith, length-append, length-padding, append_assoc)

pub on_padded : {T E : Type 0} (r : Result T E) (l : Label) (byte size : ℕ) (contents : List ℕ) {a b c : List ℕ} (d : List ℕ) → length contents ≡ size
    → Pushes a b (header_bytes l (size + size % 2)) → Pushes b c contents → OnOk r (Pushes c d (padding byte size)) → OnOk r (Pushes a d (padded_part_bytes l byte contents))
on_padded r l byte size contents {a} {b} {c} d long header inside last =
    on_as r a d (padded_is l byte size contents long) (on_then r d (padding byte size) (pushes_then header inside) last)

-- the long names member, and none
pub names_part-some : (names : List ℕ) → 0 < length names → padded_part_bytes names_label 10 names ≡ names_part names
unfolding names_part
names_part-some names some = sym (ap (λ b. if b then padded_part_bytes names_label 10 names else []) (lt-ltb 0 (length names) some))

pub names_part-none : (names : List ℕ) → length names ≡ 0 → [] ≡ names_part names
unfolding names_part
names_part-none names none = sym (ap (λ n. if nat_lt 0 n then padded_part_bytes names_label 10 names else []) none)

-- the linker members of each kind
module _ (places : List ℕ) (entries : List (List ℕ × ℕ)) where
  pub linkers-coff : {kind : Kind} → kind ≡ Coff → padded_part_bytes linker_label 0 (first_linker places entries) ++ padded_part_bytes linker_label 0 (second_linker places (sorted_entries entries)) ≡ linkers kind places entries
  unfolding linkers
  linkers-coff is = sym (ap (λ k. linkers k places entries) is)

  pub linkers-gnu : {kind : Kind} → kind ≡ Gnu → 0 < length entries → padded_part_bytes linker_label 0 (first_linker places entries) ≡ linkers kind places entries
  unfolding linkers
  linkers-gnu is some = sym (ap (λ k. linkers k places entries) is ∙ ap (λ b. if b then padded_part_bytes linker_label 0 (first_linker places entries) else []) (lt-ltb 0 (length entries) some))

  pub linkers-none : {kind : Kind} → kind ≡ Gnu → length entries ≡ 0 → [] ≡ linkers kind places entries
  unfolding linkers
  linkers-none is none = sym (ap (λ k. linkers k places entries) is ∙ ap (λ n. if nat_lt 0 n then padded_part_bytes linker_label 0 (first_linker places entries) else []) none)
