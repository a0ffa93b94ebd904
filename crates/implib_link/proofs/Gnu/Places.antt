-- Code at another base: a base relocation changes its own field, and nothing else.
use Rattle.std.proofs.Common.{◌≡◌, ℕ, ◌+◌, ◌<◌, ◌≤◌, true, false, List, [], ◌∷◌, ◌++◌, map, Some, refl, inl, inr, arith}
use Rattle.std.specs.List.{AllByRecursion, flat_map, list_any}
use Rattle.std.proofs.lemmas.List.Folds.{list_any-append}
use Rattle.implib.specs.declared.coff.object.Relocation.{Relocation}
use Rattle.implib.specs.declared.machine.MachineType.{MachineType}
use Rattle.implib.specs.Link.Image.{AllApart, Range, is_in}
use Rattle.implib.proofs.Link.LinkedMembers.{among_map}
use Rattle.implib.proofs.Link.Ranges.{Among, all_among}
use Rattle.implib_link.specs.Gnu.Fields.{field_width, Place, absolute_width, covers, places_at}

pub places_from : (machine : MachineType) (position : ℕ) (rs : List Relocation) → AllByRecursion (λ (p : Place). position ≤ p.address) (places_at machine position rs)
places_from machine position [] = tt
places_from machine position (r ∷ rs) = grind (arith, places_from machine position rs)

pub covered_bounds : (a : ℕ) (p : Place) → covers a p ≡ true → (p.address ≤ a) × (a < p.address + p.width)
covered_bounds a p covered = grind arith

pub covering : (a low high : ℕ) (ps : List Place) → AllByRecursion (λ (p : Place). low ≤ p.address) ps → AllByRecursion (λ (p : Place). p.address + p.width ≤ high) ps → list_any (covers a) ps ≡ true →
    (low ≤ a) × (a < high)
covering a low high [] from below covered = cc
covering a low high (p ∷ ps) from below covered = grind (arith, covering a low high ps from.1 below.1)

pub none_covers : {X : Type 0} (f : X → List Place) (a : ℕ) (xs : List X) → ((d : X) → Among d xs → list_any (covers a) (f d) ≡ false) → list_any (covers a) (flat_map f xs) ≡ false
unfolding Among
none_covers f a [] each = refl
none_covers f a (d ∷ xs) each = grind (arith, none_covers f a xs, list_any-append)

-- what a base relocation changes is in the field
pub narrow : (machine : MachineType) (type width : ℕ) → absolute_width machine type ≡ Some width → width ≤ field_width machine type
narrow machine type width is = grind arith

-- a relocation that stores an address whole has its place
pub among_place : (machine : MachineType) (position : ℕ) (r : Relocation) (width : ℕ) (rs : List Relocation) → absolute_width machine r.kind ≡ Some width → Among r rs →
    Among (record { address = position + r.offset; width = width }) (places_at machine position rs)
unfolding Among
among_place machine position r width [] is m = absurd m
among_place machine position r width (y ∷ rs) is (inl same) = grind arith
among_place machine position r width (y ∷ rs) is (inr m) = grind (arith, among_place machine position r width rs is m)

pub apart_back : (xs ys : List Range) → AllApart (xs ++ ys) → AllApart ys
apart_back [] ys apart = apart
apart_back (x ∷ xs) ys apart = apart_back xs ys apart.1

pub one_code : {X : Type 0} (f : X → Range) (a : ℕ) (c d : X) (xs : List X) → AllApart (map f xs) → Among c xs → Among d xs → is_in a (f c) ≡ true → is_in a (f d) ≡ true → c ≡ d
unfolding Among
one_code f a c d [] apart m n first second = absurd m
one_code f a c d (x ∷ xs) apart (inl same) h7 first second = grind (arith, all_among, among_map)
one_code f a c d (x ∷ xs) apart (inr m) (inl other) first second = grind (arith, all_among, among_map)
one_code f a c d (x ∷ xs) apart (inr m) (inr n) first second = one_code f a c d xs apart.1 m n first second
