-- The section of an address, found by going over the sections.
use Rattle.std.proofs.Common.{arith, ◌≡◌, ℕ, ◌+◌, ◌<◌, ◌≤◌, true, false, List, Some, None, map, length, drop, get_or, ap, add-one}
use Rattle.std.proofs.Math.Seq.{drop-cons}
use Rattle.std.proofs.Math.ListN.{drop_of_length-le}
use Rattle.implib_dll.specs.declared.section.Section.{Section}
use Rattle.implib_dll.specs.declared.section.AddressKind.TheVariants.{Outside}
use Rattle.implib_dll.specs.Sections.{data_from, has_address, has_data, kind_at, kind_in, located}
use Rattle.implib_dll.specs.Views.{section_view}

pub located-here : (sections : List Section) (rva i : ℕ) (d : Section) → i < length sections → has_data (section_view (get_or sections i d)) rva ≡ true
    → located (map section_view (drop i sections)) rva ≡ Some (data_from (section_view (get_or sections i d)) rva)
unfolding located
located-here sections rva i d within here = grind (arith, drop-cons)

pub located-later : (sections : List Section) (rva i : ℕ) (d : Section) → i < length sections → has_data (section_view (get_or sections i d)) rva ≡ false
    → located (map section_view (drop (i + 1) sections)) rva ≡ located (map section_view (drop i sections)) rva
unfolding located
located-later sections rva i d within other = grind (arith, add-one, drop-cons)

pub located-none : (sections : List Section) (rva i : ℕ) → length sections ≤ i → located (map section_view (drop i sections)) rva ≡ None
unfolding located
located-none sections rva i past = ap (λ rest. located (map section_view rest) rva) (drop_of_length-le sections past)

pub kind_at-here : (sections : List Section) (rva i : ℕ) (d : Section) → i < length sections → has_address (section_view (get_or sections i d)) rva ≡ true
    → kind_at (map section_view (drop i sections)) rva ≡ kind_in (section_view (get_or sections i d))
unfolding kind_at
kind_at-here sections rva i d within here = grind (arith, drop-cons)

pub kind_at-later : (sections : List Section) (rva i : ℕ) (d : Section) → i < length sections → has_address (section_view (get_or sections i d)) rva ≡ false
    → kind_at (map section_view (drop (i + 1) sections)) rva ≡ kind_at (map section_view (drop i sections)) rva
unfolding kind_at
kind_at-later sections rva i d within other = grind (arith, add-one i, drop-cons sections i d within)

pub kind_at-none : (sections : List Section) (rva i : ℕ) → length sections ≤ i → kind_at (map section_view (drop i sections)) rva ≡ Outside
unfolding kind_at
kind_at-none sections rva i past = ap (λ rest. kind_at (map section_view rest) rva) (drop_of_length-le sections past)
