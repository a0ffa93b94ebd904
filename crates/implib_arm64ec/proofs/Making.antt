-- Archives that were made have the bytes of their libraries.
use Rattle.std.proofs.Common.{◌≡◌, ℕ, ◌+◌, ◌-◌, ◌^◌, ◌++◌, List, flat_map, length, min, refl, ap, arith}
use Rattle.implib_archive.specs.Archive.{first_place, front, member_part}
use Rattle.implib_archive.specs.Parts.{part_size}
use Rattle.implib_archive.specs.declared.kind.Kind.TheVariants.{Coff}
use Rattle.implib_arm64ec.specs.Archive.{arm64_entries, ec_archive, ec_entries, ec_front, ec_index, ec_members, ec_part, first_member_place, library_names, member_places}
use Rattle.implib_arm64ec.specs.Library.{LibraryView, for_arm64, library_view, listing_members, members_with}
use Rattle.implib_arm64ec.specs.Made.{IsMade}
use Rattle.implib_arm64ec.specs.declared.listing.Listed.{Listed}
use Rattle.implib_arm64ec.specs.declared.listing.Listed.TheVariants.{Arm64}
use Rattle.implib_arm64ec.specs.declared.listing.Listing.{Listing}

-- the offset of the first header, as far as it is told apart
pub first_measured : (l : LibraryView) (start index whole : ℕ) → min start (2 ^ 32) ≡ min (first_place Coff (for_arm64 l)) (2 ^ 32)
    → min index (2 ^ 32) ≡ min (part_size (length (ec_index (ec_entries l)))) (2 ^ 32) → whole ≡ min (start + index) (2 ^ 64 - 1)
    → min whole (2 ^ 32) ≡ min (first_member_place l) (2 ^ 32)
first_measured l start index whole a b c = omega (arith, a, b, c)

-- an archive is its front and its members
pub whole_archive : (l : LibraryView) → front Coff (member_places l) (arm64_entries l) (library_names l) ++ ec_part (ec_entries l) ++ ec_members l ≡ ec_archive l
unfolding ec_archive ec_front
whole_archive l = refl

module _ {l : LibraryView} {listed : Listed} {entries sorted marked offsets : List (List ℕ × ℕ)} {size : ℕ} {places : List ℕ} {end' : ℕ} (made : IsMade l listed entries sorted marked offsets size places end') where
  pub members_made : flat_map (member_part offsets) (members_with listed l) ≡ ec_members l
  unfolding ec_members
  members_made = grind arith

-- the members of a list for ARM64
pub same_members : (s : Listing) → s.listed ≡ Arm64 → listing_members s ≡ for_arm64 (library_view s)
same_members s is = ap (λ k. members_with k (library_view s)) is
