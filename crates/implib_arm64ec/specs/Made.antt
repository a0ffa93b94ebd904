-- View: archives that were made, with what is kept of them to write them.
use Rattle.std.specs.Prelude.{◌≡◌, ℕ, List, None, length}
use Rattle.implib_archive.specs.Archive.{end_from, names_bytes, sorted_entries}
use Rattle.implib_archive.specs.declared.kind.Kind.TheVariants.{Coff}
use Rattle.implib_arm64ec.specs.Archive.{arm64_entries, ec_entries, first_member_place}
use Rattle.implib_arm64ec.specs.Archive.{library_names, library_refusal, member_places}
use Rattle.implib_arm64ec.specs.Library.{LibraryView, for_arm64}
use Rattle.implib_arm64ec.specs.declared.listing.Listed.{Listed}
use Rattle.implib_arm64ec.specs.declared.listing.Listed.TheVariants.{Arm64}

pub record IsMade (l : LibraryView) (listed : Listed)
    (entries sorted marked offsets : List (List ℕ × ℕ)) (size : ℕ) (places : List ℕ)
    (end' : ℕ) : Type 0 where
  pub accepted : library_refusal l ≡ None
  pub for_linkers : listed ≡ Arm64
  pub listed_first : entries ≡ arm64_entries l
  pub ordered : sorted ≡ sorted_entries (arm64_entries l)
  pub ec : marked ≡ ec_entries l
  pub named : offsets ≡ library_names l
  pub sized : size ≡ length (names_bytes Coff (library_names l))
  pub placed : places ≡ member_places l
  pub ends : end' ≡ end_from (first_member_place l) (for_arm64 l)
