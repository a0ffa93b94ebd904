-- What holds of a library that has an archive.
use Rattle.std.proofs.Common.{◌≡◌, ℕ, ◌+◌, ◌*◌, ◌^◌, ◌<◌, ◌≤◌, Bool, true, false, ◌&&◌, List, [], ◌∷◌, ◌++◌, Option, Some, None, flat_map, if◌then◌else◌, is_some, length, nat_lt, unwrap_or, refl, sym, ap, subst, ◌∙◌, length-append, arith}
use Rattle.std.specs.List.{All}
use Rattle.std.proofs.lemmas.Bool.{and_parts, lt-ltb, ltb-true}
use Rattle.implib.specs.Members.MemberSpec.{MemberView}
use Rattle.implib_archive.specs.Archive.{end_from, first_place, front, member_part, names_bytes, offset_of, places_from, places_of, strings_of}
use Rattle.implib_archive.specs.Parts.{part_size, signature}
use Rattle.implib_archive.specs.Pushed.{FrontFits}
use Rattle.implib_archive.specs.Refusal.{has_short_places, has_too_many, members_refusal, places_refusal, refusal_of}
use Rattle.implib_archive.specs.declared.error.Fault.{Fault}
use Rattle.implib_archive.specs.declared.error.Fault.TheVariants.{TooManyMembers}
use Rattle.implib_archive.specs.declared.kind.Kind.TheVariants.{Coff}
use Rattle.implib_archive.proofs.Numbered.{all_from_each, each_entry, each_sorted, each_weaker, sorted_as_many}
use Rattle.implib_archive.proofs.Placed.{are_short, none_too_far}
use Rattle.implib_archive.proofs.Sized.{length-u16_le, length-u32_le, length_twos}
use Rattle.implib_archive.proofs.Whole.{LabelFits, first_near, few_if_coff, front_fits, front_short, length-members, length-padded, length-places, linkers-size, members_short, names_below, names_of-size, offset_below, refused_places as refused_ordinary, sum_first}
use Rattle.implib_arm64ec.specs.Archive.{arm64_entries, ec_archive, ec_entries, ec_front, ec_index, ec_label, ec_members, ec_part, first_member_place, library_names, library_refusal, member_places}
use Rattle.implib_arm64ec.specs.Library.{LibraryView, for_arm64, members_of}
use Rattle.implib_arm64ec.proofs.Alike.{few_for_arm64, none_for_arm64, same_many_ec}

-- Offsets that are not refused.

accepted_places : (place : ℕ) (members : List MemberView) → places_refusal place members ≡ None → (place < 2 ^ 32) × (are_short (places_from place members) ≡ true)
unfolding places_refusal has_short_places
accepted_places place members none = grind (arith, nat_lt, none, ltb-true)

short_before : (a b : ℕ) (members : List MemberView) → a ≤ b → are_short (places_from b members) ≡ true → are_short (places_from a members) ≡ true
unfolding places_from
short_before a b [] less all = refl
short_before a b (m ∷ members) less all =
    let size = part_size (length m.bytes) in
    let both = and_parts (nat_lt b (2 ^ 32)) (are_short (places_from (b + size) members)) all in
    let near = ltb-true b (2 ^ 32) both.0 in
    ap (λ t. t && are_short (places_from (a + size) members)) (lt-ltb a (2 ^ 32) (omega (arith, near, less)))
    ∙ short_before (a + size) (b + size) members (omega (arith, less)) both.1

-- members that are not too far are not where they begin earlier
near_before : (a b : ℕ) (members : List MemberView) → a ≤ b → places_refusal b members ≡ None → places_refusal a members ≡ None
near_before a b members less none = grind (arith, accepted_places, none, none_too_far, short_before)

-- The first cause, in turn.
module _ (l : LibraryView) where
  pub refused_member : (f : Option Fault) → members_refusal Coff (members_of l) ≡ f → is_some f ≡ true → library_refusal l ≡ f
  unfolding library_refusal
  refused_member f is some = grind (arith, is_some)

  rest : members_refusal Coff (members_of l) ≡ None → library_refusal l ≡ (if has_too_many Coff (members_of l) then Some TooManyMembers else places_refusal (first_member_place l) (for_arm64 l))
  unfolding library_refusal
  rest none = ap (λ f. if is_some f then f else (if has_too_many Coff (members_of l) then Some TooManyMembers else places_refusal (first_member_place l) (for_arm64 l))) none

  pub refused_many : members_refusal Coff (members_of l) ≡ None → has_too_many Coff (members_of l) ≡ true → library_refusal l ≡ Some TooManyMembers
  refused_many none many = rest none ∙ ap (λ b. if b then Some TooManyMembers else places_refusal (first_member_place l) (for_arm64 l)) many

  pub refused_places : members_refusal Coff (members_of l) ≡ None → has_too_many Coff (members_of l) ≡ false → library_refusal l ≡ places_refusal (first_member_place l) (for_arm64 l)
  refused_places none few = rest none ∙ ap (λ b. if b then Some TooManyMembers else places_refusal (first_member_place l) (for_arm64 l)) few

-- a library that has an archive; its members for ARM64 have one of the COFF kind
pub record Accepted (l : LibraryView) : Type 0 where
  pub none : members_refusal Coff (members_of l) ≡ None
  pub few : length (members_of l) < 65535
  pub near : places_refusal (first_member_place l) (for_arm64 l) ≡ None
  pub ordinary : refusal_of Coff (for_arm64 l) ≡ None

pub accepted_library : (l : LibraryView) → library_refusal l ≡ None → Accepted l
accepted_library l accepted = by_member (members_refusal Coff (members_of l)) refl
  where
    by_many : (b : Bool) → has_too_many Coff (members_of l) ≡ b → members_refusal Coff (members_of l) ≡ None → Accepted l
    by_many true many none = let e : Some TooManyMembers ≡ None = sym (refused_many l none many) ∙ accepted in absurd (cc)
    by_many false few none =
        let near = sym (refused_places l none few) ∙ accepted in
        let members = for_arm64 l in
        record {
          none = none;
          few = few_if_coff Coff (members_of l) few refl;
          near = near;
          ordinary = grind (arith, refused_ordinary, none_for_arm64, none, few_for_arm64, few, near_before, near);
        }

    by_member : (f : Option Fault) → members_refusal Coff (members_of l) ≡ f → Accepted l
    by_member None none = by_many (has_too_many Coff (members_of l)) refl none
    by_member (Some f) is = let e : Some f ≡ None = sym (refused_member l (Some f) is refl) ∙ accepted in absurd (cc)

-- What is before the members fits its fields.

pub length-ec_index : (entries : List (List ℕ × ℕ)) → length (ec_index entries) ≡ 4 + 2 * length entries + length (strings_of entries)
unfolding ec_index
length-ec_index entries = grind (arith, length-append, length-u32_le, length_twos, length-u16_le)

pub ec_fits : LabelFits ec_label
unfolding ec_label
ec_fits = record { name = omega arith; date = omega arith; owner = omega arith; mode = omega arith }

module _ (l : LibraryView) (a : Accepted l) where
  same_count : length (member_places l) ≡ length (places_of Coff (for_arm64 l))
  same_count = length-places (first_member_place l) (for_arm64 l) ∙ sym (length-places (first_place Coff (for_arm64 l)) (for_arm64 l))

  pub linkers_fit : FrontFits Coff (member_places l) (arm64_entries l)
  linkers_fit =
      let fits = front_fits Coff (for_arm64 l) a.ordinary in
      record {
        numbered = subst (λ n. All (λ e. (0 < e.1) × (e.1 ≤ n)) (arm64_entries l)) (sym same_count) fits.numbered;
        short = fits.short;
        numbers = fits.numbers;
        second_short = λ is. omega (arith, fits.second_short is, same_count);
      }

  pub ec_numbers : All (λ e. e.1 < 2 ^ 16) (ec_entries l)
  ec_numbers = grind (arith, all_from_each, each_sorted, each_weaker, same_many_ec, each_entry)

  pub first_below : first_member_place l < 2 ^ 32
  first_below = first_near (first_member_place l) (for_arm64 l) a.near

  pub ec_short : 4 + 2 * length (ec_entries l) + length (strings_of (ec_entries l)) < 2 ^ 32
  ec_short = omega (arith, first_below, length-ec_index (ec_entries l))

  pub names_short : length (names_bytes Coff (library_names l)) < 2 ^ 32
  names_short = names_below Coff (for_arm64 l) a.ordinary

  -- Lengths.

  length-linkers : length (front Coff (member_places l) (arm64_entries l) (library_names l)) ≡ first_place Coff (for_arm64 l)
  unfolding front signature
  length-linkers = grind (arith, front_short, length-places, linkers-size, sorted_as_many, names_of-size, length-append, sum_first)

  pub length-ec_archive : length (ec_archive l) ≡ end_from (first_member_place l) (for_arm64 l)
  unfolding ec_archive ec_front ec_members ec_part
  length-ec_archive =
      let members = for_arm64 l in
      let names = library_names l in
      let start = front Coff (member_places l) (arm64_entries l) names in
      let index = ec_part (ec_entries l) in
      let near : (name : List ℕ) → unwrap_or (offset_of names name) 0 < 2 ^ 32 = λ name. omega (arith, names_short, offset_below Coff members name) in
      let one : length index ≡ part_size (length (ec_index (ec_entries l))) = length-padded ec_label 0 (ec_index (ec_entries l)) ec_fits (omega (arith, ec_short, length-ec_index (ec_entries l))) in
      let whole : length (start ++ index) ≡ first_member_place l = omega (arith, length-append start index, length-linkers, one) in
      length-append (start ++ index) (flat_map (member_part names) members)
      ∙ ap (λ n. n + length (flat_map (member_part names) members)) whole
      ∙ length-members names near (first_member_place l) members (members_short Coff members (none_for_arm64 l a.none))
