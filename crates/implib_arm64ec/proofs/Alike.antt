-- The lists of a library's members have the same names and bytes, and are refused alike.
use Rattle.std.proofs.Common.{◌≡◌, List, [], ◌∷◌, ◌++◌, None, is_some, length, map, nat_le, nat_lt, refl, ap, length-append, arith}
use Rattle.std.proofs.lemmas.List.{length-map, map-append}
use Rattle.implib.specs.Members.MemberSpec.{MemberView}
use Rattle.implib_archive.specs.ReadBack.{read_view}
use Rattle.implib_archive.specs.Refusal.{has_too_many, member_refusal, members_refusal, symbols_refusal}
use Rattle.implib_archive.specs.declared.kind.Kind.TheVariants.{Coff}
use Rattle.implib_archive.proofs.FoundMembers.{some_none}
use Rattle.implib_arm64ec.specs.Library.{LibraryView, for_arm64, for_arm64ec, members_of, silent}

-- they are as many
pub same_many : (l : LibraryView) → length (for_arm64 l) ≡ length (members_of l)
same_many l = grind (arith, length-append, length-map)

pub same_many_ec : (l : LibraryView) → length (for_arm64ec l) ≡ length (members_of l)
same_many_ec l = grind (arith, length-append, length-map)

-- what is read of them is the same
silent_read : (members : List MemberView) → map read_view (map silent members) ≡ map read_view members
silent_read [] = refl
silent_read (m ∷ members) = ap (λ t. read_view m ∷ t) (silent_read members)

pub same_read : (l : LibraryView) → map read_view (for_arm64 l) ≡ map read_view (members_of l)
same_read l = grind (arith, map-append, silent_read)

-- Where none of the members is refused, none is without its symbols.

refused_both : (xs ys : List MemberView) → members_refusal Coff xs ≡ None → members_refusal Coff ys ≡ None → members_refusal Coff (xs ++ ys) ≡ None
unfolding members_refusal
refused_both [] ys a b = b
refused_both (x ∷ xs) ys a b = grind (arith, refused_both xs ys (some_none (member_refusal Coff x) (members_refusal Coff xs) a).1 b, some_none, is_some)

refused_parts : (xs ys : List MemberView) → members_refusal Coff (xs ++ ys) ≡ None → (members_refusal Coff xs ≡ None) × (members_refusal Coff ys ≡ None)
unfolding members_refusal
refused_parts [] ys a = (refl, a)
refused_parts (x ∷ xs) ys a = grind (arith, refused_parts xs ys (some_none (member_refusal Coff x) (members_refusal Coff (xs ++ ys)) a).1, some_none, is_some)

silent_member : (m : MemberView) → member_refusal Coff m ≡ None → member_refusal Coff (silent m) ≡ None
unfolding member_refusal symbols_refusal
silent_member m none = grind (arith, nat_lt, some_none, is_some)

silent_members : (members : List MemberView) → members_refusal Coff members ≡ None → members_refusal Coff (map silent members) ≡ None
unfolding members_refusal
silent_members [] none = refl
silent_members (m ∷ members) none = grind (arith, silent_members members (some_none (member_refusal Coff m) (members_refusal Coff members) none).1, some_none, is_some, silent_member)

module _ (l : LibraryView) (none : members_refusal Coff (members_of l) ≡ None) where
  pub none_for_arm64 : members_refusal Coff (for_arm64 l) ≡ None
  none_for_arm64 = grind (arith, refused_parts, refused_both, silent_members)

  pub none_for_arm64ec : members_refusal Coff (for_arm64ec l) ≡ None
  none_for_arm64ec = grind (arith, refused_parts, refused_both, silent_members)

pub few_for_arm64 : (l : LibraryView) → has_too_many Coff (for_arm64 l) ≡ has_too_many Coff (members_of l)
unfolding has_too_many
few_for_arm64 l = ap (λ n. nat_le 65535 n) (same_many l)
