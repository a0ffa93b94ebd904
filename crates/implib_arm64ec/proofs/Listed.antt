-- A member of a list by its index.
use Rattle.std.proofs.Common.{◌≡◌, ℕ, ◌+◌, ◌-◌, ◌<◌, ◌≤◌, Bool, true, false, List, [], ◌∷◌, ◌++◌, get_or, if◌then◌else◌, length, map, refl, sym, ap, ◌∙◌, length-append, arith}
use Rattle.std.proofs.lemmas.List.{get_or-append_right, get_or-map, get_or_append_left, length-map}
use Rattle.implib.specs.Library.{member_view}
use Rattle.implib.specs.Members.MemberSpec.{MemberView}
use Rattle.implib.specs.declared.member.Member.{Member}
use Rattle.implib_archive.specs.Sources.{member_at, no_member}
use Rattle.implib_arm64ec.specs.Library.{LibraryView, has_imports, has_natives, members_with, silent}
use Rattle.implib_arm64ec.specs.declared.listing.Listed.{Listed}
use Rattle.implib_arm64ec.specs.declared.listing.Listed.TheVariants.{All, Arm64, Arm64ec}

-- a member with its symbols, or without them
abbrev pub seen : Bool → MemberView → MemberView
seen listed m = if listed then m else silent m

all_seen : (members : List MemberView) → members ≡ map (seen true) members
all_seen [] = refl
all_seen (m ∷ members) = ap (λ t. m ∷ t) (all_seen members)

none_seen : (members : List MemberView) → map silent members ≡ map (seen false) members
none_seen [] = refl
none_seen (m ∷ members) = ap (λ t. silent m ∷ t) (none_seen members)

-- each list is headers, imports and native members
three_parts : (k : Listed) (l : LibraryView) → members_with k l ≡ l.headers ++ map (seen (has_imports k)) l.imports ++ map (seen (has_natives k)) l.natives
three_parts All l = grind (arith, all_seen)
three_parts Arm64 l = grind (arith, none_seen, all_seen)
three_parts Arm64ec l = grind (arith, all_seen, none_seen)

-- each list has all members
pub many_listed : (k : Listed) (headers : List Member) (imports : List MemberView) (natives : List Member)
    → length (members_with k (record { headers = map member_view headers; imports = imports; natives = map member_view natives }))
    ≡ length headers + length imports + length natives
many_listed k headers imports natives = grind (arith, length-append, length-map, three_parts)

-- an import, and a native member, by their index among all
module _ (k : Listed) (headers : List Member) (imports : List MemberView) (natives : List Member) (i : ℕ) (past : length headers ≤ i) where
  pub import_at : i - length headers < length imports → seen (has_imports k) (member_at imports (i - length headers))
      ≡ member_at (members_with k (record { headers = map member_view headers; imports = imports; natives = map member_view natives })) i
  import_at within = grind (arith, length-map, length-append, three_parts, get_or_append_left, get_or-append_right, get_or-map)

  pub native_at : (d : Member) → length imports ≤ i - length headers → i - length headers - length imports < length natives
      → seen (has_natives k) (member_view (get_or natives (i - length headers - length imports) d))
      ≡ member_at (members_with k (record { headers = map member_view headers; imports = imports; natives = map member_view natives })) i
  native_at d later within =
      let hs = map member_view headers in
      let ns = map member_view natives in
      let j = i - length headers - length imports in
      let before = hs ++ map (seen (has_imports k)) imports in
      let listed = map (seen (has_natives k)) ns in
      let count : length before ≡ length headers + length imports = grind (arith, length-append, length-map) in
      let many : length ns ≡ length natives = length-map natives member_view in
      let some : j < length ns = omega (arith, many, within) in
      let same : i - (length headers + length imports) ≡ j = omega arith in
      sym (ap (λ t. member_at t i) (three_parts k (record { headers = hs; imports = imports; natives = ns }))
      ∙ (get_or-append_right before listed (length headers + length imports) i no_member count (omega (arith, past, later))
      ∙ (ap (λ n. get_or listed n no_member) same
      ∙ (get_or-map (seen (has_natives k)) ns j no_member no_member some ∙ ap (seen (has_natives k)) (get_or-map member_view natives j d no_member within)))))
