-- Views of where a member is.
use Rattle.std.specs.Prelude.{◌≡◌, ◌<◌, ℕ, List, length}
use Rattle.implib.specs.Library.{member_view}
use Rattle.implib.specs.Members.MemberSpec.{MemberView}
use Rattle.implib_archive.specs.Sources.{member_at}
use Rattle.implib_libraries.specs.declared.null_descriptor.members.Spot.{Spot}
use Rattle.implib_libraries.specs.declared.null_descriptor.members.Spot.TheVariants.{Header, Ordinary}

-- the member at an index is there
abbrev pub IsThere : List MemberView → ℕ → Spot → Type 0
IsThere members index (Header member) = member_at members index ≡ member_view member.now
IsThere members index (Ordinary ordinary) =
    (member_at members index ≡ member_at ordinary.now index) × (index < length ordinary.now)
