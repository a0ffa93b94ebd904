-- Views of where a delayed member is. No promise cites them.
use Rattle.std.specs.Prelude.{◌≡◌, ◌<◌, ℕ, List, length}
use Rattle.implib.specs.Library.{member_view}
use Rattle.implib.specs.Members.MemberSpec.{MemberView}
use Rattle.implib_archive.specs.Sources.{member_at}
use Rattle.implib_delay.specs.declared.members.Spot.{Spot}
use Rattle.implib_delay.specs.declared.members.Spot.TheVariants.{Held, Kept}

-- the member at an index is there
abbrev pub IsThere : List MemberView → ℕ → Spot → Type 0
IsThere members index (Held member) = member_at members index ≡ member_view member.now
IsThere members index (Kept exports) =
    (member_at members index ≡ member_at exports.now.members index)
    × (index < length exports.now.members)
