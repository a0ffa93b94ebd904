-- The members of a library of ARM64EC, and the two lists of which its archive has indexes.
use Rattle.std.specs.Prelude.{Bool, true, false, ◌<◌, List, [], ◌++◌, length, map}
use Rattle.implib.specs.Library.{member_view}
use Rattle.implib.specs.Members.MemberSpec.{MemberView}
use Rattle.implib_archive.specs.Sources.{member_at}
use Rattle.implib_arm64ec.specs.declared.listing.Listed.{Listed}
use Rattle.implib_arm64ec.specs.declared.listing.Listed.TheVariants.{All, Arm64, Arm64ec}
use Rattle.implib_arm64ec.specs.declared.listing.Listing.{Listing}
use Rattle.implib_arm64ec.specs.declared.listing.Spot.{Spot}
use Rattle.implib_arm64ec.specs.declared.listing.Spot.TheVariants.{Held, Import}

-- a library: its headers (the descriptor, the null descriptor and the null thunk), which are of
-- machine ARM64; the short imports of ARM64EC; and the members of ARM64 of a native definition
pub record LibraryView : Type 0 where
  pub headers : List MemberView
  pub imports : List MemberView
  pub natives : List MemberView

-- all members, in order
abbrev pub members_of : LibraryView → List MemberView
members_of l = l.headers ++ l.imports ++ l.natives

-- a member without its symbols
abbrev pub silent : MemberView → MemberView
silent m = record { name = m.name; bytes = m.bytes; symbols = [] }

-- the same members, of which those of ARM64 alone have symbols: headers and native members
abbrev pub for_arm64 : LibraryView → List MemberView
for_arm64 l = l.headers ++ map silent l.imports ++ l.natives

-- the same members, of which those that ARM64EC takes have symbols: headers and imports
abbrev pub for_arm64ec : LibraryView → List MemberView
for_arm64ec l = l.headers ++ l.imports ++ map silent l.natives

-- View: what a list of the code stands for.
abbrev pub library_view : Listing → LibraryView
library_view l = record {
  headers = map member_view l.headers.now;
  imports = l.imports.now;
  natives = map member_view l.natives.now;
}

abbrev pub members_with : Listed → LibraryView → List MemberView
members_with All l = members_of l
members_with Arm64 l = for_arm64 l
members_with Arm64ec l = for_arm64ec l

abbrev pub listing_members : Listing → List MemberView
listing_members l = members_with l.listed (library_view l)

-- whether the imports have symbols in a list
abbrev pub has_imports : Listed → Bool
has_imports All = true
has_imports Arm64 = false
has_imports Arm64ec = true

-- whether the native members have
abbrev pub has_natives : Listed → Bool
has_natives All = true
has_natives Arm64 = true
has_natives Arm64ec = false

-- the member that is there
abbrev pub spot_view : Spot → MemberView
spot_view (Held member) = member_view member.now
spot_view (Import imports place) = member_at imports.now place

-- there is one
abbrev pub IsThere : Spot → Type 0
IsThere (Held member) = Unit {0}
IsThere (Import imports place) = place < length imports.now
