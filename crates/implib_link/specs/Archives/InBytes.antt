-- Archive search in the bytes of an archive. A linker looks a name up in a linker member, which
-- leads it to a header; it takes the member after that header, and reads in its bytes what it
-- leaves to others and what it claims. It knows nothing of who wrote the archive.
use Rattle.std.specs.Prelude.{◌≡◌, ℕ, List, [], ◌∷◌, ◌++◌, Option, Some, None, is_some, map}
use Rattle.std.specs.Prelude.{option_and_then, slice_get}
use Rattle.std.specs.List.{Contains, filter_map}
use Rattle.std.specs.Option.{option_map}
use Rattle.implib.specs.Formats.Object.{Object}
use Rattle.implib_archive.specs.Leads.{header_for, second_header_for, headers_in}
use Rattle.implib_archive.specs.Reader.{member_at}
use Rattle.implib_archive.specs.declared.kind.Kind.{Kind}
use Rattle.implib_archive.specs.declared.kind.Kind.TheVariants.{Gnu}
use Rattle.implib_link.specs.Search.Search.{unresolved, first_listed}
use Rattle.implib.specs.Members.MemberSpec.{MemberView}
use Rattle.implib_archive.specs.Archive.{archive_of}
use Rattle.implib_archive.specs.ReadBack.{read_view}
use Rattle.implib_archive.specs.Refusal.{refusal_of}

-- the linker member that a linker looks names up in
pub data LinkerMember : Type 0 where
  First : LinkerMember
  Second : LinkerMember

-- the header that it has for a name
unfoldable pub header_by : LinkerMember → List ℕ → List ℕ → Option ℕ
header_by First bytes name = header_for bytes name
header_by Second bytes name = second_header_for bytes name

-- archives of the COFF kind have both, those of the GNU kind the first alone
abbrev pub Has : Kind → LinkerMember → Type 0
Has Gnu Second = ⊥
Has kind linker = Unit {0}

-- the bytes of the members after headers
abbrev pub contents_at : Kind → List ℕ → List ℕ → List (List ℕ)
contents_at kind bytes headers =
    filter_map (λ h. option_map (λ r. r.bytes) (member_at kind bytes h)) headers

-- An unresolved name pulls in the member after a header: the given objects and the members that are
-- taken, as the linker reads them, leave it unresolved, it leads to this header, and the member
-- after it is not taken.
pub record PullsInAt (kind : Kind) (linker : LinkerMember) (bytes : List ℕ)
    (reads : List ℕ → Option Object) (own : List Object) (taken : List ℕ) (name : List ℕ)
    (header : ℕ) : Type 0 where
  pub left : Contains (unresolved (own ++ filter_map reads (contents_at kind bytes taken))) name
  pub found : header_by linker bytes name ≡ Some header
  pub new : Contains taken header → ⊥

-- Members are taken one after another, the last one first: the headers are those that some names
-- lead to, each after those before it. The linker may take up the names in any order.
unfoldable pub AreTakenAt : Kind → LinkerMember → List ℕ → (List ℕ → Option Object) →
    List Object → List ℕ → Type 0
AreTakenAt kind linker bytes reads own [] = Unit {0}
AreTakenAt kind linker bytes reads own (header ∷ earlier) =
    ((name : List ℕ) × PullsInAt kind linker bytes reads own earlier name header)
    × AreTakenAt kind linker bytes reads own earlier

-- What a linker takes of the archive: the members after these headers, until no unresolved name
-- pulls in another.
pub record TakesAt (kind : Kind) (linker : LinkerMember) (bytes : List ℕ)
    (reads : List ℕ → Option Object) (own : List Object) (taken : List ℕ) : Type 0 where
  pub in_turn : AreTakenAt kind linker bytes reads own taken
  pub ended : (name : List ℕ) (header : ℕ) →
      PullsInAt kind linker bytes reads own taken name header → ⊥

-- What searches in the bytes of archives find, against searches of the members.

-- Members of a list, by the headers that a linker takes.

-- a header is that of a member: both have one number, among all headers and among all members
pub record IsHeaderOf (headers : List ℕ) (members : List MemberView) (header : ℕ)
    (m : MemberView) : Type 0 where
  pub number : ℕ
  pub header_is : slice_get headers number ≡ Some header
  pub member_is : slice_get members number ≡ Some m

-- headers are those of members, one by one
unfoldable pub AreHeadersOf : List ℕ → List MemberView → List ℕ → List MemberView → Type 0
AreHeadersOf headers members [] [] = Unit {0}
AreHeadersOf headers members (h ∷ taken) (m ∷ found) =
    IsHeaderOf headers members h m × AreHeadersOf headers members taken found
AreHeadersOf headers members [] (m ∷ found) = ⊥
AreHeadersOf headers members (h ∷ taken) [] = ⊥

-- What is taken by headers, in the bytes of the archive of members, are members of which something
-- holds:
-- `headers`, `located`: the members' headers in the bytes;
-- `found`, `at`: the headers that are taken are those of these members;
-- `read`: after them a reader finds these members' names and bytes;
-- `holds`: what holds of these members.
pub record AreMembersAt (kind : Kind) (members : List MemberView) (taken : List ℕ)
    (P : List MemberView → Type 0) : Type 0 where
  pub headers : List ℕ
  pub located : headers_in (archive_of kind members) ≡ Some headers
  pub found : List MemberView
  pub at : AreHeadersOf headers members taken found
  pub read : map (member_at kind (archive_of kind members)) taken
      ≡ map (λ m. Some (read_view m)) found
  pub holds : P found

-- members have an archive of a kind, which has a linker member
pub record HaveArchive (kind : Kind) (linker : LinkerMember)
    (members : List MemberView) : Type 0 where
  pub accepted : refusal_of kind members ≡ None
  pub has : Has kind linker

-- a search in the bytes of the archive of members takes members of which something holds
abbrev pub TakesJust : Kind → LinkerMember → List MemberView → (List ℕ → Option Object) →
    List Object → (List MemberView → Type 0) → Type 0
TakesJust kind linker members reads own P = (taken : List ℕ) →
    TakesAt kind linker (archive_of kind members) reads own taken →
    AreMembersAt kind members taken P

-- A name leads to the header of the first member that it is listed for, after which a reader finds
-- this member's name and bytes; and nowhere, where it is listed for none.
pub record LeadsToFirst (kind : Kind) (linker : LinkerMember) (members : List MemberView)
    (name : List ℕ) : Type 0 where
  pub somewhere : is_some (header_by linker (archive_of kind members) name)
      ≡ is_some (first_listed members name)
  pub read : option_and_then (member_at kind (archive_of kind members))
      (header_by linker (archive_of kind members) name)
      ≡ option_map read_view (first_listed members name)

-- A search of members is one in the bytes of their archive: the headers of the members that are
-- found are taken.
pub record IsSearchOf (kind : Kind) (linker : LinkerMember) (members : List MemberView)
    (reads : List ℕ → Option Object) (own : List Object) (found : List MemberView) : Type 0 where
  pub headers : List ℕ
  pub located : headers_in (archive_of kind members) ≡ Some headers
  pub taken : List ℕ
  pub at : AreHeadersOf headers members taken found
  pub takes : TakesAt kind linker (archive_of kind members) reads own taken
