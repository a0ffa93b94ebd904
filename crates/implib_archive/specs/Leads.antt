-- Where the indexes of an archive lead: a reader looks a symbol up, and finds the header of a
-- member.
use Rattle.std.specs.Prelude.{◌≡◌, ℕ, zero, suc, ◌+◌, ◌%◌, Bool, List, [], ◌∷◌, Option, None, Some}
use Rattle.std.specs.Prelude.{bytes_eq, if◌then◌else◌, is_some, length, map, option_and_then}
use Rattle.std.specs.Prelude.{slice_get}
use Rattle.std.specs.Cmp.Lexicographic.{slice_cmp}
use Rattle.std.specs.List.{list_any}
use Rattle.std.specs.List.Sorted.{IsStrictlySortedBy}
use Rattle.std.specs.Map.{lookup}
use Rattle.std.specs.Option.{option_map}
use Rattle.std.specs.Ordering.{nat_cmp}
use Rattle.implib.specs.Members.MemberSpec.{MemberView}
use Rattle.implib_archive.specs.Archive.{archive_of}
use Rattle.implib_archive.specs.ReadBack.{read_view}
use Rattle.implib_archive.specs.Reader.{Name, Linker, LongNames, Stored, first_in, member_at}
use Rattle.implib_archive.specs.Reader.{name_in, second_in, stored_in}
use Rattle.implib_archive.specs.Refusal.{refusal_of}
use Rattle.implib_archive.specs.declared.kind.Kind.{Kind}
use Rattle.implib_archive.specs.declared.kind.Kind.TheVariants.{Coff}

-- The headers of members.

-- an offset before others, if a name is that of a member
unfoldable pub with_header : Name → ℕ → List ℕ → List ℕ
with_header Linker place headers = headers
with_header LongNames place headers = headers
with_header name place headers = place ∷ headers

-- the offsets of the members' headers among parts, the first of which is at this offset
unfoldable pub headers_among : ℕ → List Stored → List ℕ
headers_among place [] = []
headers_among place (s ∷ parts) =
    with_header (name_in s.field) place
    (headers_among (place + (60 + length s.contents + length s.contents % 2)) parts)

-- the offsets of the members' headers in an archive, in order
unfoldable pub headers_in : List ℕ → Option (List ℕ)
headers_in bytes = option_map (headers_among 8) (stored_in bytes)

-- Looking a symbol up.

-- the offset that the first linker member has for a symbol, in the first entry of it
unfoldable pub header_for : List ℕ → List ℕ → Option ℕ
header_for bytes symbol = option_and_then (lookup (bytes_eq symbol)) (first_in bytes)

-- an offset by its number, which counts from 1
unfoldable pub numbered : List ℕ → ℕ → Option ℕ
numbered offsets zero = None
numbered offsets (suc n) = slice_get offsets n

-- the offset that the second linker member has for a symbol
unfoldable pub second_header_for : List ℕ → List ℕ → Option ℕ
second_header_for bytes symbol =
    option_and_then (λ second. option_and_then (numbered second.0)
    (lookup (bytes_eq symbol) second.1)) (second_in bytes)

-- What is to be found.

-- whether a member lists a symbol
abbrev pub lists : List ℕ → MemberView → Bool
lists symbol m = list_any (bytes_eq symbol) m.symbols

-- the first member that lists a symbol, with the offset of its header, where the members' headers
-- are at these offsets
abbrev pub first_lister : List ℕ → List MemberView → List ℕ → Option (ℕ × MemberView)
first_lister [] members symbol = None
first_lister (place ∷ headers) [] symbol = None
first_lister (place ∷ headers) (m ∷ members) symbol =
    if lists symbol m then Some (place, m) else first_lister headers members symbol

-- Where the index of an archive leads:
-- `headers`, `found`: the members' headers are at these offsets;
-- `read`: the members are after them, in order;
-- `leads`: each symbol leads to the header of the first member that lists it, and any other text
-- nowhere;
-- `listed`: a text leads somewhere exactly if a member lists it.
pub record IndexLeads (kind : Kind) (members : List MemberView) (bytes : List ℕ) : Type 0 where
  pub headers : List ℕ
  pub found : headers_in bytes ≡ Some headers
  pub read : map (member_at kind bytes) headers ≡ map (λ m. Some (read_view m)) members
  pub leads : (symbol : List ℕ) →
      header_for bytes symbol ≡ option_map (λ f. f.0) (first_lister headers members symbol)
  pub listed : (symbol : List ℕ) →
      is_some (header_for bytes symbol) ≡ list_any (lists symbol) members

-- What the second linker member says:
-- `second`: its offsets, and its symbols with numbers;
-- `headers`: the offsets are those of the members' headers;
-- `rises`: the symbols rise strictly, by the order of their bytes;
-- `same`: it leads each text where the first linker member does.
pub record SecondLeads (bytes : List ℕ) : Type 0 where
  pub second : List ℕ × List (List ℕ × ℕ)
  pub found : second_in bytes ≡ Some second
  pub headers : headers_in bytes ≡ Some second.0
  pub rises : IsStrictlySortedBy (slice_cmp nat_cmp) (map (λ e. e.0) second.1)
  pub same : (symbol : List ℕ) → second_header_for bytes symbol ≡ header_for bytes symbol

-- in every archive the index leads so, and in one of the COFF kind the second linker member, too
abbrev pub EachIndexLeads : Type 0
EachIndexLeads = (kind : Kind) (members : List MemberView) → refusal_of kind members ≡ None
    → IndexLeads kind members (archive_of kind members)

abbrev pub EachSecondLeads : Type 0
EachSecondLeads = (members : List MemberView) → refusal_of Coff members ≡ None →
    SecondLeads (archive_of Coff members)
