-- View: what the code's functions have appended and measured.
use Rattle.std.specs.Prelude.{◌≡◌, ℕ, ◌+◌, ◌-◌, ◌*◌, ◌^◌, ◌<◌, ◌≤◌, List, [], ◌++◌, Option, None}
use Rattle.std.specs.Prelude.{Some, bytes_eq, codes, length, map}
use Rattle.std.specs.Borrow.{Bor}
use Rattle.std.specs.List.{All, IsDistinct}
use Rattle.std.specs.Cmp.Lexicographic.{slice_cmp}
use Rattle.std.specs.Ordering.{nat_cmp, ordering_then}
use Rattle.std.specs.declared.cmp.Ordering.{Ordering}
use Rattle.implib_archive.specs.Archive.{end_from, entries_of, first_place, long_names}
use Rattle.implib_archive.specs.Archive.{member_label, names_bytes, places_of, sorted_entries}
use Rattle.implib_archive.specs.Archive.{strings_of}
use Rattle.implib_archive.specs.Refusal.{refusal_of}
use Rattle.implib_archive.specs.Sources.{member_at}
use Rattle.implib_archive.specs.declared.error.Error.{Error}
use Rattle.implib_archive.specs.declared.error.Error.TheVariants.{Invalid, OutOfMemory}
use Rattle.implib_archive.specs.declared.error.Fault.{Fault}
use Rattle.implib_archive.specs.declared.kind.Kind.{Kind}
use Rattle.implib_archive.specs.declared.kind.Kind.TheVariants.{Coff}
use Rattle.implib.specs.Members.MemberSpec.{MemberView}
use Rattle.implib_archive.specs.Parts.{Label as LabelSpec, field, header_bytes}
use Rattle.implib_archive.specs.declared.bytes.Label.{Label}
use Rattle.implib_archive.specs.declared.bytes.Texts.{Texts}
use Rattle.implib_archive.specs.declared.bytes.Texts.TheVariants as texts

-- the bytes were appended
pub record Pushes (old new bytes : List ℕ) : Type 0 where
  pub whole : new ≡ old ++ bytes

-- entries or long names of borrowed texts
abbrev pub shown : List (Bor (List ℕ) × ℕ) → List (List ℕ × ℕ)
shown pairs = map (λ e. (e.0.now, e.1)) pairs

-- no symbol has two entries
abbrev pub AreDistinct : List (List ℕ × ℕ) → Type 0
AreDistinct entries = IsDistinct bytes_eq (map (λ e. e.0) entries)

-- the order of entries in the code: by symbols, and of one symbol by numbers
abbrev pub entry_cmp : Bor (List ℕ) × ℕ → Bor (List ℕ) × ℕ → Ordering
entry_cmp x y = ordering_then (slice_cmp nat_cmp x.0.now y.0.now) (nat_cmp x.1 y.1)

-- the date of a header, and its user and group
abbrev pub owner_of : Texts → List ℕ
owner_of texts.Linker = codes "0"
owner_of texts.LongNames = []
owner_of texts.Member = codes "0"

-- the mode of a header
abbrev pub mode_of : Texts → List ℕ
mode_of texts.Linker = codes "0"
mode_of texts.LongNames = []
mode_of texts.Member = codes "644"

-- the fields of date, user, group and mode
abbrev pub middle_of : Texts → List ℕ
middle_of t =
    field 12 (owner_of t) ++ field 6 (owner_of t) ++ field 6 (owner_of t) ++ field 8 (mode_of t)

-- the texts of a header
abbrev pub label_view : Label → LabelSpec
label_view l = record {
  name = l.name.now ++ l.name_end.now;
  date = owner_of l.texts;
  owner = owner_of l.texts;
  mode = mode_of l.texts;
}

-- long names that were found with their offsets, and the size of their data, exact below 2^32
pub record AreMeasured (kind : Kind) (names found : List (List ℕ × ℕ)) (size : ℕ) : Type 0 where
  pub same : size < 2 ^ 32 → found ≡ names
  pub exact : size < 2 ^ 32 → length (names_bytes kind names) ≡ size
  pub long : 2 ^ 32 ≤ size → 2 ^ 32 ≤ length (names_bytes kind names)

-- an error is a failed allocation, or this refusal
abbrev pub IsRefusal : Option Fault → Error → Type 0
IsRefusal refusal (Invalid fault) = refusal ≡ Some fault
IsRefusal refusal (OutOfMemory failed) = Unit {0}

-- entries and offsets fit the fields of the linker members
pub record FrontFits (kind : Kind) (places : List ℕ) (entries : List (List ℕ × ℕ)) : Type 0 where
  pub numbered : All (λ e. (0 < e.1) × (e.1 ≤ length places)) entries
  pub short : 4 + 4 * length entries + length (strings_of entries) < 2 ^ 32
  pub numbers : kind ≡ Coff → All (λ e. e.1 < 2 ^ 16) (sorted_entries entries)
  pub second_short : kind ≡ Coff
      → 8 + 4 * length places + 2 * length (sorted_entries entries)
      + length (strings_of (sorted_entries entries)) < 2 ^ 32

-- entries of members in the order of their symbols, of the COFF kind
abbrev pub AreInOrder : Kind → List MemberView → List (List ℕ × ℕ) → Type 0
AreInOrder kind members sorted = kind ≡ Coff → sorted ≡ sorted_entries (entries_of kind members)

-- members that have an archive, with what is kept of them to write it
pub record IsMade (kind : Kind) (members : List MemberView)
    (entries sorted offsets : List (List ℕ × ℕ)) (size : ℕ) (places : List ℕ)
    (end' : ℕ) : Type 0 where
  pub accepted : refusal_of kind members ≡ None
  pub listed : entries ≡ entries_of kind members
  pub ordered : AreInOrder kind members sorted
  pub named : offsets ≡ long_names kind members
  pub sized : size ≡ length (names_bytes kind (long_names kind members))
  pub placed : places ≡ places_of kind members
  pub ends : end' ≡ end_from (first_place kind members) members

-- the header of a member
abbrev pub header_of : List (List ℕ × ℕ) → MemberView → List ℕ
header_of names m = header_bytes (member_label names m.name) (length m.bytes)

-- the bytes are the header of the member before the one at an index, where there is one
abbrev pub IsHeaderBefore : List (List ℕ × ℕ) → List MemberView → ℕ → List ℕ → Type 0
IsHeaderBefore names members index bytes =
    0 < index → bytes ≡ header_of names (member_at members (index - 1))
