-- A reader finds the members of an archive.
use Rattle.std.proofs.Common.{◌≡◌, ℕ, inl, inr, ◌<◌, Bool, true, false, List, [], ◌∷◌, ◌++◌, Option, Some, None, codes, if◌then◌else◌, is_some, length, map, nat_eq, nat_lt, option_and_then, refl, ap, ◌∙◌, append_assoc, arith}
use Rattle.std.specs.List.{AllByRecursion}
use Rattle.std.proofs.lemmas.Bool.{lt-ltb, true≢false}
use Rattle.implib.specs.Members.MemberSpec.{MemberView}
use Rattle.implib_archive.specs.Archive.{archive_of, entries_of, first_linker, long_names, name_field, names_bytes, places_of}
use Rattle.implib_archive.specs.Parts.{field, padding}
use Rattle.implib_archive.specs.ReadBack.{MembersReadBack, padded, parts_of, read_view, stored, stored_linkers, stored_member, stored_names}
use Rattle.implib_archive.specs.Reader.{Read, Stored, before_others, long_names_in, long_names_or, members_among, members_in, name_in, read_as}
use Rattle.implib_archive.specs.Refusal.{member_refusal, members_refusal, name_refusal, refusal_of}
use Rattle.implib_archive.specs.declared.error.Fault.{Fault}
use Rattle.implib_archive.specs.declared.kind.Kind.{Kind}
use Rattle.implib_archive.specs.declared.kind.Kind.TheVariants.{Coff, Gnu}
use Rattle.implib_archive.proofs.FoundNames.{HasName, HaveNames, IsNamed, linker_named, long_names_named, members_named}
use Rattle.implib_archive.proofs.LaidOut.{laid_out}
use Rattle.implib_archive.proofs.Readings.{parts_read_back}
use Rattle.implib_archive.proofs.Whole.{accepted_parts, names_below, offset_below}

-- Names of members that are not refused.

-- the first test of a chain of causes
pub first_none : (b : Bool) (f : Fault) (rest : Option Fault) → (if b then Some f else rest) ≡ None → (b ≡ false) × (rest ≡ None)
first_none true f rest e = absurd (cc)
first_none false f rest e = (refl, e)

pub some_none : (f g : Option Fault) → (if is_some f then f else g) ≡ None → (f ≡ None) × (g ≡ None)
some_none None g e = (refl, e)
some_none (Some f) g e = absurd (cc)

some_length : (n : ℕ) → nat_eq n 0 ≡ false → 0 < n
some_length n other = grind (arith, nat_eq, true≢false)

is_named : (kind : Kind) (name : List ℕ) → name_refusal kind name ≡ None → IsNamed kind name
unfolding name_refusal
is_named kind name none = grind (arith, first_none, nat_eq, some_length)

are_named : (kind : Kind) (members : List MemberView) → members_refusal kind members ≡ None → AllByRecursion (λ m. IsNamed kind m.name) members
unfolding members_refusal member_refusal
are_named kind [] none = tt
are_named kind (m ∷ members) none = grind (arith, are_named kind members (some_none (member_refusal kind m) (members_refusal kind members) none).1, some_none, is_some, nat_lt, is_named)

-- the name fields of the members of an archive
pub archive_named : (kind : Kind) (members : List MemberView) (padding' : List ℕ) → refusal_of kind members ≡ None → HaveNames kind (names_bytes kind (long_names kind members) ++ padding') (long_names kind members) members
archive_named kind members padding' accepted = grind (arith, members_named, names_below, offset_below, are_named, accepted_parts)

-- Members by their name fields.

before_named : (kind : Kind) (data' field' name contents : List ℕ) (others : List Read) → HasName kind data' field' name → before_others kind data' (name_in field') contents (Some others) ≡ Some (record { name = name; bytes = contents } ∷ others)
unfolding before_others read_as
before_named kind data' field' name contents others (inl short) = ap (λ n. before_others kind data' n contents (Some others)) short
before_named kind data' field' name contents others (inr long) = grind arith

no_names : (kind : Kind) (data' field' name contents others : List ℕ) → HasName kind data' field' name → long_names_or (name_in field') contents others ≡ others
unfolding long_names_or
no_names kind data' field' name contents others (inl short) = ap (λ n. long_names_or n contents others) short
no_names kind data' field' name contents others (inr long) = ap (λ n. long_names_or n contents others) long.at

pub among_members : (kind : Kind) (data' : List ℕ) (names : List (List ℕ × ℕ)) (members : List MemberView) → HaveNames kind data' names members → members_among kind data' (map (stored_member names) members) ≡ Some (map read_view members)
unfolding members_among
among_members kind data' names [] named = refl
among_members kind data' names (m ∷ members) named = grind (arith, among_members kind data' names members named.1, before_named kind data' (field 16 (name_field names m.name)) m.name m.bytes (map read_view members) named.0)

pub none_among : (kind : Kind) (data' : List ℕ) (names : List (List ℕ × ℕ)) (members : List MemberView) → HaveNames kind data' names members → long_names_in (map (stored_member names) members) ≡ []
unfolding long_names_in
none_among kind data' names [] named = refl
none_among kind data' names (m ∷ members) named = grind (arith, none_among kind data' names members named.1, no_names kind data' (field 16 (name_field names m.name)) m.name m.bytes (long_names_in (map (stored_member names) members)) named.0)

-- Linker members and long names are passed over.

module _ (kind : Kind) (data' : List ℕ) where
  past_linker : (contents : List ℕ) (parts : List Stored) → members_among kind data' (stored (codes "/") contents ∷ parts) ≡ members_among kind data' parts
  unfolding members_among before_others
  past_linker contents parts = ap (λ n. before_others kind data' n contents (members_among kind data' parts)) linker_named

  pub past_linkers : (k : Kind) (places : List ℕ) (entries : List (List ℕ × ℕ)) (parts : List Stored) → members_among kind data' (stored_linkers k places entries ++ parts) ≡ members_among kind data' parts
  unfolding stored_linkers
  past_linkers Coff places entries parts = grind (arith, past_linker)
  past_linkers Gnu places entries parts = by_test (nat_lt 0 (length entries))
    where
      by_test : (b : Bool) → members_among kind data' ((if b then stored (codes "/") (padded 0 (first_linker places entries)) ∷ [] else []) ++ parts) ≡ members_among kind data' parts
      by_test true = past_linker (padded 0 (first_linker places entries)) parts
      by_test false = refl

  pub past_names : (names : List ℕ) (parts : List Stored) → members_among kind data' (stored_names names ++ parts) ≡ members_among kind data' parts
  unfolding stored_names members_among before_others
  past_names names parts = by_test (nat_lt 0 (length names))
    where
      by_test : (b : Bool) → members_among kind data' ((if b then stored (codes "//") (padded 10 names) ∷ [] else []) ++ parts) ≡ members_among kind data' parts
      by_test true = ap (λ n. before_others kind data' n (padded 10 names) (members_among kind data' parts)) long_names_named
      by_test false = refl

names_past_linker : (contents : List ℕ) (parts : List Stored) → long_names_in (stored (codes "/") contents ∷ parts) ≡ long_names_in parts
unfolding long_names_in long_names_or
names_past_linker contents parts = ap (λ n. long_names_or n contents (long_names_in parts)) linker_named

pub names_past_linkers : (k : Kind) (places : List ℕ) (entries : List (List ℕ × ℕ)) (parts : List Stored) → long_names_in (stored_linkers k places entries ++ parts) ≡ long_names_in parts
unfolding stored_linkers
names_past_linkers Coff places entries parts = grind (arith, names_past_linker)
names_past_linkers Gnu places entries parts = by_test (nat_lt 0 (length entries))
  where
    by_test : (b : Bool) → long_names_in ((if b then stored (codes "/") (padded 0 (first_linker places entries)) ∷ [] else []) ++ parts) ≡ long_names_in parts
    by_test true = names_past_linker (padded 0 (first_linker places entries)) parts
    by_test false = refl

padded_none : [] ≡ padded 10 []
unfolding padding
padded_none = refl

some_found : (contents : List ℕ) (parts : List Stored) → long_names_in (stored (codes "//") contents ∷ parts) ≡ contents
unfolding long_names_in long_names_or
some_found contents parts = ap (λ n. long_names_or n contents (long_names_in parts)) long_names_named

pub names_found : (names : List ℕ) (parts : List Stored) → long_names_in parts ≡ [] → long_names_in (stored_names names ++ parts) ≡ padded 10 names
unfolding stored_names
names_found [] parts none = none ∙ padded_none
names_found (c ∷ names) parts none = grind (arith, lt-ltb, some_found)

-- the data of the long names in an archive
pub long_names_read : (kind : Kind) (members : List MemberView) → refusal_of kind members ≡ None → long_names_in (parts_of kind members) ≡ padded 10 (names_bytes kind (long_names kind members))
unfolding parts_of
long_names_read kind members accepted =
    let names = long_names kind members in
    let text = names_bytes kind names in
    let linkers = stored_linkers kind (places_of kind members) (entries_of kind members) in
    let behind = map (stored_member names) members in
    ap long_names_in (append_assoc linkers (stored_names text) behind)
    ∙ (names_past_linkers kind (places_of kind members) (entries_of kind members) (stored_names text ++ behind)
    ∙ names_found text behind (none_among kind (padded 10 text) names members (archive_named kind members (padding 10 (length text)) accepted)))

all_found : (kind : Kind) (members : List MemberView) (data' : List ℕ) → HaveNames kind data' (long_names kind members) members → members_among kind data' (parts_of kind members) ≡ Some (map read_view members)
unfolding parts_of
all_found kind members data' named = grind (arith, append_assoc, past_linkers, past_names, among_members)

pub members_found : (kind : Kind) (members : List MemberView) → refusal_of kind members ≡ None → members_among kind (long_names_in (parts_of kind members)) (parts_of kind members) ≡ Some (map read_view members)
members_found kind members accepted = grind (arith, long_names_read, all_found, archive_named)

pub members_read_back : MembersReadBack
unfolding members_in
members_read_back kind members accepted =
    let parts = parts_read_back kind members accepted in
    let laid = laid_out (archive_of kind members) (parts_of kind members) parts in
    record {
      signed = laid.0;
      laid_out = laid.1;
      in_order = ap (option_and_then (λ parts. members_among kind (long_names_in parts) parts)) parts ∙ members_found kind members accepted;
    }
