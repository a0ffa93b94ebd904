-- A search in the bytes of an archive is a search of its members.
use Rattle.std.proofs.lemmas.Grind.{common_steps}
use Rattle.std.proofs.Common.{◌≡◌, ℕ, suc, ◌+◌, ◌%◌, ◌≤◌, Bool, true, false, inl, inr, List, [], ◌∷◌, ◌++◌, Option, Some, None, if◌then◌else◌, is_some, length, map, option_and_then, refl, sym, ap, subst, ◌∙◌, arith, ◌<◌, nat_lt, unwrap_or, codes, append_assoc, append-nil, length-append}
use Rattle.std.specs.Prelude.{slice_get, ◌==◌, ◌||◌, ◌⊎◌, bytes_eq, fold}
use Rattle.std.specs.List.{Contains, cons_option, filter_map, AllByRecursion, IsDistinct, flat_map, list_any}
use Rattle.std.specs.Option.{option_map}
use Rattle.std.proofs.lemmas.Bool.{cases_Bool, eq-eqb, eqb-true, false_from_ne_true, lt-ltb}
use Rattle.std.proofs.lemmas.Option.{slice_get-map, some_pair_parts}
use Rattle.implib.specs.Members.MemberSpec.{MemberView}
use Rattle.implib.proofs.Link.LinkedMembers.{among_contains}
use Rattle.implib.proofs.Link.Ranges.{Among}
use Rattle.implib_archive.specs.Archive.{archive_of, entries_from, entries_of, first_linker, is_listed, place_of, places_of, with_first}
use Rattle.implib_archive.specs.Leads.{first_lister, header_for, headers_among, headers_in, lists, with_header}
use Rattle.implib_archive.specs.ReadBack.{read_view, padded, parts_of, stored, stored_linkers}
use Rattle.implib_archive.specs.Reader.{Name, Stored, member_at, Read, first_in}
use Rattle.implib_archive.specs.declared.kind.Kind.{Kind}
use Rattle.implib_archive.specs.declared.kind.Kind.TheVariants.{Coff, Gnu}
use Rattle.implib_archive.proofs.Leading.{each_index_leads, each_second_leads, entries_texts, headers_found, near_at, short_places}
use Rattle.implib_link.specs.Archives.InBytes.{AreTakenAt, LinkerMember, PullsInAt, Second, TakesAt, contents_at, header_by, AreHeadersOf, HaveArchive, IsHeaderOf, IsSearchOf, LeadsToFirst, TakesJust}
use Rattle.implib.specs.Formats.Object.{Object}
use Rattle.implib_link.specs.Search.Search.{AreTakenIntoAs, PullsIntoAs, TakesIntoAs, unresolved, first_listed, objects_as}
use Rattle.implib_link.proofs.Search.Lists.{contains_among, any_among, distinct_apart}
use Rattle.std.proofs.lemmas.List.{length-map, map-append}
use Rattle.implib_archive.specs.Refusal.{refusal_of}
use Rattle.implib_archive.proofs.FoundIndex.{AreReadable, first_data, first_read, linker_there}
use Rattle.implib_archive.proofs.Readings.{parts_read_back}
use Rattle.implib_archive.proofs.Whole.{accepted_parts, front_fits, length-places}
use Rattle.implib_link.specs.Archives.Files.{HasMembersAs, entries_by, entries_in, member_after, members_read_as, symbols_at}

-- Headers rise.

-- offsets rise strictly, from this one on
unfoldable pub AreRising : ℕ → List ℕ → Type 0
AreRising low [] = Unit {0}
AreRising low (h ∷ headers) = (low ≤ h) × AreRising (h + 1) headers

rising_from : (low high : ℕ) (headers : List ℕ) → low ≤ high → AreRising high headers → AreRising low headers
unfolding AreRising
rising_from low high [] less rising = tt
rising_from low high (h ∷ headers) less rising = (omega (arith, less, rising.0), rising.1)

rising_name : (n : Name) (place next : ℕ) (headers : List ℕ) → place + 1 ≤ next → AreRising next headers → AreRising place (with_header n place headers)
unfolding AreRising with_header
rising_name n place next headers more rising = grind (arith, rising_from)

rising_among : (place : ℕ) (parts : List Stored) → AreRising place (headers_among place parts)
unfolding AreRising headers_among
rising_among place [] = tt
rising_among place (s ∷ parts) = grind (arith, rising_name, rising_among (place + (60 + length s.contents + length s.contents % 2)) parts)

pub rising_headers : (bytes headers : List ℕ) → headers_in bytes ≡ Some headers → AreRising 8 headers
unfolding headers_in
rising_headers bytes headers found = grind (arith, found, headers, rising_among)

-- The first member that lists a name, with its header.

first_is_header : (headers : List ℕ) (members : List MemberView) (name : List ℕ) (h : ℕ) (m : MemberView) → first_lister headers members name ≡ Some (h, m) → IsHeaderOf headers members h m
first_is_header [] members name h m is = absurd (cc)
first_is_header (x ∷ headers) [] name h m is = absurd (cc)
first_is_header (x ∷ headers) (y ∷ members) name h m is = by_test (lists name y) (first_is_header headers members name h m) is
  where
    by_test : (b : Bool) → (first_lister headers members name ≡ Some (h, m) → IsHeaderOf headers members h m)
        → (if b then Some (x, y) else first_lister headers members name) ≡ Some (h, m) → IsHeaderOf (x ∷ headers) (y ∷ members) h m
    by_test true rest e = record { number = 0; header_is = ap (option_map (λ p. p.0)) e; member_is = ap (option_map (λ p. p.1)) e }
    by_test false rest e = let later = rest e in record { number = suc later.number; header_is = later.header_is; member_is = later.member_is }

-- the first member's header is not below the first of all
first_above : (low : ℕ) (headers : List ℕ) (members : List MemberView) (name : List ℕ) (h : ℕ) (m : MemberView) → AreRising low headers → first_lister headers members name ≡ Some (h, m) → low ≤ h
unfolding AreRising
first_above low (x ∷ headers) (y ∷ members) name h m rising is = grind (arith, first_above (x + 1) headers members name h m rising.1)
first_above low headers members name h m rising is = cc

-- and it lists the name
first_lists : (headers : List ℕ) (members : List MemberView) (name : List ℕ) (h : ℕ) (m : MemberView) → first_lister headers members name ≡ Some (h, m) → lists name m ≡ true
first_lists (x ∷ headers) (y ∷ members) name h m is = grind (arith, first_lists headers members name h m)
first_lists headers members name h m is = cc

-- two names that lead to one header lead to one member
one_member : (low : ℕ) (headers : List ℕ) (members : List MemberView) (name other : List ℕ) (h : ℕ) (m o : MemberView) → AreRising low headers
    → first_lister headers members name ≡ Some (h, m) → first_lister headers members other ≡ Some (h, o) → m ≡ o
unfolding AreRising
one_member low (x ∷ headers) (y ∷ members) name other h m o rising is also = grind (arith, one_member (x + 1) headers members name other h m o rising.1, headers, rising, first_above, some_pair_parts)
one_member low headers members name other h m o rising is also = cc

-- two names that lead to one member lead to one header
one_header : (headers : List ℕ) (members : List MemberView) (name other : List ℕ) (h k : ℕ) (m : MemberView)
    → first_lister headers members name ≡ Some (h, m) → first_lister headers members other ≡ Some (k, m) → h ≡ k
one_header (x ∷ headers) (y ∷ members) name other h k m is also = grind (arith, one_header headers members name other h k m, headers, first_lists, some_pair_parts)
one_header headers members name other h k m is also = cc

first_member : (headers : List ℕ) (members : List MemberView) (name : List ℕ) → length headers ≡ length members → option_map (λ f. f.1) (first_lister headers members name) ≡ first_listed members name
first_member [] [] name same = refl
first_member [] (y ∷ members) name same = absurd (omega (arith, same))
first_member (x ∷ headers) [] name same = absurd (omega (arith, same))
first_member (x ∷ headers) (y ∷ members) name same = grind (arith, first_member headers members name (omega (arith, same)))

-- Objects in bytes.

pub kept_of_map : {X Y Z : Type 0} (f : Y → Option Z) (g : X → Y) (xs : List X) → filter_map f (map g xs) ≡ filter_map (λ x. f (g x)) xs
kept_of_map f g [] = refl
kept_of_map f g (x ∷ xs) = ap (cons_option (f (g x))) (kept_of_map f g xs)

-- headers and members that names lead to, one by one
unfoldable pub ArePaired : List ℕ → List MemberView → List ℕ → List MemberView → Type 0
ArePaired headers members [] [] = Unit {0}
ArePaired headers members (h ∷ taken) (m ∷ found) = ((name : List ℕ) × (first_lister headers members name ≡ Some (h, m))) × ArePaired headers members taken found
ArePaired headers members [] (m ∷ found) = ⊥
ArePaired headers members (h ∷ taken) [] = ⊥

paired_headers : (headers : List ℕ) (members : List MemberView) (taken : List ℕ) (found : List MemberView) → ArePaired headers members taken found → AreHeadersOf headers members taken found
unfolding ArePaired AreHeadersOf
paired_headers headers members (h ∷ taken) (m ∷ found) paired = (first_is_header headers members paired.0.0 h m paired.0.1, paired_headers headers members taken found paired.1)
paired_headers headers members taken found paired = grind arith

-- a member is taken exactly if its header is
header_among : (headers : List ℕ) (members : List MemberView) (taken : List ℕ) (found : List MemberView) (name : List ℕ) (h : ℕ) (m : MemberView)
    → ArePaired headers members taken found → first_lister headers members name ≡ Some (h, m) → Among m found → Among h taken
unfolding ArePaired Among
header_among headers members [] [] name h m paired is among = absurd among
header_among headers members (x ∷ taken) (y ∷ found) name h m paired is (inl same) = grind (arith, one_header, headers, paired)
header_among headers members (x ∷ taken) (y ∷ found) name h m paired is (inr later) = inr (header_among headers members taken found name h m paired.1 is later)
header_among headers members [] (y ∷ found) name h m paired is among = absurd paired
header_among headers members (x ∷ taken) [] name h m paired is among = absurd paired

member_among : (headers : List ℕ) (members : List MemberView) → AreRising 8 headers → (taken : List ℕ) (found : List MemberView) (name : List ℕ) (h : ℕ) (m : MemberView)
    → ArePaired headers members taken found → first_lister headers members name ≡ Some (h, m) → Among h taken → Among m found
unfolding ArePaired Among
member_among headers members rising [] [] name h m paired is among = absurd among
member_among headers members rising (x ∷ taken) (y ∷ found) name h m paired is (inl same) = grind (arith, one_member, headers, paired, rising)
member_among headers members rising (x ∷ taken) (y ∷ found) name h m paired is (inr later) = inr (member_among headers members rising taken found name h m paired.1 is later)
member_among headers members rising [] (y ∷ found) name h m paired is among = absurd paired
member_among headers members rising (x ∷ taken) [] name h m paired is among = absurd paired

-- Bytes that lead to members.

module _ (kind : Kind) (linker : LinkerMember) (bytes headers : List ℕ) (members : List MemberView) (rising : AreRising 8 headers)
    (find : (name : List ℕ) → header_by linker bytes name ≡ option_map (λ f. f.0) (first_lister headers members name))
    (many : length headers ≡ length members)
    (reads : map (member_at kind bytes) headers ≡ map (λ m. Some (read_view m)) members) where
  pub read_at : (h : ℕ) (m : MemberView) → IsHeaderOf headers members h m → member_at kind bytes h ≡ Some (read_view m)
  read_at h m is =
      grind (arith, slice_get-map (member_at kind bytes) headers is.number ∙ ap (option_map (member_at kind bytes)) is.header_is, slice_get-map)

  paired_read : (taken : List ℕ) (found : List MemberView) → ArePaired headers members taken found → map (member_at kind bytes) taken ≡ map (λ m. Some (read_view m)) found
  unfolding ArePaired
  paired_read (h ∷ taken) (m ∷ found) paired = cc (read_at h m (first_is_header headers members paired.0.0 h m paired.0.1), paired_read taken found paired.1)
  paired_read taken found paired = grind arith

  contents_read : (taken : List ℕ) (found : List MemberView) → ArePaired headers members taken found → contents_at kind bytes taken ≡ map (λ m. m.bytes) found
  unfolding ArePaired
  contents_read (h ∷ taken) (m ∷ found) paired = cc (read_at h m (first_is_header headers members paired.0.0 h m paired.0.1), contents_read taken found paired.1)
  contents_read taken found paired = grind arith

  module _ (own : List Object) (by : List ℕ → Option Object) where
    -- the objects of members in the bytes
    objects_are : (taken : List ℕ) (found : List MemberView) → ArePaired headers members taken found → filter_map by (contents_at kind bytes taken) ≡ objects_as by found
    objects_are taken found paired = ap (filter_map by) (contents_read taken found paired) ∙ kept_of_map by (λ m. m.bytes) found

    record IsPulledBack (found : List MemberView) (name : List ℕ) (h : ℕ) : Type 0 where
      member : MemberView
      led : first_lister headers members name ≡ Some (h, member)
      pulls : PullsIntoAs by members own found name member

    -- a header that a name leads to is that of a member
    pulled_back : (taken : List ℕ) (found : List MemberView) (name : List ℕ) (h : ℕ) → ArePaired headers members taken found → PullsInAt kind linker bytes by own taken name h → IsPulledBack found name h
    pulled_back taken found name h paired pulls = by_first (first_lister headers members name) refl
      where
        by_first : (r : Option (ℕ × MemberView)) → first_lister headers members name ≡ r → IsPulledBack found name h
        by_first None is = grind arith
        by_first (Some f) is =
            let at : Some f.0 ≡ Some h = sym (find name ∙ ap (option_map (λ f. f.0)) is) ∙ pulls.found in
            let same : f.0 ≡ h = cc in
            let led : first_lister headers members name ≡ Some (h, f.1) = is ∙ ap (λ t. Some (t, f.1)) same in
            record {
              member = f.1;
              led = led;
              pulls = record {
                named = subst (λ objects. Contains (unresolved (own ++ objects)) name) (objects_are taken found paired) pulls.left;
                listed = sym (first_member headers members name many) ∙ ap (option_map (λ f. f.1)) led;
                new = λ has. pulls.new (among_contains h taken (header_among headers members taken found name h f.1 paired led (contains_among f.1 found has)));
              };
            }

    record IsPulledForth (taken : List ℕ) (name : List ℕ) (m : MemberView) : Type 0 where
      header : ℕ
      led : first_lister headers members name ≡ Some (header, m)
      pulls : PullsInAt kind linker bytes by own taken name header

    -- a member that a name pulls in has a header that it leads to
    pulled_forth : (taken : List ℕ) (found : List MemberView) (name : List ℕ) (m : MemberView) → ArePaired headers members taken found → PullsIntoAs by members own found name m → IsPulledForth taken name m
    pulled_forth taken found name m paired pulls = by_first (first_lister headers members name) refl
      where
        by_first : (r : Option (ℕ × MemberView)) → first_lister headers members name ≡ r → IsPulledForth taken name m
        by_first None is =
            let no : Some m ≡ None = sym pulls.listed ∙ (sym (first_member headers members name many) ∙ ap (option_map (λ f. f.1)) is) in absurd (cc)
        by_first (Some f) is =
            let at : Some f.1 ≡ Some m = sym (sym (first_member headers members name many) ∙ ap (option_map (λ f. f.1)) is) ∙ pulls.listed in
            let same : f.1 ≡ m = cc in
            let led : first_lister headers members name ≡ Some (f.0, m) = is ∙ ap (λ t. Some (f.0, t)) same in
            record {
              header = f.0;
              led = led;
              pulls = record {
                left = subst (λ objects. Contains (unresolved (own ++ objects)) name) (sym (objects_are taken found paired)) pulls.named;
                found = find name ∙ ap (option_map (λ f. f.0)) led;
                new = λ has. pulls.new (among_contains m found (member_among headers members rising taken found name f.0 m paired led (contains_among f.0 taken has)));
              };
            }

    record AreFound (taken : List ℕ) : Type 0 where
      found : List MemberView
      paired : ArePaired headers members taken found
      in_turn : AreTakenIntoAs by members own found

    found_back : (taken : List ℕ) → AreTakenAt kind linker bytes by own taken → AreFound taken
    unfolding AreTakenAt AreTakenIntoAs ArePaired
    found_back [] turn = record { found = []; paired = tt; in_turn = tt }
    found_back (h ∷ taken) turn =
        let earlier = found_back taken turn.1 in
        let back = pulled_back taken earlier.found turn.0.0 h earlier.paired turn.0.1 in
        record {
          found = back.member ∷ earlier.found;
          paired = ((turn.0.0, back.led), earlier.paired);
          in_turn = ((turn.0.0, back.pulls), earlier.in_turn);
        }

    record AreAt (found : List MemberView) : Type 0 where
      taken : List ℕ
      paired : ArePaired headers members taken found
      in_turn : AreTakenAt kind linker bytes by own taken

    found_forth : (found : List MemberView) → AreTakenIntoAs by members own found → AreAt found
    unfolding AreTakenAt AreTakenIntoAs ArePaired
    found_forth [] turn = record { taken = []; paired = tt; in_turn = tt }
    found_forth (m ∷ found) turn =
        let earlier = found_forth found turn.1 in
        let forth = pulled_forth earlier.taken found turn.0.0 m earlier.paired turn.0.1 in
        record {
          taken = forth.header ∷ earlier.taken;
          paired = ((turn.0.0, forth.led), earlier.paired);
          in_turn = ((turn.0.0, forth.pulls), earlier.in_turn);
        }

    pub record IsSearchBack (taken : List ℕ) : Type 0 where
      pub found : List MemberView
      pub paired : AreHeadersOf headers members taken found
      pub read : map (member_at kind bytes) taken ≡ map (λ m. Some (read_view m)) found
      pub takes : TakesIntoAs by members own found

    -- a search in the bytes is one of the members
    pub search_back : (taken : List ℕ) → TakesAt kind linker bytes by own taken → IsSearchBack taken
    search_back taken takes =
        let back = found_back taken takes.in_turn in
        record {
          found = back.found;
          paired = paired_headers headers members taken back.found back.paired;
          read = paired_read taken back.found back.paired;
          takes = record {
            in_turn = back.in_turn;
            ended = λ name m pulls. let forth = pulled_forth taken back.found name m back.paired pulls in takes.ended name forth.header forth.pulls;
          };
        }

    pub record IsSearchForth (found : List MemberView) : Type 0 where
      pub taken : List ℕ
      pub paired : AreHeadersOf headers members taken found
      pub takes : TakesAt kind linker bytes by own taken

    -- a search of the members is one in the bytes
    pub search_forth : (found : List MemberView) → TakesIntoAs by members own found → IsSearchForth found
    search_forth found takes =
        let forth = found_forth found takes.in_turn in
        record {
          taken = forth.taken;
          paired = paired_headers headers members forth.taken found forth.paired;
          takes = record {
            in_turn = forth.in_turn;
            ended = λ name h pulls. let back = pulled_back forth.taken found name h forth.paired pulls in takes.ended name back.member back.pulls;
          };
        }

-- By either linker member.

module _ (kind : Kind) (linker : LinkerMember) (members : List MemberView) (ready : HaveArchive kind linker members) where
  pub record IsReady : Type 0 where
    pub headers : List ℕ
    pub located : headers_in (archive_of kind members) ≡ Some headers
    pub rising : AreRising 8 headers
    pub find : (name : List ℕ) → header_by linker (archive_of kind members) name ≡ option_map (λ f. f.0) (first_lister headers members name)
    pub many : length headers ≡ length members
    pub read : map (member_at kind (archive_of kind members)) headers ≡ map (λ m. Some (read_view m)) members

either_same : (kind : Kind) (linker : LinkerMember) (members : List MemberView) → HaveArchive kind linker members → (name : List ℕ) → header_by linker (archive_of kind members) name ≡ header_for (archive_of kind members) name
unfolding header_by
either_same Coff Second members ready name = (each_second_leads members ready.accepted).same name
either_same kind linker members ready name = grind arith

pub is_ready : (kind : Kind) (linker : LinkerMember) (members : List MemberView) (ready : HaveArchive kind linker members) → IsReady kind linker members ready
is_ready kind linker members ready =
    grind (arith, each_index_leads kind members ready.accepted, rising_headers, either_same, length-map)

-- a search in the bytes takes members of which what a search of the members says holds
pub takes_just : (kind : Kind) (linker : LinkerMember) (members : List MemberView) (reads : List ℕ → Option Object) (own : List Object) (P : List MemberView → Type 0) → HaveArchive kind linker members
    → ((found : List MemberView) → TakesIntoAs reads members own found → P found) → TakesJust kind linker members reads own P
takes_just kind linker members reads own P ready says taken takes =
    let r = is_ready kind linker members ready in
    grind (arith, search_back kind linker (archive_of kind members) r.headers members r.rising r.find r.many r.read own reads taken takes)

pub leads_to_first : (kind : Kind) (linker : LinkerMember) (members : List MemberView) → HaveArchive kind linker members → (name : List ℕ) → LeadsToFirst kind linker members name
leads_to_first kind linker members ready name =
    let r = is_ready kind linker members ready in
    by_first r (first_lister r.headers members name) refl
  where
    by_first : (r : IsReady kind linker members ready) (f : Option (ℕ × MemberView)) → first_lister r.headers members name ≡ f → LeadsToFirst kind linker members name
    by_first r None is =
        let header = r.find name ∙ ap (option_map (λ f. f.0)) is in
        let member = sym (first_member r.headers members name r.many) ∙ ap (option_map (λ f. f.1)) is in
        record {
          somewhere = ap is_some header ∙ sym (ap is_some member);
          read = ap (option_and_then (member_at kind (archive_of kind members))) header ∙ sym (ap (option_map read_view) member);
        }
    by_first r (Some f) is =
        let header = r.find name ∙ ap (option_map (λ f. f.0)) is in
        let member = sym (first_member r.headers members name r.many) ∙ ap (option_map (λ f. f.1)) is in
        let read = read_at kind linker (archive_of kind members) r.headers members r.rising r.find r.many r.read f.0 f.1 (first_is_header r.headers members name f.0 f.1 is) in
        record {
          somewhere = ap is_some header ∙ sym (ap is_some member);
          read = ap (option_and_then (member_at kind (archive_of kind members))) header ∙ (read ∙ sym (ap (option_map read_view) member));
        }

-- a search of the members is one in the bytes
pub search_of : (kind : Kind) (linker : LinkerMember) (members : List MemberView) (reads : List ℕ → Option Object) (own : List Object) (found : List MemberView) → HaveArchive kind linker members → TakesIntoAs reads members own found →
    IsSearchOf kind linker members reads own found
search_of kind linker members reads own found ready takes =
    let r = is_ready kind linker members ready in
    grind (arith, search_forth kind linker (archive_of kind members) r.headers members r.rising r.find r.many r.read own reads found takes)

-- The bytes of an archive of members have these members.

-- an entry with its header for its number, and that of a symbol
abbrev shown : List ℕ → List ℕ × ℕ → List ℕ × ℕ
shown places e = (e.0, place_of places e.1)

abbrev listed_for : ℕ → List ℕ → List ℕ × ℕ
listed_for number symbol = (symbol, number)

-- The entries that a reader finds.

readable : (kind : Kind) (members : List MemberView) → refusal_of kind members ≡ None → AreReadable kind members
unfolding place_of
readable kind members accepted = grind (arith, accepted_parts kind members accepted, front_fits kind members accepted, near_at, short_places, entries_texts)

first_stored : (kind : Kind) (members : List MemberView) → nat_lt 0 (length (entries_of kind members)) ≡ true → slice_get (parts_of kind members) 0 ≡ Some (stored (codes "/") (padded 0 (first_linker (places_of kind members) (entries_of kind members))))
unfolding parts_of stored_linkers
first_stored kind members some = grind arith

entries_found : (kind : Kind) (members : List MemberView) → refusal_of kind members ≡ None → nat_lt 0 (length (entries_of kind members)) ≡ true →
    entries_in (archive_of kind members) ≡ map (shown (places_of kind members)) (entries_of kind members)
unfolding entries_in first_in
entries_found kind members accepted some = grind (arith, readable kind members accepted, parts_read_back kind members accepted, first_stored kind members some, linker_there, first_data, first_read)

-- They are the members' symbols, header by header.

symbols_shown : (places : List ℕ) (number p : ℕ) (symbols : List (List ℕ)) → place_of places number ≡ p →
    map (shown places) (map (listed_for number) symbols) ≡ map (listed_for p) symbols
symbols_shown places number p [] is = refl
symbols_shown places number p (s ∷ symbols) is = ap (λ n. (s, n) ∷ map (shown places) (map (listed_for number) symbols)) is ∙ ap (λ t. (s, p) ∷ t) (symbols_shown places number p symbols is)

entries_shown : (front ps : List ℕ) (members : List MemberView) → length ps ≡ length members →
    map (shown (front ++ ps)) (entries_from (length front + 1) members) ≡ entries_by ps members
unfolding entries_from entries_by place_of
entries_shown front [] [] many = refl
entries_shown front [] (m ∷ members) many = absurd (omega (arith, many))
entries_shown front (p ∷ ps) [] many = absurd (omega (arith, many))
entries_shown front (p ∷ ps) (m ∷ members) many = grind (arith, common_steps, entries_shown (front ++ p ∷ []) ps members (omega (arith, many)), length-append, map-append, symbols_shown, many)

-- Where headers rise, the symbols at one are its member's.

-- that no entry is of a header from this one on
abbrev AreBelow : ℕ → List (List ℕ × ℕ) → Type 0
AreBelow header entries = AllByRecursion (λ e. e.1 < header) entries

below_on : (header next : ℕ) (entries : List (List ℕ × ℕ)) → header ≤ next → AreBelow header entries → AreBelow next entries
below_on header next [] less below = tt
below_on header next (e ∷ entries) less below = (omega (arith, less, below.0), below_on header next entries less below.1)

below_joined : (header : ℕ) (first later : List (List ℕ × ℕ)) → AreBelow header first → AreBelow header later → AreBelow header (first ++ later)
below_joined header [] later below behind = behind
below_joined header (e ∷ first) later below behind = (below.0, below_joined header first later below.1 behind)

symbols_below : (header : ℕ) (symbols : List (List ℕ)) → AreBelow (header + 1) (map (listed_for header) symbols)
symbols_below header [] = tt
symbols_below header (s ∷ symbols) = (omega arith, symbols_below header symbols)

other_header : (n header : ℕ) → (n ≡ header → ⊥) → (n == header) ≡ false
other_header n header differ = elim (cases_Bool (n == header)) [ inl same ↦ absurd (differ (eqb-true n header same)) | inr other ↦ other ]

none_below : (header : ℕ) (entries rest : List (List ℕ × ℕ)) → AreBelow header entries → symbols_at (entries ++ rest) header ≡ symbols_at rest header
unfolding symbols_at
none_below header [] rest below = refl
none_below header (e ∷ entries) rest below = grind (arith, none_below header entries rest below.1)

all_here : (header : ℕ) (symbols : List (List ℕ)) (rest : List (List ℕ × ℕ)) → symbols_at (map (listed_for header) symbols ++ rest) header ≡ symbols ++ symbols_at rest header
unfolding symbols_at
all_here header [] rest = refl
all_here header (s ∷ symbols) rest = (let here : (header == header) ≡ true = eq-eqb header header refl in rw here (ap (λ t. s ∷ t) (all_here header symbols rest)))

none_above : (header low : ℕ) (headers : List ℕ) (members : List MemberView) → header < low → AreRising low headers → symbols_at (entries_by headers members) header ≡ []
unfolding symbols_at entries_by AreRising
none_above header low [] members less rising = refl
none_above header low (h ∷ headers) [] less rising = refl
none_above header low (h ∷ headers) (m ∷ members) less rising =
    none_of h m.symbols (entries_by headers members) (λ same. omega (arith, same, less, rising.0)) ∙ none_above header (h + 1) headers members (omega (arith, less, rising.0)) rising.1
  where
    none_of : (n : ℕ) (symbols : List (List ℕ)) (rest : List (List ℕ × ℕ)) → (n ≡ header → ⊥) → symbols_at (map (listed_for n) symbols ++ rest) header ≡ symbols_at rest header
    none_of n [] rest differ = refl
    none_of n (s ∷ symbols) rest differ = (let other : (n == header) ≡ false = other_header n header differ in rw other (none_of n symbols rest differ))

-- The members after headers that rise, behind entries of headers that are below them.
members_after : (kind : Kind) (bytes : List ℕ) (before : List (List ℕ × ℕ)) (low : ℕ) (headers : List ℕ) (members : List MemberView) → AreRising low headers → AreBelow low before →
    entries_in bytes ≡ before ++ entries_by headers members → map (member_at kind bytes) headers ≡ map (λ m. Some (read_view m)) members → filter_map (member_after kind bytes) headers ≡ members
unfolding AreRising entries_by member_after
members_after kind bytes before low [] [] rising below is read = refl
members_after kind bytes before low [] (m ∷ members) rising below is read = absurd (cc)
members_after kind bytes before low (h ∷ headers) [] rising below is read = absurd (cc)
members_after kind bytes before low (h ∷ headers) (m ∷ members) rising below is read =
    let own = map (listed_for h) m.symbols in
    let behind : filter_map (member_after kind bytes) headers ≡ members =
    members_after kind bytes (before ++ own) (h + 1) headers members rising.1
    (below_joined (h + 1) before own (below_on low (h + 1) before (omega (arith, rising.0)) below) (symbols_below h m.symbols))
    (is ∙ sym (append_assoc before own (entries_by headers members))) (later_same read) in
    grind (arith, none_below, below_on, rising, all_here, none_above, headers, append-nil)
  where
    later_same : {x y : Option Read} {xs ys : List (Option Read)} → x ∷ xs ≡ y ∷ ys → xs ≡ ys
    later_same is = cc

-- Where all symbols differ, either kind has each entry.

any_map : (name : List ℕ) (entries : List (List ℕ × ℕ)) → list_any (bytes_eq name) (map (λ e. e.0) entries) ≡ is_listed entries name
any_map name [] = refl
any_map name (e ∷ entries) = ap (λ b. bytes_eq name e.0 || b) (any_map name entries)

not_listed : (found entries : List (List ℕ × ℕ)) (e : List ℕ × ℕ) → IsDistinct bytes_eq (map (λ x. x.0) (found ++ e ∷ entries)) → is_listed found e.0 ≡ false
unfolding Among
not_listed found entries e distinct =
    false_from_ne_true (is_listed found e.0) (λ listed.
    distinct_apart (map (λ x. x.0) found) (map (λ x. x.0) (e ∷ entries)) e.0 (subst (IsDistinct bytes_eq) (map-append (λ x. x.0) found (e ∷ entries)) distinct)
    (any_among e.0 (map (λ x. x.0) found) (any_map e.0 found ∙ listed)) (inl refl))

all_firsts : (found entries : List (List ℕ × ℕ)) → IsDistinct bytes_eq (map (λ x. x.0) (found ++ entries)) → fold with_first found entries ≡ found ++ entries
unfolding with_first
all_firsts found [] distinct = sym (append-nil found)
all_firsts found (e ∷ entries) distinct = grind (arith, common_steps, all_firsts (found ++ e ∷ []) entries, found, not_listed)

own_names : (number : ℕ) (symbols : List (List ℕ)) → map (λ e. e.0) (map (listed_for number) symbols) ≡ symbols
own_names number [] = refl
own_names number (s ∷ symbols) = ap (λ t. s ∷ t) (own_names number symbols)

names_from : (number : ℕ) (members : List MemberView) → map (λ e. e.0) (entries_from number members) ≡ flat_map (λ m. m.symbols) members
unfolding entries_from
names_from number [] = refl
names_from number (m ∷ members) = grind (arith, names_from (number + 1) members, map-append, own_names)

each_entry : (kind : Kind) (members : List MemberView) → (kind ≡ Gnu) ⊎ IsDistinct bytes_eq (flat_map (λ m. m.symbols) members) → entries_of kind members ≡ entries_from 1 members
unfolding entries_of
each_entry kind members either = grind (arith, all_firsts, names_from)

pub archive_has_members : (kind : Kind) (members : List MemberView) → refusal_of kind members ≡ None → 0 < length (flat_map (λ m. m.symbols) members) → (kind ≡ Gnu) ⊎ IsDistinct bytes_eq (flat_map (λ m. m.symbols) members) →
    HasMembersAs kind (archive_of kind members) members
unfolding members_read_as entries_from entries_of
archive_has_members kind members accepted some either =
    let bytes = archive_of kind members in
    let places = places_of kind members in
    let leads = each_index_leads kind members accepted in
    let located = headers_found kind members accepted in
    let same : leads.headers ≡ places = cc in
    let many : length places ≡ length members = length-places _ members in
    let own : entries_of kind members ≡ entries_from 1 members = each_entry kind members either in
    let listed : nat_lt 0 (length (entries_of kind members)) ≡ true = lt-ltb 0 (length (entries_of kind members)) (subst (λ n. 0 < n) (sym (ap length own ∙ all_entries 1 members)) some) in
    let entries : entries_in bytes ≡ entries_by places members = grind (arith, entries_found kind members accepted listed, entries_shown [] places members many, many) in
    record {
      headers = places;
      located = located;
      read = ap (λ o. filter_map (member_after kind bytes) (unwrap_or o [])) located
          ∙ members_after kind bytes [] 8 places members (rising_headers bytes places located) tt entries (subst (λ headers. map (member_at kind bytes) headers ≡ map (λ m. Some (read_view m)) members) same leads.read);
      ordered = entries;
    }
  where
    all_entries : (number : ℕ) (some : List MemberView) → length (entries_from number some) ≡ length (flat_map (λ m. m.symbols) some)
    all_entries number [] = refl
    all_entries number (m ∷ some) = grind (arith, length-append, length-map, all_entries (number + 1) some)
