-- Searches of several archives, in the order of a command line, take what one search of all of them takes.
use Rattle.std.proofs.Common.{rules, ◌≡◌, ℕ, ◌⊎◌, zero, suc, Bool, false, List, [], ◌∷◌, ◌++◌, length, Option, Some, refl, ap, sym, ◌∙◌, subst, inl, inr, arith}
use Rattle.std.specs.Prelude.{◌==◌, bytes_eq, not, slice_get}
use Rattle.std.specs.List.{AllByRecursion, Contains, IsDistinct, filter, flat_map, list_any}
use Rattle.std.proofs.lemmas.Bool.{cases_Bool, true≢false, not_from_false}
use Rattle.std.proofs.lemmas.Grind.{flat_map-append}
use Rattle.std.proofs.lemmas.List.{append-nil, append_assoc}
use Rattle.implib.specs.Formats.Object.{Object}
use Rattle.implib.specs.Members.MemberSpec.{MemberView}
use Rattle.implib.proofs.Link.LinkedMembers.{among_contains}
use Rattle.implib.proofs.Link.Ranges.{Among, all_among, among_back, among_first, among_front}
use Rattle.implib_link.specs.Flavors.Program.{HaveSame, claimed_names}
use Rattle.implib_link.specs.Search.Search.{AreTakenIntoAs, PullsIntoAs, TakesIntoAs, references_of, unresolved, claimed_as, first_listed, is_listed_for, objects_as, undefined_in, IndexEntry, index_at, members_at, numbers_from, sweeps, swept}
use Rattle.implib_link.specs.Search.CommandLines.{AnObject, Archives, AreFirst, AreListedWhole, AreRounds, AreSwept, AreUnclaimedBehind, Input, IsOrdered, IsSwept, LeavesNone, NoneIsLost, SearchesFor, TakesFirst, SearchesCommandLine, SearchesFrom, listed_at, names_left, numbers_but, numbers_in, numbers_of, object_of, objects_given, others_of, given_with}
use Rattle.implib_link.proofs.Search.ArchiveMembers.{found_or_not, only_one}
use Rattle.implib_link.proofs.Search.Closing.{unresolved_from, unresolved_parts, claims_apart}
use Rattle.implib_link.proofs.Search.Lists.{all_listed, among_any, any_among, among_either, among_flat_map, among_listed, as_name, contains_among, listed_is, listed_once, name_as, passes, passing, at_index, names_more, among_filter}
use Rattle.implib_link.proofs.Search.Sweeps.{IsFirstAt, Lifts, all_there, among_number, entries_of, entry_there, first_at, none_first, none_left, number_among, number_taken, swept_adds, sweeps_in_turn, sweeps_keep, taken_number, once_by}
use Rattle.std.proofs.lemmas.Option.{same_Some, none-some}

-- What was read first counts on: references and claims of some objects are those of more.

refs_front : (f : Object → List (List ℕ)) (own later : List Object) (name : List ℕ) → Among name (flat_map f own) → Among name (flat_map f (own ++ later))
refs_front f own later name held = subst (Among name) (sym (flat_map-append f own later)) (among_front name (flat_map f own) (flat_map f later) held)

refs_back : (f : Object → List (List ℕ)) (own later : List Object) (name : List ℕ) → Among name (flat_map f later) → Among name (flat_map f (own ++ later))
refs_back f own later name held = subst (Among name) (sym (flat_map-append f own later)) (among_back name (flat_map f own) (flat_map f later) held)

refs_either : (f : Object → List (List ℕ)) (own later : List Object) (name : List ℕ) → Among name (flat_map f (own ++ later)) → Among name (flat_map f own) ⊎ Among name (flat_map f later)
refs_either f own later name held = among_either name (flat_map f own) (flat_map f later) (subst (Among name) (flat_map-append f own later) held)

-- a name that no later object claims is left unresolved by these and later ones
left_on : (own later taken : List Object) (name : List ℕ) → (Among name (flat_map claimed_names later) → ⊥) → Among name (unresolved (own ++ taken)) → Among name (unresolved ((own ++ later) ++ taken))
left_on own later taken name none left = grind (arith, unresolved_parts, unresolved_from, refs_either, refs_front, refs_back)

-- Names that are listed.

listed_name : (members : List MemberView) (numbers : List ℕ) (n : ℕ) (m : MemberView) (name : List ℕ) → slice_get members n ≡ Some m → Among n numbers → Among name m.symbols → Among name (listed_at members numbers)
listed_name members numbers n m name at held listed = among_listed name m (members_at members numbers) (number_taken members numbers n m held at) listed

listed_more : (members : List MemberView) (first later : List ℕ) (name : List ℕ) → Among name (listed_at members first) → Among name (listed_at members (first ++ later))
listed_more members first later name held =
    let from = among_flat_map (λ (m : MemberView). m.symbols) name (members_at members first) held in
    among_listed name from.0 (members_at members (first ++ later)) (search (rules, taken_number members first from.0 from.1, number_taken, among_front)) from.2

-- no name that is listed is claimed by later objects
pub unclaimed_later : (members : List MemberView) (read : List ℕ) (inputs : List Input) → AreUnclaimedBehind members read inputs → (name : List ℕ) → Among name (listed_at members read) →
    Among name (flat_map claimed_names (objects_given inputs)) → ⊥
unfolding AreUnclaimedBehind Among
unclaimed_later members read [] none name listed claimed = claimed
unclaimed_later members read (input ∷ inputs) none name listed claimed =
    grind (arith, unclaimed_later members (read ++ numbers_of input) inputs none.1 name (listed_more members read (numbers_of input) name listed), refs_either claimed_names (object_of input) (objects_given inputs) name claimed, listed_more members read (numbers_of input) name listed, claims_apart)

-- GNU `ld`'s searches.

module _ (reads : List ℕ → Option Object) (members : List MemberView) where
  -- What is taken stays so, and what comes to it is of the archives that are searched.

  sweeps_add : (own : List Object) (archive : List ℕ) (count : ℕ) (numbers : List ℕ) (n : ℕ) → Among n (sweeps reads members own (index_at members archive) count numbers) → Among n numbers ⊎ Among n archive
  unfolding sweeps
  sweeps_add own archive zero numbers n held = inl held
  sweeps_add own archive (suc count) numbers n held = grind (arith, sweeps_add own archive count (swept reads members own (index_at members archive) numbers) n held, swept_adds, entries_of)

  -- that searches do so
  abbrev Keeps : List ℕ → List ℕ → List ℕ → Type 0
  Keeps some before after = (n : ℕ) → (Among n before → Among n after) × (Among n after → Among n before ⊎ Among n some)

  keeps_on : (first second before between after : List ℕ) → Keeps first before between → Keeps second between after → Keeps (first ++ second) before after
  keeps_on first second before between after one two n = grind (arith, inl, among_front, inr, among_back)

  keeps_same : (some before after : List ℕ) → before ≡ after → Keeps some before after
  keeps_same some before after is n = (λ held. subst (Among n) is held, λ held. inl (subst (Among n) (sym is) held))

  archive_keeps : (own : List Object) (archive before after : List ℕ) → IsSwept reads members own archive before after → Keeps archive before after
  archive_keeps own archive before after is n = search (rules, sweeps_keep, sweeps_add)

  archives_keep : (own : List Object) (archives : List (List ℕ)) (before after : List ℕ) → AreSwept reads members own archives before after → Keeps (numbers_of (Archives archives)) before after
  unfolding AreSwept
  archives_keep own [] before after is = keeps_same [] before after is
  archives_keep own (archive ∷ archives) before after (between, first, later) = grind (arith, keeps_on archive (numbers_of (Archives archives)) before between after (archive_keeps own archive before between first) (archives_keep own archives between after later))

  rounds_keep : (own : List Object) (archives : List (List ℕ)) (count : ℕ) (before after : List ℕ) → AreRounds reads members own archives count before after → Keeps (numbers_of (Archives archives)) before after
  unfolding AreRounds
  rounds_keep own archives zero before after is = keeps_same (numbers_of (Archives archives)) before after is
  rounds_keep own archives (suc count) before after (between, first, later) = grind (arith, keeps_on (numbers_of (Archives archives)) (numbers_of (Archives archives)) before between after (archives_keep own archives before between first) (rounds_keep own archives count between after later), among_either)

  pub searches_keep : (own : List Object) (inputs : List Input) (before after : List ℕ) → SearchesFrom reads members own inputs before after → Keeps (numbers_in inputs) before after
  unfolding SearchesFrom
  searches_keep own [] before after is = keeps_same [] before after is
  searches_keep own (AnObject o ∷ inputs) before after is = searches_keep (own ++ o ∷ []) inputs before after is
  searches_keep own (Archives archives ∷ inputs) before after (between, group, later) = grind (arith, keeps_on (numbers_of (Archives archives)) (numbers_in inputs) before between after (rounds_keep own archives group.rounds before between group.taken) (searches_keep own inputs between after later))

  -- What is taken is taken in turn, for all objects of the command line.

  -- a name that objects and members leave which are there in the end
  name_in_end : (whole : List Object) (final : List MemberView) (own later : List Object) → own ++ later ≡ whole → (taken : List MemberView) → ((x : MemberView) → Among x taken → Among x final) →
      (name : List ℕ) → Among name (unresolved (own ++ objects_as reads taken)) → Contains (names_left reads whole final) name
  unfolding references_of
  name_in_end whole final own later all taken within name left = among_contains name (flat_map undefined_in (whole ++ objects_as reads final)) in_end
    where
      in_end : Among name (flat_map undefined_in (whole ++ objects_as reads final))
      in_end = elim (refs_either undefined_in own (objects_as reads taken) name (unresolved_parts (own ++ objects_as reads taken) name left).0) [
        | inl here ↦ refs_front undefined_in whole (objects_as reads final) name (subst (λ objects. Among name (flat_map undefined_in objects)) all (refs_front undefined_in own later name here))
        | inr there ↦ refs_back undefined_in whole (objects_as reads final) name (names_more reads undefined_in name taken final within there)
      ]

  -- no name that archives list is claimed by later objects
  abbrev AreFree : List ℕ → List Object → Type 0
  AreFree numbers later = (name : List ℕ) → Among name (listed_at members numbers) → Among name (flat_map claimed_names later) → ⊥

  -- what is taken in the end is the first that is listed for what is left in the end
  module _ (whole : List Object) (final : List ℕ) (takes_first : TakesFirst members (names_left reads whole (members_at members final)) final) where
    abbrev Within : List ℕ → Type 0
    Within numbers = (n : ℕ) → Among n numbers → Among n final

    within_less : (before after : List ℕ) → ((n : ℕ) → Among n before → Among n after) → Within after → Within before
    within_less before after held within n there = within n (held n there)

    first_in_end : (own later : List Object) → own ++ later ≡ whole → (numbers : List ℕ) → Within numbers → (name : List ℕ) → Among name (unresolved (own ++ objects_as reads (members_at members numbers))) →
        (n : ℕ) → Among n final → IsFirstAt members name n
    first_in_end own later all numbers within name left n held k m x at listed other again =
        takes_first name n k m x
        (name_in_end whole (members_at members final) own later all (members_at members numbers)
        (λ y there. (let from = taken_number members numbers y there in number_taken members final from.0 y (within from.0 from.1) from.2)) name left)
        (among_contains n final held) at (among_contains name m.symbols listed) other (among_contains name x.symbols again)

    module _ (own later : List Object) (all : own ++ later ≡ whole) where
      lifts : (archive : List ℕ) → AreFree archive later → (e : IndexEntry) → Among e (index_at members archive) → Lifts reads members own (own ++ later) (λ n. Among n final) (first_in_end own later all) e
      lifts archive free e held =
          let from = entries_of members archive e held in (
            from.0,
            λ numbers pulls. record {
              named = among_contains e.name (unresolved ((own ++ later) ++ objects_as reads (members_at members numbers)))
                  (left_on own later (objects_as reads (members_at members numbers)) e.name
                  (free e.name (listed_name members archive e.number from.0.0 e.name from.0.1 from.1 from.0.2))
                  (contains_among e.name (unresolved (own ++ objects_as reads (members_at members numbers))) pulls.named));
              listed = pulls.listed;
              new = pulls.new;
            },
          )

      -- what is taken in turn
      abbrev AreInTurn : List ℕ → Type 0
      AreInTurn numbers = AreTakenIntoAs reads members (own ++ later) (members_at members numbers)

      archive_in_turn : (archive before after : List ℕ) → AreFree archive later → IsSwept reads members own archive before after → Within after → AreInTurn before → AreInTurn after
      archive_in_turn archive before after free is within taken =
          subst AreInTurn is.taken
          (sweeps_in_turn reads members own (own ++ later) (λ n. Among n final) (first_in_end own later all) (index_at members archive) (lifts archive free) is.count before
          (within_less (sweeps reads members own (index_at members archive) is.count before) after (λ n. subst (Among n) is.taken) within) taken)

      archives_in_turn : (archives : List (List ℕ)) (before after : List ℕ) → AreFree (numbers_of (Archives archives)) later → AreSwept reads members own archives before after → Within after → AreInTurn before → AreInTurn after
      unfolding AreSwept
      archives_in_turn [] before after free is within taken = subst AreInTurn is taken
      archives_in_turn (archive ∷ archives) before after free (between, first, others) within taken =
          archives_in_turn archives between after (λ name held. free name (behind name held)) others within
          (archive_in_turn archive before between (λ name held. free name (listed_more members archive (numbers_of (Archives archives)) name held)) first
          (within_less between after (λ n. (archives_keep own archives between after others n).0) within) taken)
        where
          behind : (name : List ℕ) → Among name (listed_at members (numbers_of (Archives archives))) → Among name (listed_at members (archive ++ numbers_of (Archives archives)))
          behind name held =
              let from = among_flat_map (λ (m : MemberView). m.symbols) name (members_at members (numbers_of (Archives archives))) held in
              let at = taken_number members (numbers_of (Archives archives)) from.0 from.1 in
              listed_name members (archive ++ numbers_of (Archives archives)) at.0 from.0 name at.2 (among_back at.0 archive (numbers_of (Archives archives)) at.1) from.2

      rounds_in_turn : (archives : List (List ℕ)) (count : ℕ) (before after : List ℕ) → AreFree (numbers_of (Archives archives)) later → AreRounds reads members own archives count before after → Within after → AreInTurn before → AreInTurn after
      unfolding AreRounds
      rounds_in_turn archives zero before after free is within taken = subst AreInTurn is taken
      rounds_in_turn archives (suc count) before after free (between, first, others) within taken =
          rounds_in_turn archives count between after free others within
          (archives_in_turn archives before between free first (within_less between after (λ n. (rounds_keep own archives count between after others n).0) within) taken)

    searches_in_turn : (own : List Object) (inputs : List Input) (read before after : List ℕ) → own ++ objects_given inputs ≡ whole → AreUnclaimedBehind members read inputs → SearchesFrom reads members own inputs before after → Within after →
        AreTakenIntoAs reads members (own ++ objects_given inputs) (members_at members before) → AreTakenIntoAs reads members (own ++ objects_given inputs) (members_at members after)
    unfolding SearchesFrom AreUnclaimedBehind
    searches_in_turn own [] read before after all none is within taken = subst (λ ns. AreTakenIntoAs reads members (own ++ []) (members_at members ns)) is taken
    searches_in_turn own (AnObject o ∷ inputs) read before after all none is within taken = grind (arith, searches_in_turn (own ++ o ∷ []) inputs (read ++ []) before after, append_assoc)
    searches_in_turn own (Archives archives ∷ inputs) read before after all none (between, group, later) within taken =
        searches_in_turn own inputs (read ++ numbers_of (Archives archives)) between after all none.1 later within
        (rounds_in_turn own (objects_given inputs) all archives group.rounds before between free group.taken
        (within_less between after (λ n. (searches_keep own inputs between after later n).0) within) taken)
      where
        free : AreFree (numbers_of (Archives archives)) (objects_given inputs)
        free name held =
            let from = among_flat_map (λ (m : MemberView). m.symbols) name (members_at members (numbers_of (Archives archives))) held in
            let at = taken_number members (numbers_of (Archives archives)) from.0 from.1 in
            unclaimed_later members (read ++ numbers_of (Archives archives)) inputs none.1 name
            (listed_name members (read ++ numbers_of (Archives archives)) at.0 from.0 name at.2 (among_back at.0 read (numbers_of (Archives archives)) at.1) from.2)

  -- What is left unresolved at the end, and by whom.

  -- the object that a member is read as is one of those of its list
  pub object_there : (some : List MemberView) (x : MemberView) (o : Object) → Among x some → reads x.bytes ≡ Some o → Among o (objects_as reads some)
  unfolding Among
  object_there [] x o held read = held
  object_there (y ∷ some) x o (inl is) read = rw (subst (λ (z : MemberView). reads z.bytes ≡ Some o) is read) (inl refl)
  object_there (y ∷ some) x o (inr held) read = grind (arith, object_there some x o held read)

  -- an object that leaves none of some names does not leave a name among them
  leaves_not : (names : List (List ℕ)) (o : Object) (name : List ℕ) → LeavesNone names o → Among name names → Among name (undefined_in o) → ⊥
  leaves_not names o name none held left = grind (arith, among_any, all_among)

  -- the name of a member whose number is not among some
  but_these : (some : List ℕ) (n : ℕ) (m : MemberView) (name : List ℕ) → slice_get members n ≡ Some m → Among name m.symbols → (Among n some → ⊥) → Among name (listed_at members (numbers_but members some))
  but_these some n m name at listed none =
      listed_name members (numbers_but members some) n m name at
      (passes (λ number. not (list_any (λ other. other == number) some)) n (numbers_from (length members) 0) (all_there members n m at) (not_from_false (list_any (λ other. other == n) some) (not_number n some none))) listed
    where
      not_number : (k : ℕ) (ns : List ℕ) → (Among k ns → ⊥) → list_any (λ other. other == k) ns ≡ false
      not_number k ns free = elim (cases_Bool (list_any (λ other. other == k) ns)) [ inl there ↦ absurd (free (number_among k ns there)) | inr is ↦ is ]

  -- Where a member is of none of the inputs, neither their objects nor their members leave its names.
  module _ (n : ℕ) (m : MemberView) (name : List ℕ) (at : slice_get members n ≡ Some m) (listed : Among name m.symbols) where
    pub objects_leave_not : (inputs : List Input) → IsOrdered reads members inputs → (Among n (numbers_in inputs) → ⊥) → Among name (flat_map undefined_in (objects_given inputs)) → ⊥
    unfolding IsOrdered Among
    objects_leave_not [] ordered none left = left
    objects_leave_not (input ∷ inputs) ordered none left =
        search (rules, objects_leave_not inputs ordered.1, refs_either undefined_in (object_of input) (objects_given inputs) name left, but_these (numbers_in (input ∷ inputs)) n m name, among_flat_map, leaves_not, all_among, among_front, among_back)

    pub members_leave_not : (inputs : List Input) → IsOrdered reads members inputs → (Among n (numbers_in inputs) → ⊥) → (k : ℕ) (x : MemberView) (o : Object) → slice_get members k ≡ Some x →
        Among k (numbers_in inputs) → reads x.bytes ≡ Some o → Among name (undefined_in o) → ⊥
    unfolding IsOrdered Among
    members_leave_not [] ordered none k x o there held read left = held
    members_leave_not (input ∷ inputs) ordered none k x o there held read left =
        grind (arith, members_leave_not inputs ordered.1, among_either k (numbers_of input) (numbers_in inputs) held, but_these (numbers_in (input ∷ inputs)) n m name, leaves_not, all_among, among_back, object_there, number_taken)

    -- A name that is left in the end, by what was there before inputs that do not search its member, was left then.
    left_before : (own : List Object) (inputs : List Input) (before after : List ℕ) → IsOrdered reads members inputs → SearchesFrom reads members own inputs before after → (Among n (numbers_in inputs) → ⊥) →
        Among name (flat_map undefined_in ((own ++ objects_given inputs) ++ objects_as reads (members_at members after))) → Among name (flat_map undefined_in (own ++ objects_as reads (members_at members before)))
    left_before own inputs before after ordered is none left =
        elim (refs_either undefined_in (own ++ objects_given inputs) (objects_as reads (members_at members after)) name left) [
          | inl given ↦ grind (arith, refs_either, refs_front, objects_leave_not)
          | inr taken ↦
              let from = name_as reads undefined_in name (members_at members after) taken in
              let where_from = taken_number members after from.member from.held in
              elim ((searches_keep own inputs before after is where_from.0).1 where_from.1) [
                | inl old ↦ refs_back undefined_in own (objects_as reads (members_at members before)) name
                    (as_name reads undefined_in name (members_at members before) from.member from.object (number_taken members before where_from.0 from.member old where_from.2) from.taken from.among)
                | inr new ↦ absurd (members_leave_not inputs ordered none where_from.0 from.member from.object where_from.2 new from.taken from.among)
              ]
        ]

    -- claims of what was there before are claims in the end
    claimed_on : (own : List Object) (inputs : List Input) (before after : List ℕ) → SearchesFrom reads members own inputs before after →
        Among name (flat_map claimed_names (own ++ objects_as reads (members_at members before))) → Among name (flat_map claimed_names ((own ++ objects_given inputs) ++ objects_as reads (members_at members after)))
    claimed_on own inputs before after is claimed =
        elim (refs_either claimed_names own (objects_as reads (members_at members before)) name claimed) [
          | inl here ↦ refs_front claimed_names (own ++ objects_given inputs) (objects_as reads (members_at members after)) name (refs_front claimed_names own (objects_given inputs) name here)
          | inr there ↦
              let from = name_as reads claimed_names name (members_at members before) there in
              let where_from = taken_number members before from.member from.held in
              refs_back claimed_names (own ++ objects_given inputs) (objects_as reads (members_at members after)) name
              (as_name reads claimed_names name (members_at members after) from.member from.object
              (number_taken members after where_from.0 from.member ((searches_keep own inputs before after is where_from.0).0 where_from.1) where_from.2) from.taken from.among)
        ]

    -- a name that a group's member lists, and that is left unresolved once the group was searched, is that of a member that is taken
    group_has : (own : List Object) (archives : List (List ℕ)) (after : List ℕ) → AllByRecursion (λ archive. swept reads members own (index_at members archive) after ≡ after) archives →
        Among n (numbers_of (Archives archives)) → Among name (unresolved (own ++ objects_as reads (members_at members after))) → Among n after
    unfolding Among
    group_has own [] after ended held left = absurd held
    group_has own (archive ∷ archives) after ended held left =
        elim (among_either n archive (numbers_of (Archives archives)) held) [
          | inl here ↦ none_left reads members own (index_at members archive) after ended.0 (record { name = name; number = n }) (entry_there members archive n m name at here listed) left
          | inr behind ↦ group_has own archives after ended.1 behind left
        ]

    -- In the end each name that is left unresolved, and that an archive lists, is that of a member that is taken.
    none_lost : (own : List Object) (inputs : List Input) (before after : List ℕ) → IsOrdered reads members inputs → SearchesFrom reads members own inputs before after → Among n (numbers_in inputs) →
        Among name (unresolved ((own ++ objects_given inputs) ++ objects_as reads (members_at members after))) → Among n after
    unfolding SearchesFrom IsOrdered Among
    none_lost own [] before after ordered is held left = absurd held
    none_lost own (AnObject o ∷ inputs) before after ordered is held left = grind (arith, none_lost (own ++ o ∷ []) inputs before after ordered.1 is held, append_assoc)
    none_lost own (Archives archives ∷ inputs) before after ordered (between, group, later) held left =
        elim (cases_Bool (list_any (λ other. other == n) (numbers_in inputs))) [
          | inl again ↦ none_lost own inputs between after ordered.1 later (number_among n (numbers_in inputs) again) left
          | inr last ↦
              let free : Among n (numbers_in inputs) → ⊥ = λ behind. true≢false (sym (among_number n (numbers_in inputs) behind) ∙ last) in
              let parts = unresolved_parts ((own ++ objects_given inputs) ++ objects_as reads (members_at members after)) name left in
              (searches_keep own inputs between after later n).0
              (group_has own archives between group.ended (elim (among_either n (numbers_of (Archives archives)) (numbers_in inputs) held) [ inl one ↦ one | inr behind ↦ absurd (free behind) ])
              (unresolved_from (own ++ objects_as reads (members_at members between)) name
              (left_before own inputs between after ordered.1 later free parts.0)
              (λ claimed. parts.1 (claimed_on own inputs between after later claimed))))
        ]

  -- Where the command line is in order, GNU `ld` takes what one search of all archives takes.
  pub gnu_searches : (inputs : List Input) (taken : List ℕ) → TakesFirst members (names_left reads (objects_given inputs) (members_at members taken)) taken → AreUnclaimedBehind members [] inputs → IsOrdered reads members inputs →
      SearchesCommandLine reads members inputs taken → TakesIntoAs reads members (objects_given inputs) (members_at members taken)
  unfolding AreTakenIntoAs Among
  gnu_searches inputs taken once none ordered is = record {
    in_turn = searches_in_turn (objects_given inputs) taken once [] inputs [] [] taken refl none is.searched (λ n held. held) tt;
    ended = λ name m pulls.
        let from = listed_is members name m pulls.listed in
        let at = at_index m members from.0 in
        let left = contains_among name (unresolved (objects_given inputs ++ objects_as reads (members_at members taken))) pulls.named in
        pulls.new (among_contains m (members_at members taken) (number_taken members taken at.0 m
        (elim (cases_Bool (list_any (λ other. other == at.0) (numbers_in inputs))) [
          | inl searched ↦ none_lost at.0 m name at.1 from.1 [] inputs [] taken ordered is.searched (number_among at.0 (numbers_in inputs) searched) left
          | inr nowhere ↦ absurd (left_before at.0 m name at.1 from.1 [] inputs [] taken ordered is.searched
              (λ held. true≢false (sym (among_number at.0 (numbers_in inputs) held) ∙ nowhere))
              (unresolved_parts (objects_given inputs ++ objects_as reads (members_at members taken)) name left).0)
        ]) at.1));
  }

  -- And it does where nothing that an archive lists is left unresolved in the end.
  pub gnu_completes : (inputs : List Input) (taken : List ℕ) → TakesFirst members (names_left reads (objects_given inputs) (members_at members taken)) taken → AreUnclaimedBehind members [] inputs →
      NoneIsLost reads members (objects_given inputs) (members_at members taken) → SearchesCommandLine reads members inputs taken → TakesIntoAs reads members (objects_given inputs) (members_at members taken)
  unfolding AreTakenIntoAs
  gnu_completes inputs taken once none complete is = record {
    in_turn = searches_in_turn (objects_given inputs) taken once [] inputs [] [] taken refl none is.searched (λ n held. held) tt;
    ended = λ name m pulls. grind (arith, contains_among name (unresolved (objects_given inputs ++ objects_as reads (members_at members taken))) pulls.named, none-some, all_among);
  }

  -- Two searches of one list take the same.

  module _ (own : List Object) (whole : AreListedWhole reads members) where
    listed_claims : (m : MemberView) (name : List ℕ) → Among m members → Among name (claimed_as reads (m ∷ [])) → Among name m.symbols
    listed_claims m name held claimed =
        contains_among name m.symbols ((all_among (λ x. HaveSame (claimed_as reads (x ∷ [])) x.symbols) m members held whole name).0 (among_contains name (claimed_as reads (m ∷ [])) claimed))

    -- names that members claim are those of members that are listed for them
    claimer : (some : List MemberView) (name : List ℕ) → ((x : MemberView) → Among x some → Among x members) → Among name (flat_map claimed_names (objects_as reads some)) →
        (x : MemberView) × Among x some × Among name x.symbols
    unfolding claimed_as
    claimer some name are claimed = search (rules, name_as reads claimed_names name some claimed, listed_claims, as_name, among_first)

    claims_there : (some : List MemberView) (m : MemberView) (name : List ℕ) → Among m some → Among m members → Among name m.symbols → Among name (flat_map claimed_names (objects_as reads some))
    unfolding claimed_as Among
    claims_there some m name held there listed =
        let from = name_as reads claimed_names name (m ∷ [])
        (contains_among name (claimed_as reads (m ∷ [])) ((all_among (λ x. HaveSame (claimed_as reads (x ∷ [])) x.symbols) m members there whole name).1 (among_contains name m.symbols listed))) in
        as_name reads claimed_names name some m from.object held (subst (λ (x : MemberView). reads x.bytes ≡ Some from.object) (only_one from.member m from.held) from.taken) from.among

    pub taken_are : (taken : List MemberView) → AreTakenIntoAs reads members own taken → (x : MemberView) → Among x taken → Among x members
    unfolding AreTakenIntoAs Among
    taken_are [] is x held = absurd held
    taken_are (m ∷ taken) is x (inl here) = subst (λ y. Among y members) (sym here) (listed_is members is.0.0 m is.0.1.listed).0
    taken_are (m ∷ taken) is x (inr behind) = taken_are taken is.1 x behind

    refs_of_more : (some more : List MemberView) (name : List ℕ) → ((x : MemberView) → Among x some → Among x more) → Among name (flat_map undefined_in (own ++ objects_as reads some)) →
        Among name (flat_map undefined_in (own ++ objects_as reads more))
    refs_of_more some more name are left = grind (arith, refs_either, refs_front, refs_back, names_more)

    -- What a name pulls in after members that another search takes, that search takes, too.
    one_taken : (taken other : List MemberView) (name : List ℕ) (m : MemberView) → AreFirst members (names_left reads own other) other → PullsIntoAs reads members own taken name m → ((y : MemberView) → Among y taken → Among y other) →
        TakesIntoAs reads members own other → Among m other
    unfolding references_of
    one_taken taken other name m first pulls are takes =
        elim (cases_Bool (list_any (bytes_eq name) (flat_map claimed_names (objects_as reads other)))) [
          | inl claimed ↦
              let by = claimer other name others (any_among name (flat_map claimed_names (objects_as reads other)) claimed) in
              subst (λ y. Among y other) (same_Some by.0 m (sym (first name by.0 in_other (among_contains by.0 other by.1) (among_contains name by.0.symbols by.2)) ∙ pulls.listed)) by.1
          | inr free ↦
              let none : Among name (flat_map claimed_names (objects_as reads other)) → ⊥ = λ claimed. true≢false (sym (among_any name (flat_map claimed_names (objects_as reads other)) claimed) ∙ free) in
              absurd (takes.ended name m (record {
                named = grind (arith, among_contains, unresolved_from, refs_of_more, parts, refs_either, refs_front);
                listed = pulls.listed;
                new = λ held. none (claims_there other m name (contains_among m other held) from.0 from.1);
              }))
        ]
      where
        from : Among m members × Among name m.symbols
        from = listed_is members name m pulls.listed

        parts : Among name (flat_map undefined_in (own ++ objects_as reads taken)) × (Among name (flat_map claimed_names (own ++ objects_as reads taken)) → ⊥)
        parts = unresolved_parts (own ++ objects_as reads taken) name (contains_among name (unresolved (own ++ objects_as reads taken)) pulls.named)

        others : (y : MemberView) → Among y other → Among y members
        others = taken_are other takes.in_turn

        in_other : Contains (names_left reads own other) name
        in_other = among_contains name (flat_map undefined_in (own ++ objects_as reads other)) (refs_of_more taken other name are parts.0)

    all_taken : (taken other : List MemberView) → AreFirst members (names_left reads own other) other → AreTakenIntoAs reads members own taken → TakesIntoAs reads members own other → (x : MemberView) → Among x taken → Among x other
    unfolding AreTakenIntoAs Among
    all_taken [] other first is takes x held = absurd held
    all_taken (m ∷ taken) other first is takes x (inr behind) = all_taken taken other first is.1 takes x behind
    all_taken (m ∷ taken) other first is takes x (inl here) =
        subst (λ y. Among y other) (sym here) (one_taken taken other is.0.0 m first is.0.1 (λ y held. all_taken taken other first is.1 takes y held) takes)

    pub searches_alike : (taken other : List MemberView) → AreFirst members (names_left reads own taken) taken → AreFirst members (names_left reads own other) other → TakesIntoAs reads members own taken → TakesIntoAs reads members own other → HaveSame taken other
    searches_alike taken other first second one two x = grind (arith, among_contains, all_taken, contains_among)

    -- Members that are taken are as if they were given.

    module _ (is_given : MemberView → Bool) where
      -- the first member of all is that of the others, if it is one of them
      first_kept : (some : List MemberView) (name : List ℕ) (m : MemberView) → is_given m ≡ false → first_listed some name ≡ Some m → first_listed (others_of is_given some) name ≡ Some m
      first_kept [] name m other is = absurd (cc)
      first_kept (x ∷ some) name m other is =
          elim (cases_Bool (is_listed_for name x)) [
            | inl here ↦ grind (arith, same_Some)
            | inr none ↦ grind (arith, cases_Bool, first_kept some name m other (rw none at is))
          ]

      -- a member is among those that are given or among the others
      given_or_not : (some : List MemberView) (x : MemberView) → Among x some → Among x (filter is_given some) ⊎ Among x (others_of is_given some)
      given_or_not some x held = search (rules, cases_Bool, inl, passes, inr, not_from_false)

      -- names of members' objects, by which list they are in
      names_apart : (f : Object → List (List ℕ)) (some full : List MemberView) (name : List ℕ) → ((x : MemberView) → Among x some → Among x full) → Among name (flat_map f (objects_as reads some)) →
          Among name (flat_map f (objects_as reads (filter is_given full))) ⊎ Among name (flat_map f (objects_as reads (others_of is_given some)))
      names_apart f some full name are held = grind (arith, name_as, given_or_not, passing, as_name)

      module _ (full : List MemberView) (are_members : (x : MemberView) → Among x full → Among x members) (first : AreFirst members (names_left reads own full) full) where
        abbrev given_too : List Object
        given_too = own ++ objects_as reads (filter is_given full)

        other_left : (taken : List MemberView) (name : List ℕ) (m : MemberView) → ((x : MemberView) → Among x taken → Among x full) → is_given m ≡ false → Among m full → Among name m.symbols →
            Among name (unresolved (own ++ objects_as reads taken)) → Among name (unresolved (given_too ++ objects_as reads (others_of is_given taken)))
        other_left taken name m are other held listed left =
            let parts = unresolved_parts (own ++ objects_as reads taken) name left in
            unresolved_from (given_too ++ objects_as reads (others_of is_given taken)) name
            (elim (refs_either undefined_in own (objects_as reads taken) name parts.0) [
              | inl here ↦ refs_front undefined_in given_too (objects_as reads (others_of is_given taken)) name (refs_front undefined_in own (objects_as reads (filter is_given full)) name here)
              | inr there ↦ elim (names_apart undefined_in taken full name are there) [
                | inl given ↦ refs_front undefined_in given_too (objects_as reads (others_of is_given taken)) name (refs_back undefined_in own (objects_as reads (filter is_given full)) name given)
                | inr behind ↦ refs_back undefined_in given_too (objects_as reads (others_of is_given taken)) name behind
              ]
            ])
            (λ claimed. elim (refs_either claimed_names given_too (objects_as reads (others_of is_given taken)) name claimed) [
              | inl front ↦ elim (refs_either claimed_names own (objects_as reads (filter is_given full)) name front) [
                | inl here ↦ parts.1 (refs_front claimed_names own (objects_as reads taken) name here)
                | inr given ↦
                    let by = claimer (filter is_given full) name (λ x among. are_members x (passing is_given x full among).0) given in
                    let kept = passing is_given by.0 full by.1 in
                    let there = name_in_end own full own [] (append-nil own) taken are name left in
                    let same : by.0 ≡ m = same_Some by.0 m (sym (first name by.0 there (among_contains by.0 full kept.0) (among_contains name by.0.symbols by.2)) ∙ first name m there (among_contains m full held) (among_contains name m.symbols listed)) in
                    true≢false (sym kept.1 ∙ (ap is_given same ∙ other))
              ]
              | inr there ↦ parts.1 (refs_back claimed_names own (objects_as reads taken) name (names_more reads claimed_names name (others_of is_given taken) taken (λ m held. among_filter (λ x. not (is_given x)) m taken held) there))
            ])

        others_in_turn : (taken : List MemberView) → ((x : MemberView) → Among x taken → Among x full) → AreTakenIntoAs reads members own taken → AreTakenIntoAs reads (others_of is_given members) given_too (others_of is_given taken)
        unfolding AreTakenIntoAs Among
        others_in_turn [] are is = tt
        others_in_turn (m ∷ taken) are is =
            elim (cases_Bool (is_given m)) [
              | inl given ↦ rw given (others_in_turn taken (λ x held. are x (inr held)) is.1)
              | inr other ↦
                  let left = contains_among is.0.0 (unresolved (own ++ objects_as reads taken)) is.0.1.named in
                  rw other (
                    (
                      is.0.0,
                      record {
                        named = among_contains is.0.0 (unresolved (given_too ++ objects_as reads (others_of is_given taken)))
                            (other_left taken is.0.0 m (λ x held. are x (inr held)) other (are m (inl refl)) (listed_is members is.0.0 m is.0.1.listed).1 left);
                        listed = first_kept members is.0.0 m other is.0.1.listed;
                        new = λ held. is.0.1.new (among_contains m taken (passing (λ y. not (is_given y)) m taken (contains_among m (others_of is_given taken) held)).0);
                      },
                    ),
                    others_in_turn taken (λ x held. are x (inr held)) is.1,
                  )
            ]

        left_again : (name : List ℕ) → Among name (unresolved (given_too ++ objects_as reads (others_of is_given full))) → Among name (unresolved (own ++ objects_as reads full))
        left_again name left =
            let parts = unresolved_parts (given_too ++ objects_as reads (others_of is_given full)) name left in
            unresolved_from (own ++ objects_as reads full) name
            (elim (refs_either undefined_in given_too (objects_as reads (others_of is_given full)) name parts.0) [
              | inl front ↦ elim (refs_either undefined_in own (objects_as reads (filter is_given full)) name front) [
                | inl here ↦ refs_front undefined_in own (objects_as reads full) name here
                | inr given ↦ refs_back undefined_in own (objects_as reads full) name (names_more reads undefined_in name (filter is_given full) full (λ m held. among_filter is_given m full held) given)
              ]
              | inr there ↦ refs_back undefined_in own (objects_as reads full) name (names_more reads undefined_in name (others_of is_given full) full (λ m held. among_filter (λ x. not (is_given x)) m full held) there)
            ])
            (λ claimed. elim (refs_either claimed_names own (objects_as reads full) name claimed) [
              | inl here ↦ parts.1 (refs_front claimed_names given_too (objects_as reads (others_of is_given full)) name (refs_front claimed_names own (objects_as reads (filter is_given full)) name here))
              | inr there ↦ elim (names_apart claimed_names full full name (λ x held. held) there) [
                | inl given ↦ parts.1 (refs_front claimed_names given_too (objects_as reads (others_of is_given full)) name (refs_back claimed_names own (objects_as reads (filter is_given full)) name given))
                | inr behind ↦ parts.1 (refs_back claimed_names given_too (objects_as reads (others_of is_given full)) name behind)
              ]
            ])

      pub taken_as_given : (taken : List MemberView) → AreFirst members (names_left reads own taken) taken → TakesIntoAs reads members own taken →
          TakesIntoAs reads (others_of is_given members) (own ++ objects_as reads (filter is_given taken)) (others_of is_given taken)
      taken_as_given taken first takes = record {
        in_turn = others_in_turn taken (taken_are taken takes.in_turn) first taken (λ x held. held) takes.in_turn;
        ended = λ name m pulls.
            let from = listed_is (others_of is_given members) name m pulls.listed in
            let left = left_again taken (taken_are taken takes.in_turn) first name
            (contains_among name (unresolved (given_too taken (taken_are taken takes.in_turn) first ++ objects_as reads (others_of is_given taken))) pulls.named) in
            elim (found_or_not name members) [
              | inl none ↦ none_first name members m none (passing (λ y. not (is_given y)) m members from.0).0 from.1
              | inr found ↦
                  let there = listed_is members name found.0 found.1 in
                  takes.ended name found.0 (record {
                    named = among_contains name (unresolved (own ++ objects_as reads taken)) left;
                    listed = found.1;
                    new = λ held. (unresolved_parts (own ++ objects_as reads taken) name left).1
                        (refs_back claimed_names own (objects_as reads taken) name (claims_there taken found.0 name (contains_among found.0 taken held) there.0 there.1));
                  })
            ];
      }

-- what is first by numbers is the first that is listed
pub first_by_numbers : (members : List MemberView) (names : List (List ℕ)) (taken : List ℕ) → TakesFirst members names taken → AreFirst members names (members_at members taken)
first_by_numbers members names taken first name m left held listed =
    search (rules, taken_number members taken m (contains_among m (members_at members taken) held), contains_among m (members_at members taken) held, contains_among name m.symbols listed, first_at, among_contains)

-- GNU `ld`'s command lines of libraries and of anything else.

module _ (reads : List ℕ → Option Object) (of_libraries members : List MemberView) (inputs : List Input) (is_given : MemberView → Bool) (taken : List ℕ) (s : SearchesFor reads of_libraries members inputs is_given taken) where
  pub takes_of_libraries : TakesIntoAs reads of_libraries (given_with reads is_given (objects_given inputs) (members_at members taken)) (others_of is_given (members_at members taken))
  takes_of_libraries =
      subst (λ archive. TakesIntoAs reads archive (given_with reads is_given (objects_given inputs) (members_at members taken)) (others_of is_given (members_at members taken))) s.libraries_are
      (taken_as_given reads members (objects_given inputs) s.whole is_given (members_at members taken) (first_by_numbers members (names_left reads (objects_given inputs) (members_at members taken)) taken s.first)
      (elim s.ordered [
        | inl ordered ↦ gnu_searches reads members inputs taken s.first s.unclaimed ordered s.searches
        | inr complete ↦ gnu_completes reads members inputs taken s.first s.unclaimed complete s.searches
      ]))

-- Where GNU `ld` takes a command line's members in order, lld takes the same.
pub takes_alike : (reads : List ℕ → Option Object) (members : List MemberView) (inputs : List Input) (taken : List ℕ) (other : List MemberView) → TakesFirst members (names_left reads (objects_given inputs) (members_at members taken)) taken →
    AreFirst members (names_left reads (objects_given inputs) other) other → AreListedWhole reads members → AreUnclaimedBehind members [] inputs → IsOrdered reads members inputs → SearchesCommandLine reads members inputs taken →
    TakesIntoAs reads members (objects_given inputs) other → HaveSame (members_at members taken) other
takes_alike reads members inputs taken other first second whole none ordered gnu lld = search (rules, searches_alike, first_by_numbers, gnu_searches)

-- Where all symbols differ, each member is the first for its names.
pub first_of_distinct : (members : List MemberView) (names : List (List ℕ)) (taken : List ℕ) → IsDistinct bytes_eq (all_listed members) → TakesFirst members names taken
first_of_distinct members names taken distinct name n k m x left held at listed other again = grind (arith, contains_among name m.symbols listed, contains_among name x.symbols again, once_by)

pub are_first_of_distinct : (members : List MemberView) (names : List (List ℕ)) (taken : List MemberView) → IsDistinct bytes_eq (all_listed members) → ((x : MemberView) → Among x taken → Among x members) → AreFirst members names taken
are_first_of_distinct members names taken distinct are name m left held listed = search (rules, listed_once, contains_among)
