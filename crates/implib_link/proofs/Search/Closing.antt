-- What a linker takes for given objects, and a program of both: for any way to read members.
use Rattle.std.proofs.Common.{rules, arith, ◌≡◌, ℕ, ◌⊎◌, Bool, false, List, [], ◌∷◌, ◌++◌, Option, Some, refl, ap, sym, ◌∙◌, subst, inl, inr}
use Rattle.std.specs.Prelude.{bytes_eq, not}
use Rattle.std.specs.List.{AllByRecursion, Contains, filter, flat_map, list_any}
use Rattle.std.proofs.lemmas.Bool.{cases_Bool, false_from_ne_true, true≢false, not_from_false}
use Rattle.std.proofs.lemmas.Grind.{flat_map-append}
use Rattle.implib.specs.Formats.Object.{Object}
use Rattle.implib.specs.Members.MemberSpec.{MemberView}
use Rattle.implib.proofs.Link.LinkedMembers.{among_contains}
use Rattle.implib.proofs.Link.Ranges.{Among, all_among, among_back, among_flat, among_front, among_later}
use Rattle.implib_link.specs.Flavors.Program.{ClaimsNone, HaveSame, claimed_names, has_tables, null_descriptor}
use Rattle.implib_link.specs.Search.Search.{claims_of, listed_in, references_of, unresolved, AreTakenIntoAs, PullsIntoAs, TakesIntoAs, first_listed, is_listed_for, undefined_in, left_as, claimed_as, objects_as}
use Rattle.implib_link.proofs.Search.Lists.{all_from as all_each, among_any, among_either, among_flat_map, any_among, any_member, contains_among, listed_is, none_listed, name_as, as_name, NameAs, passing, passes, from_not, kept_from, names_more}
use Rattle.implib_link.proofs.Search.ArchiveMembers.{in_nothing}
use Rattle.std.proofs.lemmas.Option.{same_Some}

-- Lists.

-- a name is not among these
pub not_there : (name : List ℕ) (names : List (List ℕ)) → (Among name names → ⊥) → list_any (bytes_eq name) names ≡ false
not_there name names none = false_from_ne_true (list_any (bytes_eq name) names) (λ is. none (any_among name names is))

pub there_not : (name : List ℕ) (names : List (List ℕ)) → list_any (bytes_eq name) names ≡ false → Among name names → ⊥
there_not name names none held = true≢false (sym (among_any name names held) ∙ none)

-- objects that claim none of some names
pub claims_apart : (names : List (List ℕ)) (objects : List Object) → AllByRecursion (ClaimsNone names) objects → (name : List ℕ) → Among name names →
    Among name (flat_map claimed_names objects) → ⊥
claims_apart names objects none name held claimed = grind (arith, among_flat_map, there_not, all_among)

pub claims_none : (names : List (List ℕ)) (o : Object) → ((name : List ℕ) → Among name names → Among name (claimed_names o) → ⊥) → ClaimsNone names o
claims_none names o none = all_each (λ name. list_any (bytes_eq name) (claimed_names o) ≡ false) names (λ name held. not_there name (claimed_names o) (none name held))

-- What objects leave unresolved.

pub unresolved_parts : (objects : List Object) (name : List ℕ) → Among name (unresolved objects) →
    Among name (flat_map undefined_in objects) × (Among name (flat_map claimed_names objects) → ⊥)
unfolding references_of claims_of
unresolved_parts objects name held = grind (arith, passing, there_not, from_not)

pub unresolved_from : (objects : List Object) (name : List ℕ) → Among name (flat_map undefined_in objects) →
    (Among name (flat_map claimed_names objects) → ⊥) → Among name (unresolved objects)
unfolding references_of claims_of
unresolved_from objects name left none = grind (arith, passes, not_from_false, not_there)

-- A search for wanted names: an undefined name pulls in a member where the name is wanted or left by a member that is taken, no
-- member that is taken claims it, and the first member that it is listed for is this one, which is not taken.
pub record PullsInAs (reads : List ℕ → Option Object) (archive : List MemberView) (wanted : List (List ℕ)) (taken : List MemberView) (name : List ℕ) (m : MemberView) : Type 0 where
  pub named : Contains (wanted ++ left_as reads taken) name
  pub undefined : list_any (bytes_eq name) (claimed_as reads taken) ≡ false
  pub listed : first_listed archive name ≡ Some m
  pub new : Contains taken m → ⊥

unfoldable pub AreTakenInTurnAs : (List ℕ → Option Object) → List MemberView → List (List ℕ) → List MemberView → Type 0
AreTakenInTurnAs reads archive wanted [] = Unit {0}
AreTakenInTurnAs reads archive wanted (m ∷ earlier) =
    ((name : List ℕ) × PullsInAs reads archive wanted earlier name m) × AreTakenInTurnAs reads archive wanted earlier

pub record TakesAs (reads : List ℕ → Option Object) (archive : List MemberView) (wanted : List (List ℕ)) (taken : List MemberView) : Type 0 where
  pub in_turn : AreTakenInTurnAs reads archive wanted taken
  pub ended : (name : List ℕ) (m : MemberView) → PullsInAs reads archive wanted taken name m → ⊥

-- The search for given objects is one for what they leave unresolved.

module _ (reads : List ℕ → Option Object) (archive : List MemberView) (own : List Object) where
  pulls_for : (taken : List MemberView) (name : List ℕ) (m : MemberView) → PullsIntoAs reads archive own taken name m → PullsInAs reads archive (unresolved own) taken name m
  unfolding left_as claimed_as
  pulls_for taken name m pulls =
      let parts = unresolved_parts (own ++ objects_as reads taken) name (contains_among name (unresolved (own ++ objects_as reads taken)) pulls.named) in
      let none : Among name (flat_map claimed_names own ++ flat_map claimed_names (objects_as reads taken)) → ⊥ = grind (arith, flat_map-append) in
      record {
        named = grind (arith, among_contains, among_either, flat_map-append, among_front, unresolved_from, among_back);
        undefined = not_there name (flat_map claimed_names (objects_as reads taken)) (λ claimed. none (among_back name (flat_map claimed_names own) (flat_map claimed_names (objects_as reads taken)) claimed));
        listed = pulls.listed;
        new = pulls.new;
      }

  pulls_into : (taken : List MemberView) (name : List ℕ) (m : MemberView) → (Among name (flat_map undefined_in (objects_as reads taken)) → Among name (flat_map claimed_names own) → ⊥) →
      PullsInAs reads archive (unresolved own) taken name m → PullsIntoAs reads archive own taken name m
  unfolding left_as claimed_as
  pulls_into taken name m apart pulls =
      let named : Among name (flat_map undefined_in own ++ flat_map undefined_in (objects_as reads taken)) × (Among name (flat_map claimed_names own) → ⊥) =
      elim (among_either name (unresolved own) (flat_map undefined_in (objects_as reads taken)) (contains_among name (unresolved own ++ flat_map undefined_in (objects_as reads taken)) pulls.named)) [
        | inl given ↦ let parts = unresolved_parts own name given in (among_front name (flat_map undefined_in own) (flat_map undefined_in (objects_as reads taken)) parts.0, parts.1)
        | inr left ↦ (among_back name (flat_map undefined_in own) (flat_map undefined_in (objects_as reads taken)) left, apart left)
      ] in
      record {
        named = among_contains name (unresolved (own ++ objects_as reads taken)) (unresolved_from (own ++ objects_as reads taken) name
            (subst (Among name) (sym (flat_map-append undefined_in own (objects_as reads taken))) named.0)
            (λ claimed. elim (among_either name (flat_map claimed_names own) (flat_map claimed_names (objects_as reads taken)) (subst (Among name) (flat_map-append claimed_names own (objects_as reads taken)) claimed)) [
              | inl here ↦ named.1 here
              | inr there ↦ there_not name (flat_map claimed_names (objects_as reads taken)) pulls.undefined there
            ]));
        listed = pulls.listed;
        new = pulls.new;
      }

  pub in_turn_for : (taken : List MemberView) → AreTakenIntoAs reads archive own taken → AreTakenInTurnAs reads archive (unresolved own) taken
  unfolding AreTakenIntoAs AreTakenInTurnAs
  in_turn_for [] turn = tt
  in_turn_for (m ∷ earlier) turn = ((turn.0.0, pulls_for earlier turn.0.0 m turn.0.1), in_turn_for earlier turn.1)

  -- where the given objects claim nothing that members which are taken leave to others
  pub takes_for : (taken : List MemberView) → ((name : List ℕ) → Among name (flat_map undefined_in (objects_as reads taken)) → Among name (flat_map claimed_names own) → ⊥) →
      TakesIntoAs reads archive own taken → TakesAs reads archive (unresolved own) taken
  takes_for taken apart takes = record {
    in_turn = in_turn_for taken takes.in_turn;
    ended = λ name m pulls. takes.ended name m (pulls_into taken name m (apart name) pulls);
  }

  -- the other way round, each list of members that are taken before leaves fewer names
  in_turn_into : (taken earlier : List MemberView) → ((m : MemberView) → Among m earlier → Among m taken) →
      ((name : List ℕ) → Among name (flat_map undefined_in (objects_as reads taken)) → Among name (flat_map claimed_names own) → ⊥) → AreTakenInTurnAs reads archive (unresolved own) earlier → AreTakenIntoAs reads archive own earlier
  unfolding AreTakenIntoAs AreTakenInTurnAs
  in_turn_into taken [] within apart turn = tt
  in_turn_into taken (m ∷ earlier) within apart turn =
      let before : (x : MemberView) → Among x earlier → Among x taken = λ x held. within x (among_later x m earlier held) in (
        (
          turn.0.0,
          pulls_into earlier turn.0.0 m (λ left. apart turn.0.0 (names_more reads undefined_in turn.0.0 earlier taken before left)) turn.0.1,
        ),
        in_turn_into taken earlier before apart turn.1,
      )

  pub takes_into : (taken : List MemberView) → ((name : List ℕ) → Among name (flat_map undefined_in (objects_as reads taken)) → Among name (flat_map claimed_names own) → ⊥) →
      TakesAs reads archive (unresolved own) taken → TakesIntoAs reads archive own taken
  takes_into taken apart takes = grind (arith, in_turn_into, pulls_for)

-- where they claim nothing that members which are taken are listed for or leave to others
pub takes_apart : (reads : List ℕ → Option Object) (archive : List MemberView) (own : List Object) (taken : List MemberView) → AllByRecursion (ClaimsNone (listed_in taken ++ left_as reads taken)) own →
    TakesIntoAs reads archive own taken → TakesAs reads archive (unresolved own) taken
unfolding left_as
takes_apart reads archive own taken none takes =
    takes_for reads archive own taken (λ name left. claims_apart (listed_in taken ++ left_as reads taken) own none name (among_back name (listed_in taken) (left_as reads taken) left)) takes

-- a member that is taken is the first for some name
pub pulled : (reads : List ℕ → Option Object) (archive : List MemberView) (wanted : List (List ℕ)) (taken : List MemberView) → AreTakenInTurnAs reads archive wanted taken → (m : MemberView) → Among m taken →
    (name : List ℕ) × (first_listed archive name ≡ Some m)
unfolding Among AreTakenInTurnAs
pulled reads archive wanted [] turn m held = absurd held
pulled reads archive wanted (t ∷ earlier) turn m (inl e) = (turn.0.0, turn.0.1.listed ∙ ap Some (sym e))
pulled reads archive wanted (t ∷ earlier) turn m (inr held) = pulled reads archive wanted earlier turn.1 m held

-- Given objects claim nothing of what is taken for them, where members alone may claim its names, or the objects leave them unresolved.
pub none_claimed : (reads : List ℕ → Option Object) (own : List Object) (taken : List MemberView) (kept : List (List ℕ)) → AllByRecursion (ClaimsNone kept) own →
    ((m : MemberView) (name : List ℕ) → Among m taken → Among name m.symbols → Among name kept ⊎ Among name (unresolved own)) →
    ((name : List ℕ) → Among name (flat_map undefined_in (objects_as reads taken)) → Among name kept) → AllByRecursion (ClaimsNone (listed_in taken ++ left_as reads taken)) own
unfolding left_as
none_claimed reads own taken kept none listed left =
    all_each (ClaimsNone (listed_in taken ++ flat_map undefined_in (objects_as reads taken))) own (λ o held.
    claims_none (listed_in taken ++ flat_map undefined_in (objects_as reads taken)) o (λ name is claimed.
    let here : Among name (flat_map claimed_names own) = among_flat claimed_names o own name held claimed in
    elim (among_either name (listed_in taken) (flat_map undefined_in (objects_as reads taken)) is) [
      | inl by_member ↦
          let from = among_flat_map (λ (m : MemberView). m.symbols) name taken by_member in
          elim (listed from.0 name from.1 from.2) [ inl one ↦ claims_apart kept own none name one here | inr given ↦ (unresolved_parts own name given).1 here ]
      | inr by_left ↦ claims_apart kept own none name (left name by_left) here
    ]))

-- a name that is listed finds a member
pub first_of : (name : List ℕ) (members : List MemberView) → Among name (listed_in members) → (m : MemberView) × (first_listed members name ≡ Some m)
unfolding Among
first_of name [] held = absurd held
first_of name (m ∷ members) held =
    elim (cases_Bool (is_listed_for name m)) [
      | inl own_name ↦ (m, rw own_name refl)
      | inr other ↦ elim (among_either name m.symbols (listed_in members) held) [
        | inl here ↦ absurd (true≢false (sym (among_any name m.symbols here) ∙ other))
        | inr behind ↦ let later = first_of name members behind in (later.0, rw other later.1)
      ]
    ]

-- What is so of the object that a member is read as, where the member is another.
module _ (reads : List ℕ → Option Object) where
  read_as : (m x : MemberView) (o one : Object) → m ≡ x → reads x.bytes ≡ Some one → reads m.bytes ≡ Some o → o ≡ one
  read_as m x o one same is read = (let e : Some o ≡ Some one = sym read ∙ ap (λ (y : MemberView). reads y.bytes) same ∙ is in cc)

  -- names of it
  pub names_read : (f : Object → List (List ℕ)) (names : List (List ℕ)) (name : List ℕ) (m x : MemberView) (o one : Object) → m ≡ x → reads x.bytes ≡ Some one →
      reads m.bytes ≡ Some o → f one ≡ names → Among name (f o) → Among name names
  names_read f names name m x o one same is read are held = subst (Among name) are (subst (λ t. Among name (f t)) (read_as m x o one same is read) held)

  -- whether it has import tables
  pub tables_read : (b : Bool) (m x : MemberView) (o one : Object) → m ≡ x → reads x.bytes ≡ Some one → reads m.bytes ≡ Some o → has_tables one ≡ b → has_tables o ≡ b
  tables_read b m x o one same is read has = subst (λ y. has_tables y ≡ b) (sym (read_as m x o one same is read)) has

  pub each_read : (P : Object → Type 0) (members : List MemberView) → ((m : MemberView) (o : Object) → Among m members → reads m.bytes ≡ Some o → P o) → AllByRecursion P (objects_as reads members)
  each_read P members own = all_each P (objects_as reads members) (λ o held. let from = kept_from (λ (m : MemberView). reads m.bytes) members o held in own from.0 o from.1 from.2)

-- A member is read as an object, claims what it is listed for, and is the first member that is listed for this.
pub record IsFirstAs (reads : List ℕ → Option Object) (archive : List MemberView) (m : MemberView) : Type 0 where
  pub object : Object
  pub read : reads m.bytes ≡ Some object
  pub claims : claimed_names object ≡ m.symbols
  pub first : (name : List ℕ) → Among name m.symbols → first_listed archive name ≡ Some m

module _ (reads : List ℕ → Option Object) (archive : List MemberView) where
  pub is_first : (m x : MemberView) (o : Object) (names : List (List ℕ)) → m ≡ x → reads x.bytes ≡ Some o → claimed_names o ≡ names → x.symbols ≡ names →
      ((name : List ℕ) → Among name names → first_listed archive name ≡ Some x) → IsFirstAs reads archive m
  is_first m x o names same read claims listed first = grind arith

  -- Members of this kind that are taken; some are weak externals.
  module _ (weak : MemberView → Bool) (taken : List MemberView) (each_first : (m : MemberView) → Among m taken → IsFirstAs reads archive m) where
    -- what a member that is taken claims, it is listed for
    claimed_listed : (name : List ℕ) (members : List MemberView) → ((m : MemberView) → Among m members → Among m taken) → Among name (flat_map claimed_names (objects_as reads members)) →
        (m : MemberView) × Among m members × Among name m.symbols
    claimed_listed name members there claimed = grind (arith, name_as reads claimed_names name members claimed)

    -- and the other way round
    pub listed_claimed : (name : List ℕ) (m : MemberView) → Among m taken → Among name m.symbols → Among name (flat_map claimed_names (objects_as reads taken))
    listed_claimed name m held listed =
        grind (arith, as_name reads claimed_names name taken m (each_first m held).object held (each_first m held).read (subst (Among name) (sym (each_first m held).claims) listed))

    -- a name is listed for a member that is taken and is no weak external
    abbrev pub IsListed : List ℕ → Type 0
    IsListed name = (m : MemberView) × Among m taken × (weak m ≡ false) × Among name m.symbols

    pub listed_other : (name : List ℕ) (m : MemberView) → Among m (filter (λ y. not (weak y)) taken) → Among name m.symbols → IsListed name
    listed_other name m held listed = grind (arith, passing, from_not, listed)

    weak_apart : (name : List ℕ) → IsListed name → Among name (flat_map claimed_names (objects_as reads (filter weak taken))) → ⊥
    weak_apart name m claimed = search (rules, claimed_listed, passing, same_Some, true≢false)

    -- objects that are given or of weak externals claim none of such names, where the given ones do not
    pub others_claim_none : (own others : List Object) (names : List (List ℕ)) → AllByRecursion (ClaimsNone (listed_in taken ++ left_as reads taken)) own →
        HaveSame others (own ++ objects_as reads (filter weak taken)) → ((name : List ℕ) → Among name names → IsListed name) → AllByRecursion (ClaimsNone names) others
    others_claim_none own others names none same listed =
        all_each (ClaimsNone names) others (λ o held.
        claims_none names o (λ name named claimed.
        let m = listed name named in
        elim (among_either o own (objects_as reads (filter weak taken)) (contains_among o (own ++ objects_as reads (filter weak taken)) ((same o).0 (among_contains o others held)))) [
          | inl given ↦ claims_apart (listed_in taken ++ left_as reads taken) own none name
              (among_front name (listed_in taken) (left_as reads taken) (among_flat (λ (y : MemberView). y.symbols) m.0 taken name m.1 m.3)) (among_flat claimed_names o own name given claimed)
          | inr of_weak ↦ weak_apart name m (among_flat claimed_names o (objects_as reads (filter weak taken)) name of_weak claimed)
        ]))

    -- What is taken for wanted names.
    module _ (wanted : List (List ℕ)) (takes : TakesAs reads archive wanted taken) where
      -- a member that an undefined name finds is taken
      pub reached : (name : List ℕ) (m : MemberView) → first_listed archive name ≡ Some m → Among name (wanted ++ left_as reads taken) → Among m taken
      unfolding claimed_as
      reached name m at named =
          elim (cases_Bool (list_any (is_listed_for name) taken)) [
            | inl some ↦ grind (arith, any_member, same_Some)
            | inr none ↦ absurd (takes.ended name m (record {
              named = among_contains name (wanted ++ left_as reads taken) named;
              undefined = not_there name (flat_map claimed_names (objects_as reads taken)) (λ claimed.
                  let by = claimed_listed name taken (λ y held. held) claimed in
                  none_listed name by.0 taken none by.1 by.2);
              listed = at;
              new = λ has. none_listed name m taken none (contains_among m taken has) (listed_is archive name m at).1;
            }))
          ]

    -- what a member that is taken leaves to others is left
    pub left_by : (wanted : List (List ℕ)) (x : MemberView) (o : Object) (name : List ℕ) → Among x taken → reads x.bytes ≡ Some o → Among name (undefined_in o) → Among name (wanted ++ left_as reads taken)
    unfolding left_as
    left_by wanted x o name held is left = among_back name wanted (flat_map undefined_in (objects_as reads taken)) (as_name reads undefined_in name taken x o held is left)

    -- a name that is wanted or left by a weak external is one of the names that are undefined
    pub still_named : (wanted : List (List ℕ)) (name : List ℕ) → Among name (wanted ++ left_as reads (filter weak taken)) → Among name (wanted ++ left_as reads taken)
    unfolding left_as
    still_named wanted name want = grind (arith, among_either, among_front, among_back, names_more, passing)

    -- A program of given objects and of what is taken for them: its objects with import tables are those of the
    -- members that are taken and no weak externals, and may be the null descriptor.
    module _ (own objects : List Object) (linked : List MemberView)
        (others : HaveSame (filter (λ o. not (has_tables o)) objects) (own ++ objects_as reads (filter weak taken)))
        (tables_from : (o : Object) → Among o (filter has_tables objects) → Among o (objects_as reads linked) ⊎ (o ≡ null_descriptor))
        (tables_into : (o : Object) → Among o (objects_as reads linked) → Among o (filter has_tables objects))
        (linked_other : (m : MemberView) → Among m linked → Among m (filter (λ y. not (weak y)) taken))
        (other_linked : (m : MemberView) → Among m (filter (λ y. not (weak y)) taken) → Among m linked) where
      abbrev weak_objects : List Object
      weak_objects = objects_as reads (filter weak taken)

      -- a name of an object of the program is one of a given object, or of a member that is taken
      from_sources : (f : Object → List (List ℕ)) → f null_descriptor ≡ [] → (name : List ℕ) → Among name (flat_map f objects) → Among name (flat_map f (own ++ objects_as reads taken))
      from_sources f nothing name named =
          let by = among_flat_map f name objects named in
          subst (Among name) (sym (flat_map-append f own (objects_as reads taken)))
          (elim (cases_Bool (has_tables by.0)) [
            | inl tables ↦ among_back name (flat_map f own) (flat_map f (objects_as reads taken))
                (elim (tables_from by.0 (passes has_tables by.0 objects by.1 tables)) [
                  | inl member ↦ names_more reads f name linked taken (λ m there. (passing (λ y. not (weak y)) m taken (linked_other m there)).0) (among_flat f by.0 (objects_as reads linked) name member by.2)
                  | inr null ↦ absurd (in_nothing name (subst (Among name) nothing (subst (λ o. Among name (f o)) null by.2)))
                ])
            | inr plain ↦ (
                let kept : Among by.0 (filter (λ o. not (has_tables o)) objects) = passes (λ o. not (has_tables o)) by.0 objects by.1 (not_from_false (has_tables by.0) plain) in
                elim (among_either by.0 own weak_objects (contains_among by.0 (own ++ weak_objects) ((others by.0).0 (among_contains by.0 (filter (λ o. not (has_tables o)) objects) kept)))) [
                  | inl given ↦ among_front name (flat_map f own) (flat_map f (objects_as reads taken)) (among_flat f by.0 own name given by.2)
                  | inr of_weak ↦ among_back name (flat_map f own) (flat_map f (objects_as reads taken))
                      (names_more reads f name (filter weak taken) taken (λ m there. (passing weak m taken there).0) (among_flat f by.0 weak_objects name of_weak by.2))
                ])
          ])

      plain_held : (o : Object) → Among o (own ++ weak_objects) → Among o objects
      plain_held o there =
          (passing (λ x. not (has_tables x)) o objects (contains_among o (filter (λ x. not (has_tables x)) objects) ((others o).1 (among_contains o (own ++ weak_objects) there)))).0

      member_object : (f : Object → List (List ℕ)) (name : List ℕ) → NameAs reads f name taken → Among name (flat_map f objects)
      member_object f name by =
          elim (cases_Bool (weak by.member)) [
            | inl is_weak_one ↦
                let x = among_flat_map f name weak_objects (as_name reads f name (filter weak taken) by.member by.object (passes weak by.member taken by.held is_weak_one) by.taken by.among) in
                among_flat f x.0 objects name (plain_held x.0 (among_back x.0 own weak_objects x.1)) x.2
            | inr plain ↦
                let all : Among by.member linked = other_linked by.member (passes (λ y. not (weak y)) by.member taken by.held (not_from_false (weak by.member) plain)) in
                let x = among_flat_map f name (objects_as reads linked) (as_name reads f name linked by.member by.object all by.taken by.among) in
                among_flat f x.0 objects name (passing has_tables x.0 objects (tables_into x.0 x.1)).0 x.2
          ]

      -- and the other way round
      into_objects : (f : Object → List (List ℕ)) (name : List ℕ) → Among name (flat_map f (own ++ objects_as reads taken)) → Among name (flat_map f objects)
      into_objects f name named =
          elim (among_either name (flat_map f own) (flat_map f (objects_as reads taken)) (subst (Among name) (flat_map-append f own (objects_as reads taken)) named)) [
            | inl given ↦
                let by = among_flat_map f name own given in
                among_flat f by.0 objects name (plain_held by.0 (among_front by.0 own weak_objects by.1)) by.2
            | inr member ↦ member_object f name (name_as reads f name taken member)
          ]

      -- no name is left that the archive lists
      pub none_left : TakesIntoAs reads archive own taken → (name : List ℕ) → Contains (unresolved objects) name → Contains (listed_in archive) name → ⊥
      unfolding undefined_in
      none_left takes name left listed =
          let at = first_of name archive (contains_among name (listed_in archive) listed) in
          let named : Among name (unresolved (own ++ objects_as reads taken)) = (grind (arith, unresolved_parts, contains_among, unresolved_from, from_sources, into_objects)) in
          takes.ended name at.0 (record {
            named = among_contains name (unresolved (own ++ objects_as reads taken)) named;
            listed = at.1;
            new = λ has. (unresolved_parts (own ++ objects_as reads taken) name named).1 (subst (Among name) (sym (flat_map-append claimed_names own (objects_as reads taken)))
                (among_back name (flat_map claimed_names own) (flat_map claimed_names (objects_as reads taken))
                (listed_claimed name at.0 (contains_among at.0 taken has) (listed_is archive name at.0 at.1).1)));
          })
