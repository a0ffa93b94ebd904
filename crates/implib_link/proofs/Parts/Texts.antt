-- Where an object's sections of a group are, and what they are filled in with.
use Rattle.std.proofs.Common.{◌≡◌, ℕ, zero, suc, ◌+◌, ◌%◌, true, false, List, [], ◌∷◌, ◌++◌, length, Option, Some, None, refl, ap, sym, ◌∙◌, subst, inl, inr, arith, ◌*◌, ◌-◌, ◌^◌, ◌<◌}
use Rattle.std.specs.Prelude.{◌==◌, ◌||◌, slice_get, ◌&&◌, bytes_eq, drop, nat_lt, take}
use Rattle.std.specs.List.{AllByRecursion, filter_map}
use Rattle.std.specs.Option.{option_and_then, option_map}
use Rattle.std.proofs.lemmas.Bool.{cases_Bool, and_parts, ltb-true}
use Rattle.implib.specs.declared.machine.MachineType.{MachineType}
use Rattle.implib.specs.Formats.Object.{ObjectSection, ASymbol, Auxiliary, Entry, Object, before_nul, section_numbered}
use Rattle.implib.specs.Link.Image.{Contribution, Range, contribution_at, contributions_in, filled, relocated, contributions, range_end, with_address}
use Rattle.implib.specs.Link.Load.{BytesAt, number_in}
use Rattle.implib.specs.Link.Placement.{Bases, Group, Placed, SectionAddress, address_after, alignment, base_of, end_after, group_named, next_multiple, section_address_of, section_addresses_of, Addresses, Descriptors, DirectoryEnds, DllNames, HintNames, Lookups, ends_after, placed_from}
use Rattle.implib.specs.Link.Resolution.{address_at, SymbolDefinition, address_in, address_or_zero, defined_by_entry, is_undefined_external, symbol_address, target_address}
use Rattle.implib.proofs.Link.Linked.{contribution_located, LocatedFrom, same_order}
use Rattle.implib.proofs.Link.Placement.{at_least, length-thunk_of}
use Rattle.implib_link.specs.Flavors.Program.{end_with, sections_end}
use Rattle.implib_link.specs.Parts.{fits_four, is_of, one_of, sections_of, ask_of, bytes_at_symbol, bytes_from, has_none, hint_and_name, holds_texts, is_field, named_bytes_in, null_thunk_of, only_section, ordinal_with, own_bytes, thunk_ask}
use Rattle.implib_link.proofs.Gnu.Packed.{end_of_section, same_base, AreWithin, length-relocated, IsSized}
use Rattle.std.proofs.lemmas.List.{append_assoc, length-replicate}
use Rattle.std.proofs.lemmas.Slice.Eq.{bytes_eq-Decides}
use Rattle.implib.specs.declared.coff.object.Relocation.{Relocation}
use Rattle.implib.specs.Ascii.{holds}
use Rattle.implib.specs.Formats.Bytes.{u16_bytes, u32_bytes}
use Rattle.implib.specs.Formats.Constants.{image_relative}
use Rattle.implib.specs.Formats.File.{is_defined_external}
use Rattle.implib.specs.Formats.Layout.{HasNoNul}
use Rattle.implib.specs.Import.{Ask, Name, Ordinal}
use Rattle.implib.specs.Members.ImportTables.{thunk_width, zeros}
use Rattle.implib.proofs.Link.Ranges.{Among, among_first, among_later, located_parts}
use Rattle.implib.proofs.Link.Thunks.{StrictThunkAt, name_located, ordinal_located, with_address-zeros}
use Rattle.implib_link.proofs.Gnu.Loaded.{plus_none}

-- a multiple of 4 is one of 1, 2 and 4
pub stays : (step n : ℕ) → (((step == 1) || ((step == 2) || (step == 4))) ≡ true) → n % 4 ≡ 0 → next_multiple step n ≡ n
unfolding next_multiple
stays step n one even = grind arith

-- One section.

pub contribution_none : (group : Group) (b : Bases) (flags : ℕ) (named : Option Group) (bytes : List ℕ) → is_of group named ≡ false → contribution_at group (address_after b flags named) bytes ≡ []
contribution_none group b flags named bytes is = grind arith

pub end_none : (group : Group) (n : ℕ) (s : ObjectSection) (named : Option Group) → is_of group named ≡ false → end_with group n s named ≡ n
end_none group n s named is = grind arith

pub contribution_one : (group : Group) (b : Bases) (flags : ℕ) (named : Option Group) (bytes : List ℕ) → is_of group named ≡ true →
    contribution_at group (address_after b flags named) bytes ≡ record { address = next_multiple (alignment flags) (base_of group b); bytes = bytes } ∷ []
contribution_one group b flags named bytes is = grind (arith, same_base)

pub end_one : (group : Group) (n : ℕ) (s : ObjectSection) (named : Option Group) → is_of group named ≡ true → end_with group n s named ≡ next_multiple (alignment s.flags) n + length s.bytes
end_one group n s named is = grind arith

pub address_one : (group : Group) (b : Bases) (flags : ℕ) (named : Option Group) (value : ℕ) → is_of group named ≡ true →
    address_at (address_after b flags named) value ≡ Some (next_multiple (alignment flags) (base_of group b) + value)
address_one group b flags named value is = grind (arith, same_base)

-- what one_of gives
pub one_is : (xs : List ObjectSection) (s : ObjectSection) → one_of xs ≡ Some s → (xs ≡ s ∷ []) × (fits_four s ≡ true)
one_is xs s is = grind arith

-- Objects without sections of a group, and with one.

module _ (machine : MachineType) (linked : List Placed) (p : Placed) (group : Group) where
  abbrev filled_in : Bases → List ObjectSection → List Contribution
  filled_in b sections = contributions_in machine linked p group (section_addresses_of b sections) sections

  abbrev next : Bases → ObjectSection → Bases
  next b s = end_after b (section_address_of b s) (length s.bytes)

  none_placed : (sections : List ObjectSection) (b : Bases) → sections_of group sections ≡ [] → filled_in b sections ≡ []
  none_placed [] b none = refl
  none_placed (x ∷ sections) b none = grind (arith, none_placed sections (next b x))

  same_end : (b : Bases) (x : ObjectSection) → is_of group (group_named x.name) ≡ false → base_of group (next b x) ≡ base_of group b
  same_end b x is = end_of_section group b x (group_named x.name) ∙ end_none group (base_of group b) x (group_named x.name) is

  -- the only section is placed at the base
  pub one_placed : (sections : List ObjectSection) (b : Bases) (s : ObjectSection) → sections_of group sections ≡ s ∷ [] → fits_four s ≡ true → base_of group b % 4 ≡ 0 →
      contributions_in machine linked p group (section_addresses_of b sections) sections ≡ record { address = base_of group b; bytes = relocated machine linked p s.relocations s.bytes } ∷ []
  one_placed [] b s is fits even = cc
  one_placed (x ∷ sections) b s is fits even =
      elim (cases_Bool (is_of group (group_named x.name))) [
        | inl own ↦ grind (arith, contribution_one, stays, none_placed)
        | inr other ↦
            ap (λ front. front ++ filled_in (next b x) sections) (contribution_none group b x.flags (group_named x.name) (relocated machine linked p x.relocations x.bytes) other)
            ∙ one_placed sections (next b x) s (rw other at is) fits (ap (λ n. n % 4) (same_end b x other) ∙ even)
            ∙ ap (λ n. record { address = n; bytes = relocated machine linked p s.relocations s.bytes } ∷ []) (same_end b x other)
      ]

  -- a section of a number, wherever it is
  pub nth_placed : (image : List Range) (sections : List ObjectSection) (b : Bases) (k : ℕ) (x : ObjectSection) (behind : List Contribution) →
      AllByRecursion (λ (s : ObjectSection). AreWithin (length s.bytes) s.relocations) sections → slice_get sections k ≡ Some x → is_of group (group_named x.name) ≡ true →
      BytesAt image (base_of group b) (filled (base_of group b) (contributions_in machine linked p group (section_addresses_of b sections) sections ++ behind)) →
      (a : ℕ) × (((value : ℕ) → option_and_then (λ (c : SectionAddress). address_at c value) (slice_get (section_addresses_of b sections) k) ≡ Some (a + value))
      × BytesAt image a (relocated machine linked p x.relocations x.bytes))
  nth_placed image [] b k x behind sized is own located = cc
  nth_placed image (s ∷ sections) b zero x behind sized is own located =
      let same : s ≡ x = cc in
      let here : is_of group (group_named s.name) ≡ true = subst (λ (y : ObjectSection). is_of group (group_named y.name) ≡ true) (sym same) own in
      let bytes : List ℕ = relocated machine linked p s.relocations s.bytes in
      let a : ℕ = next_multiple (alignment s.flags) (base_of group b) in
      let parts = contribution_located image (base_of group b) (record { address = a; bytes = bytes }) (filled_in (next b s) sections ++ behind) (at_least (alignment s.flags) (base_of group b))
      (subst (λ front. BytesAt image (base_of group b) (filled (base_of group b) ((front ++ filled_in (next b s) sections) ++ behind)))
      (contribution_one group b s.flags (group_named s.name) bytes here) located) in
      (a, (λ value. address_one group b s.flags (group_named s.name) value here, subst (λ (y : ObjectSection). BytesAt image a (relocated machine linked p y.relocations y.bytes)) same parts.0))
  nth_placed image (s ∷ sections) b (suc k) x behind sized is own located =
      let bytes : List ℕ = relocated machine linked p s.relocations s.bytes in
      let others : List Contribution = filled_in (next b s) sections ++ behind in
      nth_placed image sections (next b s) k x behind sized.1 is own
      (elim (cases_Bool (is_of group (group_named s.name))) as (λ _. BytesAt image (base_of group (next b s)) (filled (base_of group (next b s)) (filled_in (next b s) sections ++ behind))) [
        | inl here ↦
            let a : ℕ = next_multiple (alignment s.flags) (base_of group b) in
            let parts = contribution_located image (base_of group b) (record { address = a; bytes = bytes }) others (at_least (alignment s.flags) (base_of group b))
            (subst (λ front. BytesAt image (base_of group b) (filled (base_of group b) ((front ++ filled_in (next b s) sections) ++ behind)))
            (contribution_one group b s.flags (group_named s.name) bytes here) located) in
            let end : a + length bytes ≡ base_of group (next b s) = grind (arith, length-relocated, end_of_section, end_one) in
            subst (λ n. BytesAt image n (filled n others)) end parts.1
        | inr other ↦ grind (arith, contribution_none, same_end)
      ])

-- Ends, and addresses of symbols.

pub none_ends : (group : Group) (sections : List ObjectSection) (n : ℕ) → sections_of group sections ≡ [] → sections_end group n sections ≡ n
unfolding sections_end
none_ends group [] n none = refl
none_ends group (x ∷ sections) n none = grind (arith, none_ends group sections n)

pub one_ends : (group : Group) (sections : List ObjectSection) (n : ℕ) (s : ObjectSection) → sections_of group sections ≡ s ∷ [] → fits_four s ≡ true → n % 4 ≡ 0 →
    sections_end group n sections ≡ n + length s.bytes
unfolding sections_end
one_ends group [] n s is fits even = cc
one_ends group (x ∷ sections) n s is fits even = grind (arith, one_ends group sections n s, end_one, stays, none_ends, end_none)

pub one_address : (group : Group) (sections : List ObjectSection) (b : Bases) (s : ObjectSection) (k : ℕ) (x : ObjectSection) (value : ℕ) → sections_of group sections ≡ s ∷ [] → fits_four s ≡ true →
    base_of group b % 4 ≡ 0 → slice_get sections k ≡ Some x → is_of group (group_named x.name) ≡ true →
    option_and_then (λ (c : SectionAddress). address_at c value) (slice_get (section_addresses_of b sections) k) ≡ Some (base_of group b + value)
one_address group [] b s k x value is fits even at own = cc
one_address group (y ∷ sections) b s zero x value is fits even at own = grind (arith, address_one, stays)
one_address group (y ∷ sections) b s (suc k) x value is fits even at own =
    elim (cases_Bool (is_of group (group_named y.name))) [
      | inl here ↦ grind (arith, nowhere)
      | inr other ↦
          let same : base_of group (end_after b (section_address_of b y) (length y.bytes)) ≡ base_of group b = grind (arith, end_of_section, end_none) in
          one_address group sections (end_after b (section_address_of b y) (length y.bytes)) s k x value (rw other at is) fits (ap (λ n. n % 4) same ∙ even) at own
          ∙ ap (λ n. Some (n + value)) same
    ]
  where
    nowhere : (rest : List ObjectSection) (i : ℕ) → sections_of group rest ≡ [] → slice_get rest i ≡ Some x → ⊥
    nowhere [] i none is = cc
    nowhere (z ∷ rest) zero none is =
        let same : z ≡ x = cc in
        let here : is_of group (group_named z.name) ≡ true = subst (λ (z : ObjectSection). is_of group (group_named z.name) ≡ true) (sym same) own in
        let some : z ∷ sections_of group rest ≡ [] = rw here at none in cc
    nowhere (z ∷ rest) (suc i) none is =
        elim (cases_Bool (is_of group (group_named z.name))) [
          | inl here ↦ let some : z ∷ sections_of group rest ≡ [] = rw here at none in cc
          | inr other ↦ nowhere rest i (rw other at none) is
        ]

-- What an object's symbols lead to in an image, and what its thunks ask for there.

-- The groups whose bytes are located.

abbrev pub IsCarried : Group → Type 0
IsCarried Descriptors = Unit {0}
IsCarried DirectoryEnds = ⊥
IsCarried Lookups = Unit {0}
IsCarried Addresses = Unit {0}
IsCarried HintNames = Unit {0}
IsCarried DllNames = Unit {0}

texts_group : (named : Option Group) → holds_texts named ≡ true → (group : Group) × (IsCarried group × (is_of group named ≡ true))
texts_group named is = grind arith

pub carried : (machine : MachineType) (linked : List Placed) (image : List Range) (b : Bases) (objects : List Object) (group : Group) → IsCarried group → LocatedFrom machine linked image b objects →
    BytesAt image (base_of group b) (filled (base_of group b) (contributions machine linked group (placed_from b objects)))
carried machine linked image b objects group is located = grind arith

-- Bytes.

drop_located : (image : List Range) (n : ℕ) (bytes : List ℕ) (a : ℕ) → BytesAt image a bytes → BytesAt image (a + n) (drop n bytes)
unfolding BytesAt
drop_located image zero bytes a located = subst (λ m. BytesAt image m bytes) (omega arith) located
drop_located image (suc n) [] a located = tt
drop_located image (suc n) (x ∷ bytes) a located = grind (arith, drop_located image n bytes (a + 1) located.1)

pub ended_is : (bytes text : List ℕ) → before_nul bytes ≡ Some text → (rest : List ℕ) × ((bytes ≡ text ++ 0 ∷ rest) × HasNoNul text)
unfolding before_nul
ended_is [] text is = cc
ended_is (zero ∷ bytes) text is = let same : [] ≡ text = cc in (bytes, (ap (λ t. t ++ 0 ∷ bytes) same, ap (holds 0) (sym same)))
ended_is (suc n ∷ bytes) text is = grind (arith, ended_is bytes)

pub field_is : (machine : MachineType) (offset : ℕ) (r : Relocation) → is_field machine offset r ≡ true → ((r.kind == image_relative machine) ≡ true) × (r.offset ≡ offset)
field_is machine offset r is = grind arith

-- Sections of an object that is placed first from bases on.
module _ (machine : MachineType) (linked : List Placed) (image : List Range) (starts : AllByRecursion (λ r. 0 < r.start) image) (ends : AllByRecursion (λ r. range_end r < 2 ^ 31) image)
    (o : Object) (b : Bases) (rest : List Object) (sized : IsSized o) (located : LocatedFrom machine linked image b (o ∷ rest)) where
  abbrev p : Placed
  p = record { object = o; section_addresses = section_addresses_of b o.sections }

  -- the bytes that a symbol of its own leads to
  plain_bytes : (x : ObjectSection) (relocations : List Relocation) (value : ℕ) (bytes : List ℕ) → bytes_from x relocations value ≡ Some bytes →
      (relocations ≡ []) × ((holds_texts (group_named x.name) ≡ true) × (drop value x.bytes ≡ bytes))
  plain_bytes x relocations value bytes is = grind arith

  in_section : (k value : ℕ) (bytes : List ℕ) (found : Option ObjectSection) → slice_get o.sections k ≡ found → option_and_then (λ (x : ObjectSection). bytes_from x x.relocations value) found ≡ Some bytes →
      (a : ℕ) × ((address_in (section_addresses_of b o.sections) (suc k) value ≡ Some a) × BytesAt image a bytes)
  in_section k value bytes None at is = cc
  in_section k value bytes (Some x) at is =
      let plain = plain_bytes x x.relocations value bytes is in
      let group = texts_group (group_named x.name) plain.1.0 in
      let nth = nth_placed machine linked p group.0 image o.sections b k x (contributions machine linked group.0 (placed_from (ends_after b o.sections) rest)) sized at group.1.1
      (carried machine linked image b (o ∷ rest) group.0 group.1.0 located) in
      let whole : BytesAt image nth.0 x.bytes = subst (λ rs. BytesAt image nth.0 (relocated machine linked p rs x.bytes)) plain.0 nth.1.1 in
      (nth.0 + value, (nth.1.0 value, subst (BytesAt image (nth.0 + value)) plain.1.1 (drop_located image value x.bytes nth.0 whole)))

  in_numbered : (number value : ℕ) (bytes : List ℕ) → option_and_then (λ (x : ObjectSection). bytes_from x x.relocations value) (section_numbered o.sections number) ≡ Some bytes →
      (a : ℕ) × ((address_in (section_addresses_of b o.sections) number value ≡ Some a) × BytesAt image a bytes)
  in_numbered number value bytes is = grind (arith, in_section)

  own_located : (found : Option Entry) (bytes : List ℕ) → own_bytes o found ≡ Some bytes → (a : ℕ) × ((option_and_then (symbol_address linked p) found ≡ Some a) × BytesAt image a bytes)
  own_located (Some (ASymbol s)) bytes is =
      elim (cases_Bool (is_undefined_external s)) [
        | inl left ↦ let none : None ≡ Some bytes = rw left at is in cc
        | inr own ↦ grind (arith, in_numbered s.section s.value bytes (rw own at is))
      ]
  own_located found bytes is = cc

  -- those at a symbol that it defines for others
  pub named_located : (name : List ℕ) (entries : List Entry) (bytes : List ℕ) → named_bytes_in o name entries ≡ Some bytes →
      (a : ℕ) × (Among (record { name = name; address = Some a }) (filter_map (defined_by_entry (section_addresses_of b o.sections)) entries) × BytesAt image a bytes)
  named_located name [] bytes is = cc
  named_located name (Auxiliary other ∷ entries) bytes is = named_located name entries bytes is
  named_located name (ASymbol s ∷ entries) bytes is =
      let addresses = section_addresses_of b o.sections in
      elim (cases_Bool (is_defined_external s && bytes_eq name s.name)) [
        | inl both ↦
            let parts = and_parts (is_defined_external s) (bytes_eq name s.name) both in
            let here : bytes_at_symbol o s ≡ Some bytes = rw both at is in
            let found = in_numbered s.section s.value bytes here in
            let same : name ≡ s.name = (bytes_eq-Decides name s.name).0 parts.1 in
            let definition : record { name = s.name; address = address_in addresses s.section s.value } ≡ record { name = name; address = Some found.0 } = grind arith in
            let first : Among (record { name = s.name; address = address_in addresses s.section s.value }) (filter_map (defined_by_entry addresses) (ASymbol s ∷ entries)) = rw parts.0 (among_first _ _) in
            (found.0, (subst (λ (d : SymbolDefinition). Among d (filter_map (defined_by_entry addresses) (ASymbol s ∷ entries))) definition first, found.1.1))
        | inr other ↦ grind (arith, named_located name entries bytes (rw other at is), among_later)
      ]

  -- its only section of a group
  pub only_located : (group : Group) (s : ObjectSection) → IsCarried group → only_section group o ≡ Some s → base_of group b % 4 ≡ 0 →
      BytesAt image (base_of group b) (relocated machine linked p s.relocations s.bytes) × (sections_end group (base_of group b) o.sections ≡ base_of group b + length s.bytes)
  only_located group s is_carried is even =
      let one = one_is (sections_of group o.sections) s is in
      let bytes : List ℕ = relocated machine linked p s.relocations s.bytes in
      let later : List Contribution = contributions machine linked group (placed_from (ends_after b o.sections) rest) in
      let here : BytesAt image (base_of group b) (filled (base_of group b) (record { address = base_of group b; bytes = bytes } ∷ later)) = grind (arith, one_placed machine linked p group o.sections b s one.0 one.1 even, carried machine linked image b (o ∷ rest) group is_carried located) in
      ((contribution_located image (base_of group b) (record { address = base_of group b; bytes = bytes }) later (same_order (base_of group b)) here).0, one_ends group o.sections (base_of group b) s one.0 one.1 even)

  -- Thunks.

  hint_located : (bytes : List ℕ) (ask : Ask) (place a : ℕ) → hint_and_name bytes ≡ Some ask → BytesAt image place bytes →
      BytesAt image a (u32_bytes ((0 + (place + 0)) % 2 ^ 32) ++ zeros (thunk_width machine - 4)) → StrictThunkAt image (thunk_width machine) a ask
  unfolding u16_bytes
  hint_located [] ask place a is held here = cc
  hint_located (low ∷ []) ask place a is held here = cc
  hint_located (low ∷ high ∷ bytes) ask place a is held here =
      elim (cases_Bool (nat_lt low 256 && nat_lt high 256)) [
        | inl both ↦ grind (arith, and_parts, named, ltb-true)
        | inr other ↦ let none : None ≡ Some ask = rw other at is in cc
      ]
    where
      named : low < 256 → high < 256 → (found : Option (List ℕ)) → before_nul bytes ≡ found → option_map (λ text. Name text (low + 256 * high)) found ≡ Some ask → StrictThunkAt image (thunk_width machine) a ask
      named small below None at is = cc
      named small below (Some text) at is =
          let ended = ended_is bytes text at in
          let hint : List ℕ = u16_bytes (low + 256 * high) in
          let whole : low ∷ high ∷ bytes ≡ (hint ++ (text ++ 0 ∷ [])) ++ ended.0 = grind (arith, append_assoc) in
          let front = located_parts image (hint ++ (text ++ 0 ∷ [])) ended.0 place (subst (BytesAt image place) whole held) in
          let same : Name text (low + 256 * high) ≡ ask = cc in
          subst (StrictThunkAt image (thunk_width machine) a) same
          (name_located machine image starts ends text (low + 256 * high) place a (omega arith) ended.1.1 here front.0)

  asked : (a : ℕ) (bytes : List ℕ) (relocations : List Relocation) (ask : Ask) → ask_of machine o bytes relocations ≡ Some ask → BytesAt image a (relocated machine linked p relocations bytes) →
      StrictThunkAt image (thunk_width machine) a ask × (length bytes ≡ thunk_width machine)
  asked a bytes [] ask is held = ordinal (number_in (take 2 bytes)) is
    where
      ordinal : (n : ℕ) → ordinal_with machine bytes n ≡ Some ask → StrictThunkAt image (thunk_width machine) a ask × (length bytes ≡ thunk_width machine)
      ordinal n is =
          let plain : List ℕ = u16_bytes n ++ (zeros (thunk_width machine - 3) ++ 0x80 ∷ []) in
          elim (cases_Bool (bytes_eq bytes plain && nat_lt n (2 ^ 16))) [
            | inl both ↦
                let parts = and_parts (bytes_eq bytes plain) (nat_lt n (2 ^ 16)) both in
                let same : bytes ≡ plain = (bytes_eq-Decides bytes plain).0 parts.0 in
                let found : Some (Ordinal n) ≡ Some ask = rw both at is in
                let asks : Ordinal n ≡ ask = cc in (
                  subst (StrictThunkAt image (thunk_width machine) a) asks (ordinal_located machine image n a (ltb-true n (2 ^ 16) parts.1) (subst (BytesAt image a) same held)),
                  ap length same ∙ length-thunk_of machine n true,
                )
            | inr other ↦ let none : None ≡ Some ask = rw other at is in cc
          ]
  asked a bytes (r ∷ []) ask is held =
      elim (cases_Bool (is_field machine 0 r && bytes_eq bytes (zeros (thunk_width machine)))) [
        | inl both ↦ grind (arith, and_parts, field_is, bytes_eq-Decides, led, length-replicate)
        | inr other ↦ let none : None ≡ Some ask = rw other at is in cc
      ]
    where
      led : (found : Option (List ℕ)) → own_bytes o (slice_get o.entries r.symbol) ≡ found → option_and_then hint_and_name found ≡ Some ask →
          BytesAt image a (with_address (zeros (thunk_width machine)) 0 (target_address linked p r.symbol)) → StrictThunkAt image (thunk_width machine) a ask
      led None at is here = cc
      led (Some text) at is here =
          let own = own_located (slice_get o.entries r.symbol) text at in
          let target : target_address linked p r.symbol ≡ own.0 + 0 = ap address_or_zero own.1.0 ∙ sym (plus_none own.0) in
          hint_located text ask own.0 a is own.1.1
          (subst (BytesAt image a) (ap (with_address (zeros (thunk_width machine)) 0) target ∙ with_address-zeros machine (own.0 + 0)) here)
  asked a bytes (r ∷ q ∷ relocations) ask is held = cc

  -- an entry's thunk in a table
  pub thunk_located : (group : Group) (ask : Ask) → IsCarried group → base_of group b % 4 ≡ 0 → thunk_ask machine group o ≡ Some ask →
      StrictThunkAt image (thunk_width machine) (base_of group b) ask × (sections_end group (base_of group b) o.sections ≡ base_of group b + thunk_width machine)
  thunk_located group ask is_carried even is = go (only_section group o) refl is
    where
      go : (found : Option ObjectSection) → only_section group o ≡ found → option_and_then (λ (s : ObjectSection). ask_of machine o s.bytes s.relocations) found ≡ Some ask →
          StrictThunkAt image (thunk_width machine) (base_of group b) ask × (sections_end group (base_of group b) o.sections ≡ base_of group b + thunk_width machine)
      go None at is = cc
      go (Some s) at is =
          let only = only_located group s is_carried at even in
          let thunk = asked (base_of group b) s.bytes s.relocations ask is only.0 in
          (thunk.0, only.1 ∙ ap (λ n. base_of group b + n) thunk.1)

  none_left : (relocations : List Relocation) → has_none relocations ≡ true → relocations ≡ []
  none_left relocations is = grind arith

  -- the tail's
  pub null_located : (group : Group) → IsCarried group → base_of group b % 4 ≡ 0 → null_thunk_of machine (only_section group o) ≡ true →
      BytesAt image (base_of group b) (zeros (thunk_width machine)) × (sections_end group (base_of group b) o.sections ≡ base_of group b + thunk_width machine)
  null_located group is_carried even is = go (only_section group o) refl is
    where
      go : (found : Option ObjectSection) → only_section group o ≡ found → null_thunk_of machine found ≡ true →
          BytesAt image (base_of group b) (zeros (thunk_width machine)) × (sections_end group (base_of group b) o.sections ≡ base_of group b + thunk_width machine)
      go None at is = cc
      go (Some s) at is =
          let parts = and_parts (bytes_eq s.bytes (zeros (thunk_width machine))) (has_none s.relocations) is in
          let same : s.bytes ≡ zeros (thunk_width machine) = (bytes_eq-Decides s.bytes (zeros (thunk_width machine))).0 parts.0 in
          let only = only_located group s is_carried at even in
          let plain : BytesAt image (base_of group b) s.bytes = subst (λ rs. BytesAt image (base_of group b) (relocated machine linked p rs s.bytes)) (none_left s.relocations parts.1) only.0 in
          (subst (BytesAt image (base_of group b)) same plain, only.1 ∙ ap (λ n. base_of group b + n) (ap length same ∙ length-replicate {A = ℕ} (thunk_width machine) 0))
