-- Where a linker places what it takes Microsoft's members for, and what is there.
use Rattle.std.proofs.Common.{◌≡◌, ℕ, ◌+◌, ◌-◌, ◌%◌, ◌<◌, ◌^◌, true, List, [], ◌∷◌, ◌++◌, length, refl, ap, arith, subst}
use Rattle.std.specs.List.{AllByRecursion}
use Rattle.std.proofs.lemmas.List.{length-replicate}
use Rattle.implib.specs.declared.machine.MachineType.{MachineType}
use Rattle.implib.specs.Formats.Bytes.{u16_bytes, u32_bytes}
use Rattle.implib.specs.Link.Image.{Contribution, Range, contributions, filled, range_end, relocated, with_address}
use Rattle.implib.specs.Import.{Ask, Name, Ordinal}
use Rattle.implib.specs.Members.ImportTables.{relocation, thunk_width, zeros}
use Rattle.implib.specs.Formats.Layout.{HasNoNul, entries_of, name_text, object_of}
use Rattle.implib.specs.Link.Load.{BytesAt}
use Rattle.implib.specs.Members.MsvcObjects.{descriptor, null_descriptor, null_thunk}
use Rattle.implib.specs.Formats.Object.{Object, u32_at}
use Rattle.implib.specs.Link.Placement.{Addresses, At, Bases, Descriptors, HintNames, Lookups, Placed, SectionAddress, Unplaced, next_multiple, placed_from}
use Rattle.implib.proofs.Link.Linked.{contribution_located, same_order}
use Rattle.implib.proofs.Link.Placement.{AreAligned, aligned, at_least, length-thunk_of}
use Rattle.implib.proofs.Link.Thunks.{StrictThunkAt, length-address, name_located, ordinal_located, same_number, with_address-zeros}
use Rattle.implib_link.specs.Flavors.Expansion.{Use, import_object, hint_and_name, relocations_asking, thunk_asking, with_section_symbols}
use Rattle.implib.specs.LibraryName.{NamesOfDll}
use Rattle.implib_link.proofs.Gnu.Loaded.{plus_none, by_width}
use Rattle.implib_link.proofs.Gnu.Filling.{LocatedBeside}

-- the ends of the directory and of the tables, these at multiples of a thunk's width
pub record AreWide (machine : MachineType) (b : Bases) : Type 0 where
  pub descriptors : b.descriptors % 4 ≡ 0
  pub lookups : b.lookups % thunk_width machine ≡ 0
  pub addresses : b.addresses % thunk_width machine ≡ 0

pub of_four : (machine : MachineType) (n : ℕ) → n % thunk_width machine ≡ 0 → n % 4 ≡ 0
of_four machine n even = by_width (λ w. n % w ≡ 0 → n % 4 ≡ 0) (λ e. e) (λ e. omega arith) machine even

aligned_8 : (n : ℕ) → n % 8 ≡ 0 → next_multiple 8 n ≡ n
unfolding next_multiple
aligned_8 n even = rw even (omega arith)

pub wide_next : (machine : MachineType) (n : ℕ) → n % thunk_width machine ≡ 0 → (n + thunk_width machine) % thunk_width machine ≡ 0
wide_next machine n even = by_width (λ w. n % w ≡ 0 → (n + w) % w ≡ 0) (λ e. omega arith) (λ e. omega arith) machine even

pub wide_aligned : (machine : MachineType) (b : Bases) → AreWide machine b → AreAligned b
wide_aligned machine b even = record { descriptors = even.descriptors; lookups = of_four machine b.lookups even.lookups; addresses = of_four machine b.addresses even.addresses }

-- The objects.

abbrev pub taken_descriptor : MachineType → NamesOfDll → Object
taken_descriptor machine dll = with_section_symbols (object_of (descriptor machine dll))

abbrev pub taken_null_thunk : MachineType → NamesOfDll → Object
taken_null_thunk machine dll = with_section_symbols (object_of (null_thunk machine dll.linked))

abbrev pub taken_null : MachineType → Object
taken_null machine = with_section_symbols (object_of (null_descriptor machine))

-- Their positions.

abbrev pub placed_descriptor : MachineType → NamesOfDll → Bases → Placed
placed_descriptor machine dll b = record {
  object = taken_descriptor machine dll;
  section_addresses = At Descriptors b.descriptors ∷ At HintNames (next_multiple 2 b.hint_names) ∷ At Lookups b.lookups ∷ At Addresses b.addresses ∷ [];
}

abbrev pub ends_of_descriptor : NamesOfDll → Bases → Bases
ends_of_descriptor dll b = record b { descriptors = b.descriptors + 20; hint_names = next_multiple 2 b.hint_names + length (dll.text ++ 0 ∷ []) }

abbrev hint_places : Bases → Ask → List SectionAddress
hint_places b (Ordinal n) = []
hint_places b (Name text hint) = At HintNames (next_multiple 2 b.hint_names) ∷ []

abbrev pub hint_end : Bases → Ask → ℕ
hint_end b (Ordinal n) = b.hint_names
hint_end b (Name text hint) = next_multiple 2 b.hint_names + length (hint_and_name text hint)

abbrev pub placed_asking : MachineType → NamesOfDll → Bases → List ℕ → Ask → Use → Placed
placed_asking machine dll b symbol ask use_kind = record {
  object = import_object machine dll.text symbol ask use_kind;
  section_addresses = Unplaced ∷ At Addresses b.addresses ∷ At Lookups b.lookups ∷ hint_places b ask;
}

abbrev pub ends_of_asking : MachineType → Bases → Ask → Bases
ends_of_asking machine b ask = record {
  descriptors = b.descriptors;
  directory_ends = b.directory_ends;
  lookups = b.lookups + thunk_width machine;
  addresses = b.addresses + thunk_width machine;
  hint_names = hint_end b ask;
  dll_names = b.dll_names;
}

abbrev pub placed_null_thunk : MachineType → NamesOfDll → Bases → Placed
placed_null_thunk machine dll b = record {
  object = taken_null_thunk machine dll;
  section_addresses = At Addresses b.addresses ∷ At Lookups b.lookups ∷ [];
}

abbrev pub ends_of_null_thunk : MachineType → Bases → Bases
ends_of_null_thunk machine b = record b { lookups = b.lookups + thunk_width machine; addresses = b.addresses + thunk_width machine }

pub placed-descriptor : (machine : MachineType) (dll : NamesOfDll) (b : Bases) (rest : List Object) → AreWide machine b →
    placed_from b (taken_descriptor machine dll ∷ rest) ≡ placed_descriptor machine dll b ∷ placed_from (ends_of_descriptor dll b) rest
unfolding with_section_symbols object_of descriptor entries_of name_text
placed-descriptor machine dll b rest even = grind (arith, aligned, of_four, plus_none)

pub placed-asking : (machine : MachineType) (dll : NamesOfDll) (b : Bases) (symbol : List ℕ) (ask : Ask) (use_kind : Use) (rest : List Object) → AreWide machine b →
    placed_from b (import_object machine dll.text symbol ask use_kind ∷ rest) ≡ placed_asking machine dll b symbol ask use_kind ∷ placed_from (ends_of_asking machine b ask) rest
unfolding import_object u16_bytes
placed-asking machine dll b symbol ask use_kind rest even = grind (arith, aligned, aligned_8)

pub placed-null_thunk : (machine : MachineType) (dll : NamesOfDll) (b : Bases) (rest : List Object) → AreWide machine b →
    placed_from b (taken_null_thunk machine dll ∷ rest) ≡ placed_null_thunk machine dll b ∷ placed_from (ends_of_null_thunk machine b) rest
unfolding with_section_symbols object_of null_thunk entries_of name_text
placed-null_thunk machine dll b rest even = grind (arith, aligned, aligned_8)

pub wide_descriptor : (machine : MachineType) (dll : NamesOfDll) (b : Bases) → AreWide machine b → AreWide machine (ends_of_descriptor dll b)
wide_descriptor machine dll b even = grind arith

pub wide_asking : (machine : MachineType) (b : Bases) (ask : Ask) → AreWide machine b → AreWide machine (ends_of_asking machine b ask)
wide_asking machine b ask even = grind arith

pub wide_null_thunk : (machine : MachineType) (b : Bases) → AreWide machine b → AreWide machine (ends_of_null_thunk machine b)
wide_null_thunk machine b even = grind arith

-- What is at these positions.

-- what ranges have of the address tables of objects
abbrev pub TableFrom : MachineType → List Placed → List Range → Bases → List Object → Type 0
TableFrom machine linked image b objects = BytesAt image b.addresses (filled b.addresses (contributions machine linked Addresses (placed_from b objects)))

-- a contribution without a gap before it, and what follows
pub step : (image : List Range) (a : ℕ) (bytes : List ℕ) (others : List Contribution) (n : ℕ) → length bytes ≡ n →
    BytesAt image a (filled a (record { address = a; bytes = bytes } ∷ others)) → BytesAt image a bytes × BytesAt image (a + n) (filled (a + n) others)
step image a bytes others n long located =
    let parts = contribution_located image a (record { address = a; bytes = bytes }) others (same_order a) located in
    (parts.0, subst (λ m. BytesAt image (a + m) (filled (a + m) others)) long parts.1)

-- what asks by its thunks
unfoldable pub AskFits : Ask → Type 0
AskFits (Ordinal n) = n < 2 ^ 16
AskFits (Name text hint) = (hint < 2 ^ 16) × HasNoNul text

module _ (machine : MachineType) (dll : NamesOfDll) (linked : List Placed) where
  unfoldable pub thunk_linked : Bases → List ℕ → Ask → Use → List ℕ
  thunk_linked b symbol ask use_kind =
      relocated machine linked (placed_asking machine dll b symbol ask use_kind) (relocations_asking machine ask) (thunk_asking machine ask)

  pub thunk_of_name : (b : Bases) (symbol text : List ℕ) (hint : ℕ) (use_kind : Use) →
      thunk_linked b symbol (Name text hint) use_kind ≡ u32_bytes ((0 + (next_multiple 2 b.hint_names + 0)) % 2 ^ 32) ++ zeros (thunk_width machine - 4)
  unfolding thunk_linked import_object
  thunk_of_name b symbol text hint use_kind = grind (arith, same_number, with_address-zeros)

  pub length-thunk_linked : (b : Bases) (symbol : List ℕ) (ask : Ask) (use_kind : Use) → length (thunk_linked b symbol ask use_kind) ≡ thunk_width machine
  unfolding thunk_linked
  length-thunk_linked b symbol (Ordinal n) use_kind = length-thunk_of machine n true
  length-thunk_linked b symbol (Name text hint) use_kind = grind (arith, thunk_of_name b symbol text hint use_kind, length-address machine ((0 + (next_multiple 2 b.hint_names + 0)) % 2 ^ 32))

  unfoldable pub descriptor_linked : Bases → List ℕ
  descriptor_linked b = relocated machine linked (placed_descriptor machine dll b) (relocation machine 12 2 ∷ relocation machine 0 3 ∷ relocation machine 16 4 ∷ []) (zeros 20)

  pub descriptor_is : (b : Bases) →
      descriptor_linked b ≡ u32_bytes ((0 + (b.lookups + 0)) % 2 ^ 32)
      ++ (zeros 4 ++ (zeros 4 ++ (u32_bytes ((0 + (next_multiple 2 b.hint_names + 0)) % 2 ^ 32) ++ u32_bytes ((0 + (b.addresses + 0)) % 2 ^ 32))))
  unfolding descriptor_linked with_section_symbols object_of descriptor entries_of name_text with_address u32_bytes u32_at
  descriptor_is b = rw (same_number machine) refl

  -- in ranges that have the objects, but their address tables, and what of these follows
  module _ (image : List Range) (starts : AllByRecursion (λ r. 0 < r.start) image) (ends : AllByRecursion (λ r. range_end r < 2 ^ 31) image) where
    -- the descriptor and the DLL's name, and what follows
    pub record DescriptorStands (b : Bases) (rest : List Object) : Type 0 where
      pub bytes : BytesAt image b.descriptors (u32_bytes ((0 + (b.lookups + 0)) % 2 ^ 32)
          ++ (zeros 4 ++ (zeros 4 ++ (u32_bytes ((0 + (next_multiple 2 b.hint_names + 0)) % 2 ^ 32) ++ u32_bytes ((0 + (b.addresses + 0)) % 2 ^ 32)))))
      pub name : BytesAt image (next_multiple 2 b.hint_names) (dll.text ++ 0 ∷ [])
      pub behind : LocatedBeside machine linked image (ends_of_descriptor dll b) rest
      pub table : TableFrom machine linked image b (taken_descriptor machine dll ∷ rest) → TableFrom machine linked image (ends_of_descriptor dll b) rest

    pub descriptor_stands : (b : Bases) (rest : List Object) → AreWide machine b → LocatedBeside machine linked image b (taken_descriptor machine dll ∷ rest) → DescriptorStands b rest
    unfolding with_section_symbols object_of descriptor entries_of name_text descriptor_linked u32_bytes
    descriptor_stands b rest even located =
        let later : Bases = ends_of_descriptor dll b in
        let placed_is : placed_from b (taken_descriptor machine dll ∷ rest) ≡ placed_descriptor machine dll b ∷ placed_from later rest = placed-descriptor machine dll b rest even in
        let descriptors = step image b.descriptors (descriptor_linked b) (contributions machine linked Descriptors (placed_from later rest)) 20 (ap length (descriptor_is b))
        (subst (λ ps. BytesAt image b.descriptors (filled b.descriptors (contributions machine linked Descriptors ps))) placed_is located.descriptors) in
        let lookups = step image b.lookups [] (contributions machine linked Lookups (placed_from later rest)) 0 refl
        (subst (λ ps. BytesAt image b.lookups (filled b.lookups (contributions machine linked Lookups ps))) placed_is located.lookups) in
        let names = contribution_located image b.hint_names (record { address = next_multiple 2 b.hint_names; bytes = dll.text ++ 0 ∷ [] }) (contributions machine linked HintNames (placed_from later rest))
        (at_least 2 b.hint_names)
        (subst (λ ps. BytesAt image b.hint_names (filled b.hint_names (contributions machine linked HintNames ps))) placed_is located.hint_names) in
        grind (arith, descriptor_is, plus_none)

    -- thunks in both tables that ask so, and what follows
    pub record AskingStands (b : Bases) (symbol : List ℕ) (ask : Ask) (use_kind : Use) (rest : List Object) : Type 0 where
      pub lookup : StrictThunkAt image (thunk_width machine) b.lookups ask
      pub behind : LocatedBeside machine linked image (ends_of_asking machine b ask) rest
      pub table : TableFrom machine linked image b (import_object machine dll.text symbol ask use_kind ∷ rest) →
          StrictThunkAt image (thunk_width machine) b.addresses ask × TableFrom machine linked image (ends_of_asking machine b ask) rest

    pub asking_stands : (b : Bases) (symbol : List ℕ) (ask : Ask) (use_kind : Use) (rest : List Object) → AskFits ask → AreWide machine b →
        LocatedBeside machine linked image b (import_object machine dll.text symbol ask use_kind ∷ rest) → AskingStands b symbol ask use_kind rest
    unfolding import_object thunk_linked AskFits
    asking_stands b symbol (Ordinal n) use_kind rest fits even located =
        let later : Bases = ends_of_asking machine b (Ordinal n) in
        let placed_is : placed_from b (import_object machine dll.text symbol (Ordinal n) use_kind ∷ rest) ≡ placed_asking machine dll b symbol (Ordinal n) use_kind ∷ placed_from later rest = grind (arith, placed-asking machine dll b symbol (Ordinal n) use_kind rest even) in
        let long = length-thunk_linked b symbol (Ordinal n) use_kind in
        let lookups = step image b.lookups (thunk_linked b symbol (Ordinal n) use_kind) (contributions machine linked Lookups (placed_from later rest)) (thunk_width machine) long
        (subst (λ ps. BytesAt image b.lookups (filled b.lookups (contributions machine linked Lookups ps))) placed_is located.lookups) in
        record {
          lookup = ordinal_located machine image n b.lookups fits lookups.0;
          behind = grind arith;
          table = λ table.
              let addresses = step image b.addresses (thunk_linked b symbol (Ordinal n) use_kind) (contributions machine linked Addresses (placed_from later rest)) (thunk_width machine) long
              (subst (λ ps. BytesAt image b.addresses (filled b.addresses (contributions machine linked Addresses ps))) placed_is table) in
              (ordinal_located machine image n b.addresses fits addresses.0, addresses.1);
        }
    asking_stands b symbol (Name text hint) use_kind rest fits even located =
        let later : Bases = ends_of_asking machine b (Name text hint) in
        let placed_is : placed_from b (import_object machine dll.text symbol (Name text hint) use_kind ∷ rest) ≡ placed_asking machine dll b symbol (Name text hint) use_kind ∷ placed_from later rest = grind (arith, placed-asking machine dll b symbol (Name text hint) use_kind rest even) in
        let long = length-thunk_linked b symbol (Name text hint) use_kind in
        let is = thunk_of_name b symbol text hint use_kind in
        let lookups = step image b.lookups (thunk_linked b symbol (Name text hint) use_kind) (contributions machine linked Lookups (placed_from later rest)) (thunk_width machine) long
        (subst (λ ps. BytesAt image b.lookups (filled b.lookups (contributions machine linked Lookups ps))) placed_is located.lookups) in
        let hints = contribution_located image b.hint_names (record { address = next_multiple 2 b.hint_names; bytes = hint_and_name text hint })
        (contributions machine linked HintNames (placed_from later rest)) (at_least 2 b.hint_names)
        (subst (λ ps. BytesAt image b.hint_names (filled b.hint_names (contributions machine linked HintNames ps))) placed_is located.hint_names) in
        record {
          lookup = name_located machine image starts ends text hint (next_multiple 2 b.hint_names) b.lookups fits.0 fits.1 (subst (BytesAt image b.lookups) is lookups.0) hints.0;
          behind = grind arith;
          table = λ table.
              let addresses = step image b.addresses (thunk_linked b symbol (Name text hint) use_kind) (contributions machine linked Addresses (placed_from later rest)) (thunk_width machine) long
              (subst (λ ps. BytesAt image b.addresses (filled b.addresses (contributions machine linked Addresses ps))) placed_is table) in
              (name_located machine image starts ends text hint (next_multiple 2 b.hint_names) b.addresses fits.0 fits.1 (subst (BytesAt image b.addresses) is addresses.0) hints.0, addresses.1);
        }

    -- the thunks of zeros at the ends of both tables, and what follows
    pub record NullThunkStands (b : Bases) (rest : List Object) : Type 0 where
      pub lookup : BytesAt image b.lookups (zeros (thunk_width machine))
      pub behind : LocatedBeside machine linked image (ends_of_null_thunk machine b) rest
      pub table : TableFrom machine linked image b (taken_null_thunk machine dll ∷ rest) →
          BytesAt image b.addresses (zeros (thunk_width machine)) × TableFrom machine linked image (ends_of_null_thunk machine b) rest

    pub null_thunk_stands : (b : Bases) (rest : List Object) → AreWide machine b → LocatedBeside machine linked image b (taken_null_thunk machine dll ∷ rest) → NullThunkStands b rest
    unfolding with_section_symbols object_of null_thunk entries_of name_text
    null_thunk_stands b rest even located = grind (arith, placed-null_thunk machine dll b rest even, length-replicate {A = ℕ} (thunk_width machine) 0, step)
