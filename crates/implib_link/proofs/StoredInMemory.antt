-- Fields for the address of a name hold it, in memory at any base.
use Rattle.std.proofs.Common.{◌≡◌, ℕ, ◌+◌, ◌*◌, ◌^◌, ◌<◌, ◌≤◌, List, ◌++◌, [], ◌∷◌, length, Some, refl, sym, subst, arith}
use Rattle.std.specs.List.{AllByRecursion, Contains}
use Rattle.implib.specs.declared.machine.MachineType.{MachineType}
use Rattle.implib.specs.declared.machine.MachineType.TheVariants.{ARM64}
use Rattle.implib.specs.Formats.Constants.{arm64_pagebase_rel21}
use Rattle.implib.specs.Formats.Object.{ASymbol, ObjectSymbol}
use Rattle.implib.specs.Link.Image.{Range}
use Rattle.implib.specs.Link.Load.{NumberAt}
use Rattle.implib.specs.Link.Placement.{Placed}
use Rattle.implib.specs.Link.Resolution.{definitions_of}
use Rattle.implib.specs.Members.ImportTables.{thunk_width}
use Rattle.implib.proofs.Link.LinkedMembers.{among_contains}
use Rattle.implib.proofs.Link.Ranges.{Among, all_among}
use Rattle.implib_link.specs.Gnu.Fields.{field_width, DefinesIn, LinkedCode, MeetsAlone, field_at, HasPageField, HasPointer, Names, StubAt, placed_code, StubArrives}
use Rattle.implib_link.specs.Gnu.Stored.{HasAddField, HasRelative, HoldAddress, HoldsFurther, IsImageRelative, SumArrives, arm64_pageoffset_12a, AreStoredInMemory, PointsTo}
use Rattle.implib_link.proofs.Gnu.FieldsInMemory.{Settles, StoredRests, field_there, linked_there, own_end, settled_in_tables, stored_in_memory, stored_rests}
use Rattle.implib_link.proofs.Gnu.Loaded.{Covers}
use Rattle.implib_link.proofs.Gnu.Operands.{addr64_is, dir32_is, page_leads, pair_leads, pointer_width}
use Rattle.implib_link.proofs.Flavors.Block.{gets_address}
use Rattle.implib_link.proofs.Search.Lists.{among_at, contains_among}
use Rattle.std.specs.Prelude.{slice_get}
use Rattle.implib.specs.Formats.ShortImport.{ShortImport}
use Rattle.implib.specs.Import.{Ask, imp_symbol}
use Rattle.implib_link.specs.Flavors.LldImports.{IsThunk, ThunkArrives}
use Rattle.implib_link.specs.Gnu.Moves.{AreInMemory}
use Rattle.implib_link.specs.Gnu.Writing.{ReadsAndWrites}
use Rattle.implib_link.specs.Tables.{AreSteady, AreTables, CanReadFrom, Table, TableEntry, Tables}
use Rattle.implib_link.proofs.Flavors.LldThunks.{bare_symbol, thunk_defines}
use Rattle.implib_link.proofs.Tables.{covering, entry_in, stub_in_memory, thunk_in_memory}

-- Numbers of fields.

relative_width : (machine : MachineType) (type : ℕ) → IsImageRelative machine type → field_width machine type ≡ 4
relative_width machine type relative = grind arith

module _ (machine : MachineType) (image_base : ℕ) (image : List Range) (linked : List Placed) (codes : List LinkedCode) (targets : LinkedCode → ℕ → ℕ) (memory : List Range)
    (stored : StoredRests machine image_base image linked codes targets memory) (written : List Range) (covers_it : AllByRecursion (Covers image) written) where
  abbrev pub AllSettled : List ℕ → ℕ → Type 0
  AllSettled name target = (c : LinkedCode) (symbol : ℕ) → Contains codes c → Names c.from symbol name → Settles machine image_base image linked codes targets memory stored.rests c symbol target

  -- of a name that linked code defines
  pub settled_by_code : (d : LinkedCode) (s : ObjectSymbol) → Contains codes d → DefinesIn d s → AllSettled s.name (d.position + s.value)
  settled_by_code d s d_held defines c symbol held names = stored.settled c d symbol names.symbol s held d_held names.target names.undefined defines (sym names.named)

  -- of one that the tables define
  pub settled_by_tables : (name : List ℕ) (entry : ℕ) → definitions_of name linked ≡ record { name = name; address = Some entry } ∷ [] → AllSettled name entry
  settled_by_tables name entry once c symbol held names =
      settled_in_tables machine image_base image linked codes targets memory stored.rests c symbol entry (ASymbol names.symbol) held names.target
      (gets_address linked name entry once c.from names.symbol (all_among (λ (x : LinkedCode). Contains linked x.from) c codes (contains_among c codes held) stored.rests.beside.held)
      (among_contains (ASymbol names.symbol) c.from.object.entries (among_at (ASymbol names.symbol) c.from.object.entries symbol names.target)) names.undefined names.named)

  module _ (name : List ℕ) (target : ℕ) (small : target < 2 ^ 31) (settled : AllSettled name target) where
    whole_holds : (c : LinkedCode) (offset : ℕ) → image_base + 2 ^ 31 ≤ 2 ^ (8 * thunk_width machine) → Contains codes c → HasPointer machine c offset name →
        NumberAt (written ++ memory) (thunk_width machine) (c.position + offset) (image_base + target)
    whole_holds c offset fits held has =
        let found = field_there machine image_base image linked codes targets memory stored.rests written covers_it c (contains_among c codes held) offset has.type has.field.symbol has.field.alone has.field.inside target
        (settled c has.field.symbol held has.field.names) in
        grind (arith, dir32_is, addr64_is, pointer_width)

    -- a field of a type that Fields leaves out, as it was linked
    further_holds : (c : LinkedCode) (offset type symbol : ℕ) → Contains codes c → MeetsAlone machine c.code.relocations offset (field_width machine type) (record { offset = offset; symbol = symbol; kind = type }) →
        offset + field_width machine type ≤ length c.code.bytes → Names c.from symbol name → HoldsFurther machine type stored.rests.from target (field_at c.code.bytes offset) (field_at c.bytes offset)
    further_holds c offset type symbol held alone inside names =
        subst (λ n. HoldsFurther machine type stored.rests.from n (field_at c.code.bytes offset) (field_at c.bytes offset)) (settled c symbol held names).taken
        (stored.further c held (record { offset = offset; symbol = symbol; kind = type }) alone inside)

    relative_holds : (c : LinkedCode) (offset : ℕ) → Contains codes c → HasRelative machine c offset name → NumberAt (written ++ memory) 4 (c.position + offset) target
    relative_holds c offset held has =
        let there = linked_there machine image_base image linked codes targets memory stored.rests written covers_it c (contains_among c codes held) offset has.type has.field.symbol has.field.alone has.field.inside
        (grind arith) in
        grind (arith, further_holds c offset has.type has.field.symbol held has.field.alone has.field.inside has.field.names, relative_width machine has.type has.relative)

-- ARM64's two instructions.
sum_holds : (image_base : ℕ) (image : List Range) (linked : List Placed) (codes : List LinkedCode) (targets : LinkedCode → ℕ → ℕ) (memory : List Range) (stored : StoredRests ARM64 image_base image linked codes targets memory)
    (written : List Range) (covers_it : AllByRecursion (Covers image) written) (name : List ℕ) (target : ℕ) → target < 2 ^ 31 →
    ((c : LinkedCode) (symbol : ℕ) → Contains codes c → Names c.from symbol name → Settles ARM64 image_base image linked codes targets memory stored.rests c symbol target) → (c d : LinkedCode) (first second : ℕ) →
    Contains codes c → Contains codes d → HasPageField c first name → HasAddField d second name →
    SumArrives image_base (written ++ memory) (c.position + first) (d.position + second) (field_at c.code.bytes first 4) (field_at d.code.bytes second 4) target
sum_holds image_base image linked codes targets memory stored written covers_it name target small settled c d first second c_held d_held page_field add_field =
    let m : Among c codes = contains_among c codes c_held in
    let paged = field_there ARM64 image_base image linked codes targets memory stored.rests written covers_it c m first arm64_pagebase_rel21 page_field.field.symbol page_field.field.alone page_field.field.inside target
    (settled c page_field.field.symbol c_held page_field.field.names) in
    let there = linked_there ARM64 image_base image linked codes targets memory stored.rests written covers_it d (contains_among d codes d_held) second arm64_pageoffset_12a add_field.field.symbol add_field.field.alone
    add_field.field.inside refl in
    let added = (further_holds ARM64 image_base image linked codes targets memory stored written covers_it name target small settled d second arm64_pageoffset_12a add_field.field.symbol d_held add_field.field.alone
    add_field.field.inside add_field.field.names).added refl refl add_field.adds in
    grind (arith, own_end ARM64 image_base image linked codes targets memory stored.rests written covers_it c m, pair_leads, page_leads)

sums_hold : (machine : MachineType) (image_base : ℕ) (image : List Range) (linked : List Placed) (codes : List LinkedCode) (targets : LinkedCode → ℕ → ℕ) (memory : List Range)
    (stored : StoredRests machine image_base image linked codes targets memory) (written : List Range) → AllByRecursion (Covers image) written → (name : List ℕ) (target : ℕ) → target < 2 ^ 31 →
    ((c : LinkedCode) (symbol : ℕ) → Contains codes c → Names c.from symbol name → Settles machine image_base image linked codes targets memory stored.rests c symbol target) → (c d : LinkedCode) (first second : ℕ) → machine ≡ ARM64 →
    Contains codes c → Contains codes d → HasPageField c first name → HasAddField d second name →
    SumArrives image_base (written ++ memory) (c.position + first) (d.position + second) (field_at c.code.bytes first 4) (field_at d.code.bytes second 4) target
sums_hold ARM64 image_base image linked codes targets memory stored written covers_it name target small settled c d first second is c_held d_held page_field add_field =
    sum_holds image_base image linked codes targets memory stored written covers_it name target small settled c d first second c_held d_held page_field add_field
sums_hold machine image_base image linked codes targets memory stored written covers_it name target small settled c d first second is c_held d_held page_field add_field = cc

pub holds_address : (machine : MachineType) (image_base : ℕ) (image : List Range) (linked : List Placed) (codes : List LinkedCode) (targets : LinkedCode → ℕ → ℕ) (memory : List Range)
    (stored : StoredRests machine image_base image linked codes targets memory) (written : List Range) → AllByRecursion (Covers image) written → (name : List ℕ) (target : ℕ) → target < 2 ^ 31 →
    ((c : LinkedCode) (symbol : ℕ) → Contains codes c → Names c.from symbol name → Settles machine image_base image linked codes targets memory stored.rests c symbol target) →
    HoldAddress machine image_base codes (written ++ memory) name target
holds_address machine image_base image linked codes targets memory stored written covers_it name target small settled = record {
  whole = whole_holds machine image_base image linked codes targets memory stored written covers_it name target small settled;
  relative = relative_holds machine image_base image linked codes targets memory stored written covers_it name target small settled;
  sums = sums_hold machine image_base image linked codes targets memory stored written covers_it name target small settled;
}

-- Fields for addresses beside import tables, in memory at any base: they hold addresses of entries, of what linked code
-- defines, and so of stubs and thunks.

module _ (machine : MachineType) (image_base : ℕ) (t : Tables) (codes : List LinkedCode) (targets : LinkedCode → ℕ → ℕ) (memory : List Range) (gives : List ℕ → Ask → List ℕ)
    (tables : AreTables machine t) (steady : AreSteady machine t.linked) (at : AreStoredInMemory machine image_base t.image t.linked codes targets memory) (n : ℕ) (written : List Range)
    (wide : (dll : List ℕ) (ask : Ask) → length (gives dll ask) ≡ thunk_width machine) (reads : ReadsAndWrites memory (thunk_width machine) gives n t.directory written) where
  in_memory : AreInMemory machine image_base t.image t.linked codes targets memory
  in_memory = stored_in_memory machine image_base t.image t.linked codes targets memory at

  resting : StoredRests machine image_base t.image t.linked codes targets memory
  resting = stored_rests machine image_base t.image t.linked codes targets memory at steady

  covered : AllByRecursion (Covers t.image) written
  covered = covering machine image_base t codes targets memory gives tables steady in_memory n written wide reads

  pub names_hold : (d : LinkedCode) (s : ObjectSymbol) → Contains codes d → DefinesIn d s → d.position + s.value < 2 ^ 31 → HoldAddress machine image_base codes (written ++ memory) s.name (d.position + s.value)
  names_hold d s held defines small =
      holds_address machine image_base t.image t.linked codes targets memory resting written covered s.name (d.position + s.value) small
      (settled_by_code machine image_base t.image t.linked codes targets memory resting written covered d s held defines)

  pub entries_hold : (i j : ℕ) (x : Table) (e : TableEntry) (name : List ℕ) → slice_get t.tables i ≡ Some x → slice_get x.entries j ≡ Some e → e.symbol ≡ Some name →
      HoldAddress machine image_base codes (written ++ memory) name (x.address + thunk_width machine * j)
  entries_hold i j x e name is asked symbol =
      let known = entry_in machine image_base t codes targets memory gives tables steady in_memory n written wide reads i j x e name is asked symbol in
      holds_address machine image_base t.image t.linked codes targets memory resting written covered name (x.address + thunk_width machine * j) known.small
      (settled_by_tables machine image_base t.image t.linked codes targets memory resting written covered name (x.address + thunk_width machine * j) known.once)

  end_of : (d : LinkedCode) → Contains codes d → d.position + length d.code.bytes + 16 ≤ 2 ^ 31
  end_of d held = all_among (λ (k : LinkedCode). k.position + length k.code.bytes + 16 ≤ 2 ^ 31) d codes (contains_among d codes held) resting.rests.beside.ends

  -- a pointer to the beginning of code of which something holds
  points_to : (Holds : ℕ → Type 0) (d : LinkedCode) (s : ObjectSymbol) → Contains codes d → DefinesIn d s → s.value ≡ 0 → Holds d.position → (c : LinkedCode) (offset : ℕ) →
      image_base + 2 ^ 31 ≤ 2 ^ (8 * thunk_width machine) → Contains codes c → HasPointer machine c offset s.name → PointsTo machine image_base (written ++ memory) (c.position + offset) Holds
  points_to Holds d s d_held defines begins there c offset fits held has =
      record {
        target = d.position + s.value;
        there = (names_hold d s d_held defines (omega (arith, end_of d d_held))).whole c offset fits held has;
        reached = subst Holds (omega (arith, end_of d d_held)) there;
      }

  pub stubs_stored : (i j : ℕ) (x : Table) (e : TableEntry) (name : List ℕ) → slice_get t.tables i ≡ Some x → slice_get x.entries j ≡ Some e → e.symbol ≡ Some name → CanReadFrom machine image_base x.address →
      (d : LinkedCode) (s : ObjectSymbol) → Contains codes d → StubAt machine t.linked (placed_code d) s (x.address + thunk_width machine * j) → DefinesIn d s → (c : LinkedCode) (offset : ℕ) →
      image_base + 2 ^ 31 ≤ 2 ^ (8 * thunk_width machine) → Contains codes c → HasPointer machine c offset s.name →
      PointsTo machine image_base (written ++ memory) (c.position + offset) (λ a. StubArrives machine image_base (written ++ memory) a (gives x.dll e.ask))
  stubs_stored i j x e name is asked symbol can d s d_held stub defines c offset fits held has =
      points_to (λ a. StubArrives machine image_base (written ++ memory) a (gives x.dll e.ask)) d s d_held defines stub.begins
      (stub_in_memory machine image_base t codes targets memory gives tables steady in_memory n written wide reads i j x e name is asked symbol can d s d_held stub) c offset fits held has

  pub thunks_stored : (i j : ℕ) (x : Table) (e : TableEntry) → slice_get t.tables i ≡ Some x → slice_get x.entries j ≡ Some e → CanReadFrom machine image_base x.address → (r : ShortImport) (d : LinkedCode) →
      e.symbol ≡ Some (imp_symbol r.symbol) → Contains codes d → IsThunk machine d r → (c : LinkedCode) (offset : ℕ) → image_base + 2 ^ 31 ≤ 2 ^ (8 * thunk_width machine) → Contains codes c →
      HasPointer machine c offset r.symbol →
      PointsTo machine image_base (written ++ memory) (c.position + offset) (λ a. ThunkArrives machine image_base (written ++ memory) a (gives x.dll e.ask))
  thunks_stored i j x e is asked can r d symbol d_held thunk c offset fits held has =
      points_to (λ a. ThunkArrives machine image_base (written ++ memory) a (gives x.dll e.ask)) d (bare_symbol r) d_held (thunk_defines machine d r thunk) refl
      (thunk_in_memory machine image_base t codes targets memory gives tables steady in_memory n written wide reads i j x e is asked can r d symbol d_held thunk) c offset fits held has
