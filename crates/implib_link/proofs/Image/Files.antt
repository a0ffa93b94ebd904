-- What a loader finds that begins with a file.
use Rattle.std.proofs.lemmas.Grind.{common_steps}
use Rattle.std.proofs.Common.{◌≡◌, ℕ, zero, suc, ◌+◌, ◌-◌, ◌*◌, ◌^◌, ◌<◌, ◌≤◌, List, [], ◌∷◌, ◌++◌, length, map, Some, refl, ◌∙◌, subst, inl, inr, arith}
use Rattle.std.specs.Prelude.{slice_get, slice_index}
use Rattle.std.specs.List.{AllByRecursion, Contains}
use Rattle.std.proofs.Math.Nat.{mul-add}
use Rattle.std.proofs.lemmas.Bool.{cases_Bool}
use Rattle.std.proofs.lemmas.List.{length-map}
use Rattle.implib.specs.Formats.Object.{ObjectSymbol}
use Rattle.implib.specs.Import.{Ask}
use Rattle.implib.specs.Link.Image.{Range, byte_at, is_in}
use Rattle.implib.specs.Link.Load.{BytesAt}
use Rattle.implib.specs.Members.ImportTables.{thunk_width}
use Rattle.implib.specs.declared.machine.MachineType.{MachineType}
use Rattle.implib.proofs.Link.LinkedMembers.{among_map}
use Rattle.implib.proofs.Link.Ranges.{all_among, among_back}
use Rattle.implib_link.specs.Image.Files.{DataDirectory, LoadsFile, MappedFile}
use Rattle.implib_link.specs.Image.Laws.{HasTable, IsFileOf, IsInDirectory, thunks_with_nulls}
use Rattle.implib_link.specs.Gnu.Fields.{AreLinkedBeside, DefinesIn, LinkedCode, range_of_code, ranges_of_codes, AllLead, AreKept}
use Rattle.implib_link.specs.Gnu.Writing.{Writes}
use Rattle.implib_link.specs.Gnu.Stored.{AreFurtherHeld, HoldAddress}
use Rattle.implib_link.specs.Tables.{AreSteady, AreTables, AreTablesLoaded, Block, CanReadFrom, IsInTable, Table, TableEntry, Tables, imported_by_table, packed_tables}
use Rattle.implib_link.proofs.Gnu.Fields.{located_each}
use Rattle.implib_link.proofs.Gnu.FieldsInMemory.{Rests, StoredRests, part_there, same_pages}
use Rattle.implib_link.proofs.Gnu.Loaded.{Keeps, bytes_kept, keeps_written, memory_can_be_read, memory_read, number_kept, Covers, byte_front, within_bounds, written_covers}
use Rattle.implib_link.proofs.Gnu.Operands.{all_lead}
use Rattle.implib_link.proofs.StoredInMemory.{holds_address, settled_by_code}
use Rattle.implib_link.proofs.Search.Lists.{contains_among, all_parts}
use Rattle.implib_link.proofs.Tables.{tables_load, entry_in, entry_reached, written_read}

-- Memory that has the bytes of ranges.

index_located : (memory : List Range) (bytes : List ℕ) (start k : ℕ) → BytesAt memory start bytes → k < length bytes → byte_at memory (start + k) ≡ Some (slice_index bytes k)
unfolding BytesAt
index_located memory [] start k located small = absurd (omega arith)
index_located memory (x ∷ bytes) start zero located small = let plain : start ≡ start + 0 = omega arith in subst (λ n. byte_at memory n ≡ Some x) plain located.0
index_located memory (x ∷ bytes) start (suc k) located small = grind (arith, index_located memory bytes (start + 1) k located.1 (omega arith))

holds_keep : (memory ranges : List Range) → AllByRecursion (λ (r : Range). BytesAt memory r.start r.bytes) ranges → Keeps ranges memory
unfolding Keeps
holds_keep memory [] all a b is = cc
holds_keep memory (r ∷ ranges) all a b is =
    elim (cases_Bool (is_in a r)) [
      | inl within ↦ let bounds = within_bounds a r within in
          subst (λ n. byte_at memory n ≡ Some (slice_index r.bytes (a - r.start))) (omega arith) (index_located memory r.bytes r.start (a - r.start) all.0 (omega arith)) ∙ (rw within at is)
      | inr outside ↦ holds_keep memory ranges all.1 a b (rw outside at is)
    ]

-- Tables that follow one another are in a directory with room for them.
pub packed_inside : (width address : ℕ) (blocks : List Block) (d : DataDirectory) → d.address ≤ address → address + width * thunks_with_nulls blocks ≤ d.address + d.size →
    AllByRecursion (HasTable width d) (packed_tables width address blocks)
packed_inside width address [] d from to = tt
packed_inside width address (b ∷ blocks) d from to = grind (arith, mul-add, packed_inside width (address + width * ((length b.entries) + 1)) blocks d (omega arith) (omega arith))

-- The file of import tables.
module _ (machine : MachineType) (t : Tables) (bytes : List ℕ) (file : MappedFile) (gives : List ℕ → Ask → List ℕ) (tables : AreTables machine t) (own : IsFileOf machine t.directory t.image bytes file)
    (wide : (dll : List ℕ) (ask : Ask) → length (gives dll ask) ≡ thunk_width machine) where
  kept : Keeps t.image file.image
  kept = holds_keep file.image t.image own.holds

  pub read : (n : ℕ) (written : List Range) → LoadsFile file gives n written → (n ≡ length (map imported_by_table t.tables)) × Writes t.image (thunk_width machine) gives t.directory (map imported_by_table t.tables) written
  read n written loads = memory_read t.image file.image kept (thunk_width machine) gives n t.directory (map imported_by_table t.tables) written tables.directory (grind arith)

  pub file_loads : (n : ℕ) (written : List Range) → LoadsFile file gives n written →
      (n ≡ length t.tables) × (AreTablesLoaded machine t gives written × Writes t.image (thunk_width machine) gives t.directory (map imported_by_table t.tables) written)
  file_loads n written loads = grind (arith, read, length-map, tables_load)

  pub file_ends : (written : List Range) × LoadsFile file gives (length t.tables) written
  file_ends = grind (arith, memory_can_be_read t.image file.image kept (thunk_width machine) gives t.directory (map imported_by_table t.tables) tables.directory, length-map)

  -- what is in tables that are in a directory
  all_in : (d : DataDirectory) → AllByRecursion (HasTable (thunk_width machine) d) t.tables → (written : List Range) →
      AllByRecursion (IsInTable (thunk_width machine) t.tables) written → AllByRecursion (IsInDirectory d) written
  all_in d inside [] within = tt
  all_in d inside (r ∷ written) within = grind (arith, common_steps, all_in d inside written within.1, all_among, contains_among)

  pub file_writes_inside : (n : ℕ) (written : List Range) (d : DataDirectory) → LoadsFile file gives n written →
      AllByRecursion (HasTable (thunk_width machine) d) t.tables → AllByRecursion (IsInDirectory d) written
  file_writes_inside n written d loads inside = all_in d inside written (file_loads n written loads).1.0.within

-- The file of tables and code.
module _ (machine : MachineType) (t : Tables) (codes : List LinkedCode) (targets : LinkedCode → ℕ → ℕ) (bytes : List ℕ) (file : MappedFile) (gives : List ℕ → Ask → List ℕ) (n : ℕ) (written : List Range)
    (tables : AreTables machine t) (steady : AreSteady machine t.linked) (beside : AreLinkedBeside machine file.base t.image t.linked codes targets)
    (own : IsFileOf machine t.directory (t.image ++ ranges_of_codes codes) bytes file) (wide : (dll : List ℕ) (ask : Ask) → length (gives dll ask) ≡ thunk_width machine) (loads : LoadsFile file gives n written) where
  abbrev linked_memory : List Range
  linked_memory = t.image ++ ranges_of_codes codes

  all_kept : Keeps linked_memory file.image
  all_kept = holds_keep file.image linked_memory own.holds

  own_tables : IsFileOf machine t.directory t.image bytes file
  own_tables = record { mapped = own.mapped; made_for = own.made_for; width = own.width; directory = own.directory; holds = (all_parts (λ (r : Range). BytesAt file.image r.start r.bytes) t.image (ranges_of_codes codes) own.holds).0 }

  writes : Writes t.image (thunk_width machine) gives t.directory (map imported_by_table t.tables) written
  writes = (read machine t bytes file gives tables own_tables wide n written loads).1

  covering : AllByRecursion (Covers t.image) written
  covering = written_covers t.image (thunk_width machine) gives wide (map imported_by_table t.tables) t.directory written tables.directory writes

  resting : Rests machine file.base t.image t.linked codes targets file.image
  unfolding Keeps
  resting = record {
    from = file.base;
    beside = beside;
    paged = same_pages machine file.base;
    image_kept = λ a b is. all_kept a b (byte_front t.image (ranges_of_codes codes) a b is);
    code_kept = λ c k b m is clear. grind (arith, among_back (range_of_code c) t.image (ranges_of_codes codes) (among_map range_of_code c codes m), among_map range_of_code c codes m, located_each, all_among);
    whole = λ c r width address number entry held m is symbol placed there. inl (refl, number_kept linked_memory file.image all_kept width (c.position + r.offset) number there);
  }

  pub file_leads : (i j : ℕ) (x : Table) (e : TableEntry) (name : List ℕ) → slice_get t.tables i ≡ Some x → slice_get x.entries j ≡ Some e → e.symbol ≡ Some name → CanReadFrom machine file.base x.address →
      AllLead machine file.base t.linked codes (written ++ file.image) name (gives x.dll e.ask)
  file_leads i j x e name is asked symbol can =
      let known = entry_in machine file.base t codes targets linked_memory gives tables steady (inl (beside, refl)) (length t.tables) written wide
      (written_read machine file.base t codes targets linked_memory gives tables steady (inl (beside, refl)) written writes) i j x e name is asked symbol in
      let entry : ℕ = x.address + thunk_width machine * j in
      all_lead machine file.base t.image t.linked codes targets file.image resting written covering name (gives x.dll e.ask) entry known.once known.small (entry_reached machine file.base x.address j can)
      (bytes_kept (written ++ linked_memory) (written ++ file.image) (keeps_written linked_memory file.image all_kept written) (gives x.dll e.ask) entry known.located)

  pub file_keeps : AreKept machine codes (written ++ file.image)
  file_keeps c offset count held none = part_there machine file.base t.image t.linked codes targets file.image resting written covering c (contains_among c codes held) offset count none

  -- with what code holds by further types
  module _ (further : AreFurtherHeld machine file.base codes targets) where
    stored : StoredRests machine file.base t.image t.linked codes targets file.image
    unfolding resting
    stored = record {
      rests = resting;
      further = further;
      settled = λ c d index s k held d_held at undefined defines named. record {
        taken = beside.resolved.code c d index s k held d_held at undefined defines named;
        whole = λ r width number same m is there. inl (refl, number_kept linked_memory file.image all_kept width (c.position + r.offset) number there);
      };
    }

    pub file_holds : (d : LinkedCode) (s : ObjectSymbol) → Contains codes d → DefinesIn d s → d.position + s.value < 2 ^ 31 → HoldAddress machine file.base codes (written ++ file.image) s.name (d.position + s.value)
    file_holds d s held defines small =
        holds_address machine file.base t.image t.linked codes targets file.image stored written covering s.name (d.position + s.value) small
        (settled_by_code machine file.base t.image t.linked codes targets file.image stored written covering d s held defines)
