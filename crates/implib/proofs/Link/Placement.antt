-- Where the sections of the objects for GNU's linker are placed, and what these objects define.
use Rattle.std.proofs.Common.{◌≡◌, ℕ, ◌+◌, ◌-◌, ◌%◌, ◌≤◌, Bool, true, false, List, [], ◌∷◌, ◌++◌, length, map, Some, None, refl, ap, arith, inl, inr, if◌then◌else◌}
use Rattle.std.specs.List.{flat_map}
use Rattle.std.proofs.lemmas.Bool.{cases_Bool}
use Rattle.std.proofs.lemmas.List.{append_assoc, length-replicate}
use Rattle.implib.specs.declared.machine.MachineType.{MachineType}
use Rattle.implib.specs.declared.machine.MachineType.TheVariants.{I386, ARMNT, AMD64, ARM64}
use Rattle.implib.specs.Formats.Bytes.{u16_bytes}
use Rattle.implib.specs.Definition.{ExportView}
use Rattle.implib.specs.Members.Gnu.{archive_symbols, export_object, head_object, hint_name, iname_symbol, tail_object, thunk}
use Rattle.implib.specs.Import.{imp_symbol}
use Rattle.implib.specs.Link.Placement.{Addresses, At, Bases, Descriptors, DllNames, HintNames, Lookups, Unplaced, Placed, next_multiple, placed_from}
use Rattle.implib.specs.Link.Resolution.{SymbolDefinition, defined_by, definitions}
use Rattle.implib.specs.Members.ImportTables.{thunk_width, zeros}
use Rattle.implib.specs.Formats.Object.{Object}
use Rattle.implib.specs.Formats.Writer.{written_object}
use Rattle.implib.specs.LibraryName.{NamesOfDll}

pub aligned : (n : ℕ) → n % 4 ≡ 0 → next_multiple 4 n ≡ n
unfolding next_multiple
aligned n even = rw even (omega arith)

pub at_least : (step n : ℕ) → n ≤ next_multiple step n
unfolding next_multiple
at_least step n = omega arith

pub aligned_thunk : (machine : MachineType) (n : ℕ) → n % 4 ≡ 0 → (n + thunk_width machine) % 4 ≡ 0
aligned_thunk I386 n even = omega arith
aligned_thunk ARMNT n even = omega arith
aligned_thunk AMD64 n even = omega arith
aligned_thunk ARM64 n even = omega arith

pub length-thunk_of : (machine : MachineType) (ordinal : ℕ) (no_name : Bool) →
    length (if no_name then u16_bytes ordinal ++ (zeros (thunk_width machine - 3) ++ 0x80 ∷ []) else zeros (thunk_width machine)) ≡ thunk_width machine
unfolding u16_bytes
length-thunk_of I386 ordinal true = refl
length-thunk_of ARMNT ordinal true = refl
length-thunk_of AMD64 ordinal true = refl
length-thunk_of ARM64 ordinal true = refl
length-thunk_of I386 ordinal false = refl
length-thunk_of ARMNT ordinal false = refl
length-thunk_of AMD64 ordinal false = refl
length-thunk_of ARM64 ordinal false = refl

pub length-thunk : (machine : MachineType) (e : ExportView) → length (thunk machine e) ≡ thunk_width machine
unfolding thunk
length-thunk machine e = length-thunk_of machine e.ordinal e.no_name

-- the ends of the directory and of the tables are multiples of 4
pub record AreAligned (b : Bases) : Type 0 where
  pub descriptors : b.descriptors % 4 ≡ 0
  pub lookups : b.lookups % 4 ≡ 0
  pub addresses : b.addresses % 4 ≡ 0

module _ (machine : MachineType) (dll : NamesOfDll) where
  abbrev pub head : Object
  head = written_object (head_object machine dll.linked)

  abbrev pub tail : Object
  tail = written_object (tail_object machine dll)

  abbrev pub export : ExportView → Object
  export e = written_object (export_object machine dll.linked e)

  -- exports, the tail after them, and other objects
  abbrev pub after_head : List ExportView → List Object → List Object
  after_head es rest = map export es ++ tail ∷ rest

  abbrev pub placed_head : Bases → Placed
  placed_head b = record {
    object = head;
    section_addresses = Unplaced ∷ Unplaced ∷ Unplaced ∷ At Descriptors b.descriptors ∷ At Addresses b.addresses ∷ At Lookups b.lookups ∷ [];
  }

  abbrev pub ends_of_head : Bases → Bases
  ends_of_head b = record b { descriptors = b.descriptors + 20 }

  abbrev pub placed_export : Bases → ExportView → Placed
  placed_export b e = record {
    object = export e;
    section_addresses = Unplaced ∷ Unplaced ∷ Unplaced ∷ At DllNames (next_multiple 4 b.dll_names) ∷ At Addresses b.addresses ∷ At Lookups b.lookups ∷ At HintNames (next_multiple 2 b.hint_names) ∷ [];
  }

  abbrev pub ends_of_export : Bases → ExportView → Bases
  ends_of_export b e = record {
    descriptors = b.descriptors;
    directory_ends = b.directory_ends;
    lookups = b.lookups + thunk_width machine;
    addresses = b.addresses + thunk_width machine;
    hint_names = next_multiple 2 b.hint_names + length (hint_name machine e);
    dll_names = next_multiple 4 b.dll_names + 4;
  }

  abbrev pub placed_tail : Bases → Placed
  placed_tail b = record {
    object = tail;
    section_addresses = Unplaced ∷ Unplaced ∷ Unplaced ∷ At Lookups b.lookups ∷ At Addresses b.addresses ∷ At DllNames (next_multiple 4 b.dll_names) ∷ [];
  }

  abbrev pub ends_of_tail : Bases → Bases
  ends_of_tail b = record {
    descriptors = b.descriptors;
    directory_ends = b.directory_ends;
    lookups = b.lookups + thunk_width machine;
    addresses = b.addresses + thunk_width machine;
    hint_names = b.hint_names;
    dll_names = next_multiple 4 b.dll_names + length (dll.text ++ 0 ∷ []);
  }

  pub aligned_after : (b : Bases) (e : ExportView) → AreAligned b → AreAligned (ends_of_export b e)
  aligned_after b e even = record { descriptors = even.descriptors; lookups = aligned_thunk machine b.lookups even.lookups; addresses = aligned_thunk machine b.addresses even.addresses }

  pub aligned_head : (b : Bases) → AreAligned b → AreAligned (ends_of_head b)
  aligned_head b even = grind arith

  plus_none : (n : ℕ) → n + 0 ≡ n
  plus_none n = omega arith

  pub placed-head : (b : Bases) (objects : List Object) → AreAligned b →
      placed_from b (head ∷ objects) ≡ placed_head b ∷ placed_from (ends_of_head b) objects
  unfolding head_object
  placed-head b objects even = rw (aligned b.descriptors even.descriptors, aligned b.lookups even.lookups, aligned b.addresses even.addresses, plus_none b.lookups, plus_none b.addresses) refl

  pub placed-export : (b : Bases) (e : ExportView) (objects : List Object) → AreAligned b →
      placed_from b (export e ∷ objects) ≡ placed_export b e ∷ placed_from (ends_of_export b e) objects
  unfolding export_object
  placed-export b e objects even = rw (aligned b.lookups even.lookups, aligned b.addresses even.addresses, length-thunk machine e) refl

  pub placed-tail : (b : Bases) (objects : List Object) → AreAligned b → placed_from b (tail ∷ objects) ≡ placed_tail b ∷ placed_from (ends_of_tail b) objects
  unfolding tail_object
  placed-tail b objects even = rw (aligned b.lookups even.lookups, aligned b.addresses even.addresses, length-replicate {A = ℕ} (thunk_width machine) 0) refl

  -- the ends after exports
  unfoldable pub ends_of_exports : Bases → List ExportView → Bases
  ends_of_exports b [] = b
  ends_of_exports b (e ∷ es) = ends_of_exports (ends_of_export b e) es

  -- the ends after exports and the tail
  abbrev pub ends_of_all : Bases → List ExportView → Bases
  ends_of_all b es = ends_of_tail (ends_of_exports b es)

  pub aligned_all : (b : Bases) (es : List ExportView) → AreAligned b → AreAligned (ends_of_all b es)
  unfolding ends_of_exports
  aligned_all b [] even = record { descriptors = even.descriptors; lookups = aligned_thunk machine b.lookups even.lookups; addresses = aligned_thunk machine b.addresses even.addresses }
  aligned_all b (e ∷ es) even = aligned_all (ends_of_export b e) es (aligned_after b e even)

  pub descriptors_end : (b : Bases) (es : List ExportView) → b.descriptors ≡ (ends_of_all b es).descriptors
  unfolding ends_of_exports
  descriptors_end b [] = refl
  descriptors_end b (e ∷ es) = descriptors_end (ends_of_export b e) es

  -- what the objects define

  abbrev pub code_definition : ExportView → List SymbolDefinition
  code_definition e = if e.is_data then [] else record { name = e.name; address = None } ∷ []

  abbrev pub address_definition : Bases → ExportView → SymbolDefinition
  address_definition b e = record { name = imp_symbol e.name; address = Some (b.addresses + 0) }

  unfoldable pub defined_after : Bases → List ExportView → List SymbolDefinition
  defined_after b [] = record { name = iname_symbol machine dll.linked; address = Some (next_multiple 4 b.dll_names + 0) } ∷ []
  defined_after b (e ∷ es) = code_definition e ++ address_definition b e ∷ defined_after (ends_of_export b e) es

  defined_by_export : (b : Bases) (e : ExportView) (rest : List SymbolDefinition) →
      defined_by (placed_export b e) ++ rest ≡ code_definition e ++ address_definition b e ∷ rest
  unfolding export_object
  defined_by_export b e rest =
      elim (cases_Bool e.is_data) [ inl is ↦ rw is refl | inr is ↦ rw is refl ]

  pub definitions-after : (b : Bases) (es : List ExportView) (rest : List Object) → AreAligned b →
      definitions (placed_from b (after_head es rest)) ≡ defined_after b es ++ definitions (placed_from (ends_of_all b es) rest)
  unfolding defined_after tail_object ends_of_exports
  definitions-after b [] rest even = ap definitions (placed-tail b rest even)
  definitions-after b (e ∷ es) rest even = grind (arith, definitions-after (ends_of_export b e) es rest (aligned_after b e even), placed-export, defined_by_export, aligned_after, append_assoc)

  pub names-after : (b : Bases) (es : List ExportView) → map (λ (d : SymbolDefinition). d.name) (defined_after b es) ≡ flat_map archive_symbols es ++ iname_symbol machine dll.linked ∷ []
  unfolding defined_after hint_name
  names-after b [] = refl
  names-after b (e ∷ es) = grind (arith, names-after (ends_of_export b e) es, cases_Bool)
