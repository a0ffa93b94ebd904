-- Stubs jump through their own entries.
use Rattle.std.proofs.Common.{◌≡◌, ℕ, zero, suc, ◌+◌, ◌*◌, ◌<◌, false, List, [], ◌∷◌, Some, refl, ap, sym, ◌∙◌, subst, arith}
use Rattle.std.specs.Prelude.{slice_get}
use Rattle.implib.specs.declared.machine.MachineType.{MachineType}
use Rattle.implib.specs.Formats.Constants.{align_4bytes, cnt_code, mem_execute_read, class_external}
use Rattle.implib.specs.Definition.{ExportView}
use Rattle.implib.specs.Members.Gnu.{export_object, relocations_of_stub, section, stub, stub_bytes, stub_relocations, text_name}
use Rattle.implib.specs.Members.ImportTables.{thunk_width}
use Rattle.implib.specs.Formats.Object.{ASymbol, Object}
use Rattle.implib.specs.Link.Placement.{Bases, Placed, placed_from}
use Rattle.implib.specs.Link.Resolution.{SymbolDefinition, target_address}
use Rattle.implib.proofs.Link.Linked.{address_found}
use Rattle.implib.proofs.Link.LinkedBlocks.{even}
use Rattle.implib.proofs.Link.Placement.{AreAligned, after_head, aligned_after, ends_of_all, ends_of_export, ends_of_exports, placed-export, placed-tail, placed_export}
use Rattle.implib.proofs.Link.Ranges.{Among, among_first, among_later}
use Rattle.implib_link.proofs.Gnu.Loaded.{times_next, times_none, by_width}
use Rattle.implib.specs.LibraryName.{NamesOfDll}

-- Each export's object is placed, with its entry where the addresses have come to.

module _ (machine : MachineType) (dll : NamesOfDll) where
  pub export_placed : (es : List ExportView) (b : Bases) (rest : List Object) → AreAligned b → (j : ℕ) (e : ExportView) → slice_get es j ≡ Some e →
      (c : Bases) × (Among (placed_export machine dll c e) (placed_from b (after_head machine dll es rest)) × (c.addresses ≡ b.addresses + thunk_width machine * j))
  export_placed [] b rest even j e is = cc
  export_placed (x ∷ es) b rest even zero e is =
      grind (arith, placed_export machine dll b e, placed-export machine dll b x (after_head machine dll es rest) even, after_head machine dll es rest, ends_of_export machine dll b x, among_first (placed_export machine dll b e) (placed_from (ends_of_export machine dll b x) (after_head machine dll es rest)), times_none b.addresses (thunk_width machine))
  export_placed (x ∷ es) b rest even (suc j) e is =
      grind (arith, ends_of_export, placed_export, placed-export, among_later, times_next, export_placed es (ends_of_export machine dll b x) rest (aligned_after machine dll b x even) j e is)

  pub behind_exports : (es : List ExportView) (b : Bases) (rest : List Object) (q : Placed) → AreAligned b → Among q (placed_from (ends_of_all machine dll b es) rest) →
      Among q (placed_from b (after_head machine dll es rest))
  unfolding ends_of_exports
  behind_exports [] b rest q even m = subst (Among q) (sym (placed-tail machine dll b rest even)) (among_later q _ _ m)
  behind_exports (e ∷ es) b rest q even m =
      grind (arith, behind_exports es (ends_of_export machine dll b e) rest q (aligned_after machine dll b e even) m, placed-export, after_head, even, among_later, ends_of_export, aligned_after)

pub first_sum : (c a w m : ℕ) → c ≡ a + w * m → c ≡ a + w * 0 + w * m
first_sum c a w m is = is ∙ ap (λ k. k + w * m) (times_none a w)

pub later_sum : (c a b w m : ℕ) → c ≡ a + w * m → a ≡ b → c ≡ b + w * m
later_sum c a b w m is same = is ∙ ap (λ n. n + w * m) same

-- Entries are below 2^31.

pub wide_thunk : (machine : MachineType) → 0 < thunk_width machine
wide_thunk machine = by_width (λ w. 0 < w) (omega arith) (omega arith) machine

-- The code of an export.

pub code_defined : (machine : MachineType) (dll : NamesOfDll) (b : Bases) (e : ExportView) → e.is_data ≡ false →
    Among (ASymbol (record { name = e.name; value = 0; section = 1; kind = 0; class = class_external })) (placed_export machine dll b e).object.entries
unfolding export_object
code_defined machine dll b e is = rw is (among_later _ _ _ (among_first _ _))

pub code_here : (machine : MachineType) (dll : NamesOfDll) (b : Bases) (e : ExportView) →
    slice_get (placed_export machine dll b e).object.sections 0 ≡ Some (section text_name (cnt_code + align_4bytes + mem_execute_read) (stub machine e) (relocations_of_stub machine e))
unfolding export_object
code_here machine dll b e = refl

pub code_bytes : (machine : MachineType) (e : ExportView) → e.is_data ≡ false → stub machine e ≡ stub_bytes machine
unfolding stub
code_bytes machine e is = rw is refl

pub code_relocations : (machine : MachineType) (e : ExportView) → e.is_data ≡ false → relocations_of_stub machine e ≡ stub_relocations machine 2
unfolding relocations_of_stub
code_relocations machine e is = rw is refl

pub target_is : (machine : MachineType) (dll : NamesOfDll) (linked : List Placed) (b : Bases) (e : ExportView) (entry : ℕ) → e.is_data ≡ false → b.addresses ≡ entry →
    target_address linked (placed_export machine dll b e) 2 ≡ entry
target_is machine dll linked b e entry is same = grind (arith, address_found machine dll linked b e is)

pub same_address : (name : List ℕ) (a b : ℕ) (ds : List SymbolDefinition) → ds ≡ record { name = name; address = Some a } ∷ [] → ds ≡ record { name = name; address = Some b } ∷ [] → a ≡ b
same_address name a b ds first second = grind arith
