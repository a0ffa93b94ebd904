-- What is known of a layout that was written.
use Rattle.std.proofs.Common.{arith, ◌≡◌, ℕ, ◌<◌, ◌^◌, List, Result, IfOk, OnOk, Some, length, map, refl}
use Rattle.std.specs.Borrow.{Bor}
use Rattle.implib.specs.declared.coff.object.Section.{Section}
use Rattle.implib.specs.declared.coff.object.Symbol.{Symbol}
use Rattle.implib.specs.declared.machine.MachineType.{MachineType}
use Rattle.implib.specs.Views.Writer.{writer_state}
use Rattle.implib.specs.declared.coff.layout.LayoutSymbol.{LayoutSymbol}
use Rattle.implib.specs.Machine.{machine_number}
use Rattle.implib.specs.Formats.Object.{object_in}
use Rattle.implib.specs.Formats.Layout.{Fits, ObjectLayout, encoded, encoded_size, object_of}
use Rattle.implib.specs.Views.Layout.{layout_view, symbol_view}
use Rattle.implib.specs.Formats.Writer.{added_view, section_view}
use Rattle.implib.specs.Formats.Writer.{AddedSymbol, WriterState, long_names, layout_of, symbol_written}
use Rattle.implib.proofs.Formats.ObjectReading.{length-encoded, object_in-encoded}

-- the layout that is borrowed of a writer is the writer's
pub layout_same : (h : WriterState) (machine : ℕ) (sections : Bor (List Section)) (symbols : Bor (List LayoutSymbol)) (strings : Bor (List (Bor (List ℕ)))) (added : List AddedSymbol)
    → machine ≡ machine_number h.machine
    → map section_view sections.now ≡ h.sections
    → added ≡ h.symbols
    → map symbol_view symbols.now ≡ map (symbol_written (long_names added)) added
    → map (λ t. t.now) strings.now ≡ long_names added
    → layout_view (record { machine = machine; characteristics = 0; sections = sections; symbols = symbols; strings = strings }) ≡ layout_of h
unfolding layout_of
layout_same h machine sections symbols strings added m s a y n = rw (m, s, y, n, a) refl

-- parts of the program are a writer's where they show the same
pub same_holding : (h : WriterState) (machine : MachineType) (sections : List Section) (symbols : List Symbol) →
    machine ≡ h.machine → map section_view sections ≡ h.sections → map added_view symbols ≡ h.symbols → writer_state machine sections symbols ≡ h
same_holding h machine sections symbols m s y = rw (m, s, y) refl

module _ {V E : Type 0} (items : V → List ℕ) (r : Result V E) (p : ObjectLayout) (fits : Fits p) where
  -- the bytes of a layout read back as what it shows
  pub read_if_ok : IfOk r (λ v. items v ≡ encoded p) → OnOk r (encoded_size p < 2 ^ 32) → IfOk r (λ v. object_in (items v) ≡ Some (object_of p))
  read_if_ok = grind (arith, object_in-encoded)

  -- they are as many as its size
  pub length_if_ok : IfOk r (λ v. items v ≡ encoded p) → OnOk r (encoded_size p < 2 ^ 32) → IfOk r (λ v. length (items v) ≡ encoded_size p)
  length_if_ok = grind (arith, length-encoded)
