-- The objects for GNU's linker fit what a file has room for.
use Rattle.std.proofs.Common.{◌≡◌, ℕ, ◌+◌, ◌<◌, ◌≤◌, ◌^◌, Bool, true, false, if◌then◌else◌, List, [], ◌∷◌, ◌++◌, length, refl, arith, codes, length-append}
use Rattle.std.specs.Prelude.{nat_eq}
use Rattle.std.specs.List.{AllByRecursion}
use Rattle.std.proofs.lemmas.Bool.{or_parts, or_from}
use Rattle.std.proofs.lemmas.List.Folds.{list_any-append}
use Rattle.implib.specs.declared.coff.object.Place.{Place}
use Rattle.implib.specs.declared.coff.object.Place.TheVariants.{Undefined, Section}
use Rattle.implib.specs.declared.machine.MachineType.{MachineType}
use Rattle.implib.specs.declared.machine.MachineType.TheVariants.{I386, ARMNT, AMD64, ARM64}
use Rattle.implib.specs.Formats.Constants.{class_external, class_static}
use Rattle.implib.specs.Definition.{ExportView}
use Rattle.implib.specs.Members.Gnu.{added, empty_sections, export_object, export_symbols, file_symbol, head_object, head_symbol, hint_name, prefixed_symbol, iname_symbol, relocations_of_stub, relocations_of_thunk, section, mangled_name, stub, stub_relocations, tail_object, thunk, stub_bytes}
use Rattle.implib.specs.Import.{imp_symbol, holds, is_empty_text, underscore}
use Rattle.implib.specs.Members.ImportTables.{relocation, thunk_width, zeros}
use Rattle.implib.specs.Members.OlderSymbols.{object_with, older_object, older_symbol}
use Rattle.implib.specs.Formats.Object.{ObjectSection}
use Rattle.implib.specs.Formats.Layout.{Fits}
use Rattle.implib.specs.Views.Table.{CanBeHeld}
use Rattle.implib.specs.Formats.Writer.{AddedSymbol, IsPlaceAmong, WriterState, all_entries, layout_of}
use Rattle.implib.specs.Views.Writer.{IsSound, IsSoundSection, IsSoundSymbol}
use Rattle.implib.proofs.Members.MsvcObjects.{plain_section_fits, relocation_fits}
use Rattle.implib.proofs.Formats.Table.{CanBeHeld-from_sound, LieWithin}
use Rattle.implib.proofs.Formats.WriterLayout.{layout_of-fits}
use Rattle.implib.specs.LibraryName.{NamesOfDll}

-- Names.

mangled_name_byte : (stops : Bool) (b : ℕ) → nat_eq b 0 ≡ false → nat_eq (if stops then underscore else b) 0 ≡ false
mangled_name_byte true b free = refl
mangled_name_byte false b free = free

pub holds-mangled_name : (dll : List ℕ) → holds 0 dll ≡ false → holds 0 (mangled_name dll) ≡ false
unfolding mangled_name
holds-mangled_name [] free = refl
holds-mangled_name (b ∷ dll) free = grind (arith, holds-mangled_name dll (or_parts (nat_eq b 0) (holds 0 dll) free).1, or_parts, or_from, mangled_name_byte)

holds-prefixed_symbol : (machine : MachineType) (name : List ℕ) → holds 0 name ≡ false → holds 0 (prefixed_symbol machine name) ≡ false
holds-prefixed_symbol I386 name free = free
holds-prefixed_symbol ARMNT name free = free
holds-prefixed_symbol AMD64 name free = free
holds-prefixed_symbol ARM64 name free = free

filled-prefixed_symbol : (machine : MachineType) (name : List ℕ) → 0 < length name → 0 < length (prefixed_symbol machine name)
filled-prefixed_symbol I386 name filled = omega arith
filled-prefixed_symbol ARMNT name filled = filled
filled-prefixed_symbol AMD64 name filled = filled
filled-prefixed_symbol ARM64 name filled = filled

pub holds-head_symbol : (machine : MachineType) (dll : List ℕ) → holds 0 dll ≡ false → holds 0 (head_symbol machine dll) ≡ false
unfolding head_symbol
holds-head_symbol machine dll free = holds-prefixed_symbol machine _ (holds-mangled_name dll free)

pub filled-head_symbol : (machine : MachineType) (dll : List ℕ) → 0 < length (head_symbol machine dll)
unfolding head_symbol
filled-head_symbol machine dll = filled-prefixed_symbol machine _ (omega arith)

pub holds-iname_symbol : (machine : MachineType) (dll : List ℕ) → holds 0 dll ≡ false → holds 0 (iname_symbol machine dll) ≡ false
unfolding iname_symbol
holds-iname_symbol machine dll free = grind (arith, holds-prefixed_symbol, list_any-append, or_from, holds-mangled_name)

pub filled-iname_symbol : (machine : MachineType) (dll : List ℕ) → 0 < length (iname_symbol machine dll)
unfolding iname_symbol
filled-iname_symbol machine dll = filled-prefixed_symbol machine (mangled_name dll ++ codes "_iname") (omega (arith, length-append (mangled_name dll) (codes "_iname")))

pub filled_text : (text : List ℕ) → is_empty_text text ≡ false → 0 < length text
filled_text [] filled = cc
filled_text (b ∷ text) filled = omega arith

-- Sections and symbols.

plain_sound : (symbols : List AddedSymbol) (name contents : List ℕ) (flags : ℕ) → length name ≡ 8 → flags < 2 ^ 32 → IsSoundSection symbols (section name flags contents [])
plain_sound symbols name contents flags eight flags_fit = record { fits = plain_section_fits name contents flags eight flags_fit; relocations = tt }

symbol_sound : (count : ℕ) (name : List ℕ) (place : Place) (class : ℕ) → 0 < length name → holds 0 name ≡ false → IsPlaceAmong count place →
    IsSoundSymbol count (added name place class)
symbol_sound count name place class filled free among = grind arith

file_symbol_sound : (count : ℕ) → IsSoundSymbol count file_symbol
file_symbol_sound count = record { named = omega arith; no_nul = refl; value = omega arith; place = tt; aux = refl }

-- the head and tail's sections, where the last three are sound
head_and_tail_sound : (symbols : List AddedSymbol) (first second third : ObjectSection) → IsSoundSection symbols first → IsSoundSection symbols second → IsSoundSection symbols third →
    AllByRecursion (IsSoundSection symbols) (empty_sections ++ first ∷ second ∷ third ∷ [])
head_and_tail_sound symbols first second third one two three = grind (arith, plain_sound)

-- The head.

pub IsSound-head_object : (machine : MachineType) (dll : List ℕ) → holds 0 dll ≡ false → IsSound (head_object machine dll) 6
unfolding head_object
IsSound-head_object machine dll free = grind (arith, head_and_tail_sound, relocation_fits, plain_sound, file_symbol_sound, symbol_sound, filled-head_symbol, holds-head_symbol, filled-iname_symbol, holds-iname_symbol)

pub Fits-head_object : (machine : MachineType) (dll : List ℕ) → holds 0 dll ≡ false → Fits (layout_of (head_object machine dll))
Fits-head_object machine dll free = layout_of-fits (head_object machine dll) 6 (IsSound-head_object machine dll free)

head_within : (machine : MachineType) (dll : List ℕ) → AllByRecursion LieWithin (head_object machine dll).sections
unfolding head_object
head_within machine dll = (tt, (tt, (tt, ((omega arith, (omega arith, (omega arith, tt))), (tt, (tt, tt))))))

-- a writer can hold it
pub CanBeHeld-head_object : (machine : MachineType) (dll : List ℕ) → holds 0 dll ≡ false → CanBeHeld (head_object machine dll)
CanBeHeld-head_object machine dll free =
    CanBeHeld-from_sound (head_object machine dll) 6 (IsSound-head_object machine dll free) (omega arith) (head_within machine dll)

-- The tail.

pub IsSound-tail_object : (machine : MachineType) (dll : NamesOfDll) → holds 0 dll.linked ≡ false → IsSound (tail_object machine dll) 3
unfolding tail_object
IsSound-tail_object machine dll free = grind (arith, head_and_tail_sound, plain_sound, file_symbol_sound, symbol_sound, filled-iname_symbol, holds-iname_symbol)

pub Fits-tail_object : (machine : MachineType) (dll : NamesOfDll) → holds 0 dll.linked ≡ false → Fits (layout_of (tail_object machine dll))
Fits-tail_object machine dll free = layout_of-fits (tail_object machine dll) 3 (IsSound-tail_object machine dll free)

tail_within : (machine : MachineType) (dll : NamesOfDll) → AllByRecursion LieWithin (tail_object machine dll).sections
unfolding tail_object
tail_within machine dll = (tt, (tt, (tt, (tt, (tt, (tt, tt))))))

pub CanBeHeld-tail_object : (machine : MachineType) (dll : NamesOfDll) → holds 0 dll.linked ≡ false → CanBeHeld (tail_object machine dll)
CanBeHeld-tail_object machine dll free =
    CanBeHeld-from_sound (tail_object machine dll) 3 (IsSound-tail_object machine dll free) (omega arith) (tail_within machine dll)

-- An export.

-- the symbols of an export, by whether it is data, and these after them
abbrev symbols_by : List AddedSymbol → Bool → List ℕ → List ℕ → List AddedSymbol
symbols_by more is_data head name =
    added head Undefined class_external
    ∷ ((if is_data then [] else added name (Section 1) class_external ∷ [])
    ++ added (imp_symbol name) (Section 5) class_external
    ∷ added (codes ".idata$6") (Section 7) class_static
    ∷ more)

stub_sound : (more : List AddedSymbol) (machine : MachineType) (is_data : Bool) (head name : List ℕ) (contents : List ℕ) (flags : ℕ) → flags < 2 ^ 32 →
    IsSoundSection (symbols_by more is_data head name) (section (codes ".text" ++ 0 ∷ 0 ∷ 0 ∷ []) flags contents (if is_data then [] else stub_relocations machine 2))
stub_sound more machine true head name contents flags flags_fit = plain_sound (symbols_by more true head name) _ contents flags refl flags_fit
stub_sound more I386 false head name contents flags flags_fit = record {
  fits = record { name = refl; flags = flags_fit; count = omega arith; relocations = (record { offset = omega arith; symbol = omega arith; kind = omega arith }, tt) };
  relocations = (tt, tt);
}
stub_sound more ARMNT false head name contents flags flags_fit = grind arith
stub_sound more AMD64 false head name contents flags flags_fit = grind arith
stub_sound more ARM64 false head name contents flags flags_fit = grind arith

entry_sound : (more : List AddedSymbol) (machine : MachineType) (is_data no_name : Bool) (head name section_name contents : List ℕ) (flags : ℕ) → length section_name ≡ 8 → flags < 2 ^ 32 →
    IsSoundSection (symbols_by more is_data head name)
    (section section_name flags contents (if no_name then [] else relocation machine 0 (if is_data then 2 else 3) ∷ []))
entry_sound more machine is_data true head name section_name contents flags eight flags_fit = plain_sound (symbols_by more is_data head name) section_name contents flags eight flags_fit
entry_sound more machine true false head name section_name contents flags eight flags_fit = grind (arith, relocation_fits)
entry_sound more machine false false head name section_name contents flags eight flags_fit = record {
  fits = record { name = eight; flags = flags_fit; count = omega arith; relocations = (relocation_fits machine 0 3 (omega arith) (omega arith), tt) };
  relocations = (tt, tt);
}

-- the section that names the head
head_entry_sound : (more : List AddedSymbol) (machine : MachineType) (is_data : Bool) (head name section_name contents : List ℕ) (flags : ℕ) → length section_name ≡ 8 → flags < 2 ^ 32 →
    IsSoundSection (symbols_by more is_data head name) (section section_name flags contents (relocation machine 0 0 ∷ []))
head_entry_sound more machine is_data head name section_name contents flags eight flags_fit = record {
  fits = record { name = eight; flags = flags_fit; count = omega arith; relocations = (relocation_fits machine 0 0 (omega arith) (omega arith), tt) };
  relocations = (tt, tt);
}

symbols_sound : (more : List AddedSymbol) (is_data : Bool) (head name : List ℕ) → 0 < length head → holds 0 head ≡ false → 0 < length name → holds 0 name ≡ false →
    AllByRecursion (IsSoundSymbol 7) more → AllByRecursion (IsSoundSymbol 7) (symbols_by more is_data head name)
symbols_sound more true head name head_filled head_free name_filled name_free others = grind (arith, symbol_sound)
symbols_sound more false head name head_filled head_free name_filled name_free others = grind (arith, symbol_sound)

-- an export's object with these symbols after its own
abbrev object_by : List AddedSymbol → MachineType → List ℕ → ExportView → WriterState
object_by more machine dll e = object_with machine e (symbols_by more e.is_data (head_symbol machine dll) e.name)

IsSound-object_by : (more : List AddedSymbol) (machine : MachineType) (dll : List ℕ) (e : ExportView) → holds 0 dll ≡ false → holds 0 e.name ≡ false → is_empty_text e.name ≡ false →
    AllByRecursion (IsSoundSymbol 7) more → IsSound (object_by more machine dll e) (length (all_entries (symbols_by more e.is_data (head_symbol machine dll) e.name)))
unfolding stub relocations_of_stub thunk relocations_of_thunk hint_name
IsSound-object_by more machine dll e free name_free filled others = grind (arith, stub_sound, plain_sound, head_entry_sound, entry_sound, symbols_sound, filled-head_symbol, holds-head_symbol, filled_text)

pub IsSound-export_object : (machine : MachineType) (dll : List ℕ) (e : ExportView) → holds 0 dll ≡ false → holds 0 e.name ≡ false → is_empty_text e.name ≡ false →
    IsSound (export_object machine dll e) (length (all_entries (export_symbols (head_symbol machine dll) e)))
unfolding export_object
IsSound-export_object machine dll e free name_free filled = IsSound-object_by [] machine dll e free name_free filled tt

pub Fits-export_object : (machine : MachineType) (dll : List ℕ) (e : ExportView) → holds 0 dll ≡ false → holds 0 e.name ≡ false → is_empty_text e.name ≡ false →
    Fits (layout_of (export_object machine dll e))
Fits-export_object machine dll e free name_free filled = grind (arith, layout_of-fits, IsSound-export_object)

stub_within : (machine : MachineType) (is_data : Bool) → LieWithin (section [] 0 (if is_data then [] else stub_bytes machine) (if is_data then [] else stub_relocations machine 2))
stub_within machine true = tt
stub_within I386 false = (omega arith, tt)
stub_within ARMNT false = (omega arith, tt)
stub_within AMD64 false = (omega arith, tt)
stub_within ARM64 false = (omega arith, (omega arith, tt))

entry_within : (machine : MachineType) (no_name : Bool) (by_ordinal : List ℕ) (symbol : ℕ) →
    LieWithin (section [] 0 (if no_name then by_ordinal else zeros (thunk_width machine)) (if no_name then [] else relocation machine 0 symbol ∷ []))
entry_within machine true by_ordinal symbol = tt
entry_within I386 false by_ordinal symbol = (omega arith, tt)
entry_within ARMNT false by_ordinal symbol = (omega arith, tt)
entry_within AMD64 false by_ordinal symbol = (omega arith, tt)
entry_within ARM64 false by_ordinal symbol = (omega arith, tt)

object_within : (more : List AddedSymbol) (machine : MachineType) (dll : List ℕ) (e : ExportView) → AllByRecursion LieWithin (object_by more machine dll e).sections
unfolding stub relocations_of_stub thunk relocations_of_thunk
object_within more machine dll e = grind (arith, stub_within, entry_within)

few_entries : (more : List AddedSymbol) (head : List ℕ) (e : ExportView) → length (all_entries (symbols_by more e.is_data head e.name)) ≤ 4 + length (all_entries more)
few_entries more head e = grind arith

CanBeHeld-object_by : (more : List AddedSymbol) (machine : MachineType) (dll : List ℕ) (e : ExportView) → holds 0 dll ≡ false → holds 0 e.name ≡ false → is_empty_text e.name ≡ false →
    AllByRecursion (IsSoundSymbol 7) more → length (all_entries more) ≤ 1 → CanBeHeld (object_by more machine dll e)
CanBeHeld-object_by more machine dll e free name_free filled others few =
    CanBeHeld-from_sound (object_by more machine dll e) (length (all_entries (symbols_by more e.is_data (head_symbol machine dll) e.name))) (IsSound-object_by more machine dll e free name_free filled others)
    (omega (arith, few_entries more (head_symbol machine dll) e, few)) (object_within more machine dll e)

pub CanBeHeld-export_object : (machine : MachineType) (dll : List ℕ) (e : ExportView) → holds 0 dll ≡ false → holds 0 e.name ≡ false → is_empty_text e.name ≡ false →
    CanBeHeld (export_object machine dll e)
unfolding export_object
CanBeHeld-export_object machine dll e free name_free filled = CanBeHeld-object_by [] machine dll e free name_free filled tt (omega arith)

-- With an older symbol of the address.

-- the symbol after the others
abbrev older : ExportView → AddedSymbol
older e = added (older_symbol e.name) (Section 5) class_external

older_sound : (e : ExportView) → holds 0 e.name ≡ false → AllByRecursion (IsSoundSymbol 7) (older e ∷ [])
older_sound e name_free = (symbol_sound 7 (older_symbol e.name) (Section 5) class_external (omega arith) name_free (omega arith, omega arith), tt)

pub Fits-older_object : (machine : MachineType) (dll : List ℕ) (e : ExportView) → holds 0 dll ≡ false → holds 0 e.name ≡ false → is_empty_text e.name ≡ false →
    Fits (layout_of (older_object machine dll e))
unfolding older_object
Fits-older_object machine dll e free name_free filled = grind (arith, layout_of-fits, IsSound-object_by, older_sound)

pub CanBeHeld-older_object : (machine : MachineType) (dll : List ℕ) (e : ExportView) → holds 0 dll ≡ false → holds 0 e.name ≡ false → is_empty_text e.name ≡ false →
    CanBeHeld (older_object machine dll e)
unfolding older_object
CanBeHeld-older_object machine dll e free name_free filled =
    CanBeHeld-object_by (older e ∷ []) machine dll e free name_free filled (older_sound e name_free) (omega arith)
