-- The objects for Microsoft's linker fit what a file has room for.
use Rattle.std.proofs.Common.{◌≡◌, ℕ, ◌-◌, ◌<◌, ◌≤◌, ◌^◌, Bool, true, false, if◌then◌else◌, List, [], ◌∷◌, length, take, refl, arith, zero, suc}
use Rattle.std.specs.Prelude.{nat_eq}
use Rattle.std.proofs.lemmas.Bool.{or_parts, or_from}
use Rattle.std.proofs.lemmas.List.Folds.{list_any-append}
use Rattle.implib.specs.declared.machine.MachineType.{MachineType}
use Rattle.implib.specs.declared.machine.MachineType.TheVariants.{I386, ARMNT, AMD64, ARM64}
use Rattle.implib.specs.Import.{holds}
use Rattle.implib.specs.Machine.{machine_number}
use Rattle.implib.specs.Formats.Bytes.{u32_bytes}
use Rattle.implib.specs.Formats.Constants.{image_relative}
use Rattle.implib.specs.Members.ImportTables.{relocation}
use Rattle.implib.specs.Members.MsvcObjects.{descriptor_characteristics, base_name, descriptor, descriptor_symbol, null_descriptor, null_descriptor_symbol, null_thunk, null_thunk_section, null_thunk_symbol}
use Rattle.implib.specs.Members.WeakExternal.{weak_auxiliary, weak_object}
use Rattle.implib.specs.Formats.Object.{ObjectSection}
use Rattle.implib.specs.Formats.Layout.{symbol, ObjectLayout, LayoutSymbol, Fits, FitsRelocation, FitsSection, FitsSymbol, InRecord, InStringTable}
use Rattle.implib.specs.LibraryName.{NamesOfDll}

-- the front of a text without NUL has none
holds-take : (n : ℕ) (text : List ℕ) → holds 0 text ≡ false → holds 0 (take n text) ≡ false
holds-take zero text free = refl
holds-take (suc n) [] free = refl
holds-take (suc n) (b ∷ text) free = grind (arith, holds-take n text (or_parts (nat_eq b 0) (holds 0 text) free).1, or_parts, or_from)

holds-chosen : (test : Bool) (first second : List ℕ) → holds 0 first ≡ false → holds 0 second ≡ false → holds 0 (if test then first else second) ≡ false
holds-chosen true first second first_free second_free = first_free
holds-chosen false first second first_free second_free = second_free

holds-base_name : (dll : List ℕ) → holds 0 dll ≡ false → holds 0 (base_name dll) ≡ false
unfolding base_name
holds-base_name dll free = holds-chosen _ (take (length dll - 4) dll) dll (holds-take (length dll - 4) dll free) free

pub holds-descriptor_symbol : (dll : List ℕ) → holds 0 dll ≡ false → holds 0 (descriptor_symbol dll) ≡ false
unfolding descriptor_symbol
holds-descriptor_symbol dll free = holds-base_name dll free

pub holds-null_descriptor_symbol : holds 0 null_descriptor_symbol ≡ false
unfolding null_descriptor_symbol
holds-null_descriptor_symbol = refl

pub holds-null_thunk_symbol : (dll : List ℕ) → holds 0 dll ≡ false → holds 0 (null_thunk_symbol dll) ≡ false
unfolding null_thunk_symbol
holds-null_thunk_symbol dll free = grind (arith, list_any-append, or_from, holds-base_name)

machine_fits : (machine : MachineType) → machine_number machine < 2 ^ 16
machine_fits I386 = omega arith
machine_fits ARMNT = omega arith
machine_fits AMD64 = omega arith
machine_fits ARM64 = omega arith

pub image_relative_fits : (machine : MachineType) → image_relative machine < 2 ^ 16
image_relative_fits I386 = omega arith
image_relative_fits ARMNT = omega arith
image_relative_fits AMD64 = omega arith
image_relative_fits ARM64 = omega arith

descriptor_characteristics_fits : (machine : MachineType) → descriptor_characteristics machine < 2 ^ 16
descriptor_characteristics_fits I386 = omega arith
descriptor_characteristics_fits ARMNT = omega arith
descriptor_characteristics_fits AMD64 = omega arith
descriptor_characteristics_fits ARM64 = omega arith

pub relocation_fits : (machine : MachineType) (offset index : ℕ) → offset < 2 ^ 32 → index < 2 ^ 32 → FitsRelocation (relocation machine offset index)
relocation_fits machine offset index offset_fits index_fits = record { offset = offset_fits; symbol = index_fits; kind = image_relative_fits machine }

-- a symbol whose name is listed
listed_fits : (strings : List (List ℕ)) (index section class : ℕ) → index < length strings → section < 2 ^ 16 → FitsSymbol strings (symbol (InStringTable index) section class)
listed_fits strings index section class listed section_fits = record { name = listed; value = omega arith; section = section_fits; aux = tt }

-- a symbol whose name is in its record
in_record_fits : (strings : List (List ℕ)) (name : List ℕ) (section class : ℕ) → 0 < length name → length name ≤ 8 → holds 0 name ≡ false → section < 2 ^ 16 →
    FitsSymbol strings (symbol (InRecord name) section class)
in_record_fits strings name section class some few free section_fits = grind arith

-- a section without relocations
pub plain_section_fits : (name contents : List ℕ) (flags : ℕ) → length name ≡ 8 → flags < 2 ^ 32 → FitsSection (record { name = name; flags = flags; bytes = contents; relocations = [] })
plain_section_fits name contents flags eight flags_fit = record { name = eight; flags = flags_fit; count = omega arith; relocations = tt }

-- the import descriptor fits
pub Fits-descriptor : (machine : MachineType) (dll : NamesOfDll) → holds 0 dll.linked ≡ false → Fits (descriptor machine dll)
unfolding descriptor
Fits-descriptor machine dll free = grind (arith, machine_fits, descriptor_characteristics_fits, relocation_fits, plain_section_fits, listed_fits, in_record_fits, holds-descriptor_symbol, holds-null_descriptor_symbol, holds-null_thunk_symbol)

-- the null descriptor fits
pub Fits-null_descriptor : (machine : MachineType) → Fits (null_descriptor machine)
unfolding null_descriptor
Fits-null_descriptor machine = grind (arith, machine_fits, descriptor_characteristics_fits, plain_section_fits, listed_fits, holds-null_descriptor_symbol)

null_thunk_section_fits : (machine : MachineType) (name : List ℕ) → length name ≡ 8 → FitsSection (null_thunk_section machine name)
null_thunk_section_fits I386 name eight = plain_section_fits name _ _ eight (omega arith)
null_thunk_section_fits ARMNT name eight = plain_section_fits name _ _ eight (omega arith)
null_thunk_section_fits AMD64 name eight = plain_section_fits name _ _ eight (omega arith)
null_thunk_section_fits ARM64 name eight = plain_section_fits name _ _ eight (omega arith)

-- the null thunk fits
pub Fits-null_thunk : (machine : MachineType) (dll : List ℕ) → holds 0 dll ≡ false → Fits (null_thunk machine dll)
unfolding null_thunk
Fits-null_thunk machine dll free = grind (arith, machine_fits, descriptor_characteristics_fits, null_thunk_section_fits, listed_fits, holds-null_thunk_symbol)

length-weak_auxiliary : length (weak_auxiliary 2) ≡ 18
unfolding u32_bytes
length-weak_auxiliary = refl

-- a weak external fits
pub Fits-weak_object : (machine : MachineType) (weak target : List ℕ) → holds 0 weak ≡ false → holds 0 target ≡ false → Fits (weak_object machine weak target)
unfolding weak_object
Fits-weak_object machine weak target weak_free target_free = grind (arith, machine_fits, plain_section_fits, in_record_fits, listed_fits, length-weak_auxiliary)

-- A layout of the program is a table where its parts are.

pub same_layout : (q : ObjectLayout) (machine characteristics : ℕ) (sections : List ObjectSection) (symbols : List LayoutSymbol) (strings : List (List ℕ)) →
    machine ≡ q.machine → characteristics ≡ q.characteristics → sections ≡ q.sections → symbols ≡ q.symbols → strings ≡ q.strings →
    q ≡ record { machine = machine; characteristics = characteristics; sections = sections; symbols = symbols; strings = strings }
same_layout q machine characteristics sections symbols strings same_machine same_characteristics same_sections same_symbols same_strings = grind arith
