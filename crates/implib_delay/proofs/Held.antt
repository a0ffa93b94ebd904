-- The objects of delayed imports fit what a file has room for.
use Rattle.std.proofs.Common.{◌≡◌, ℕ, ◌+◌, ◌<◌, ◌^◌, Bool, true, false, if◌then◌else◌, List, [], ◌∷◌, ◌++◌, length, refl, arith, codes}
use Rattle.std.specs.List.{AllByRecursion}
use Rattle.std.proofs.lemmas.Bool.{or_from}
use Rattle.std.proofs.lemmas.List.Folds.{list_any-append}
use Rattle.implib.specs.declared.coff.object.Place.{Place}
use Rattle.implib.specs.declared.coff.object.Place.TheVariants.{Undefined, Section}
use Rattle.implib.specs.declared.machine.MachineType.{MachineType}
use Rattle.implib.specs.declared.machine.MachineType.TheVariants.{I386, ARMNT, AMD64, ARM64}
use Rattle.implib.specs.Definition.{ExportView}
use Rattle.implib.specs.Formats.Constants.{align_16bytes, align_4bytes, class_external, class_static, cnt_code, mem_execute_read}
use Rattle.implib.specs.Machine.{is_32bit}
use Rattle.implib_delay.specs.Code.{stub_code, tail_code}
use Rattle.implib.specs.Formats.Layout.{Fits, FitsRelocation}
use Rattle.implib.proofs.Formats.WriterLayout.{layout_of-fits}
use Rattle.implib.specs.Formats.Writer.{AddedSymbol, IsPlaceAmong, IsSymbolIndex, WriterState, layout_of}
use Rattle.implib.specs.Import.{holds, is_empty_text}
use Rattle.implib.specs.LibraryName.{NamesOfDll}
use Rattle.implib.specs.Members.Gnu.{added, data_name, mangled_name, section, text_name, thunk}
use Rattle.implib.specs.Members.ImportTables.{relocation, thunk_flags, thunk_width, zeros}
use Rattle.implib.specs.Views.Table.{CanBeHeld}
use Rattle.implib.specs.Views.Writer.{IsSound, IsSoundSection, IsSoundSymbol}
use Rattle.implib.proofs.Formats.Table.{CanBeHeld-from_sound, LieWithin}
use Rattle.implib.proofs.Members.GnuObjects.{filled_text, holds-mangled_name}
use Rattle.implib.proofs.Members.MsvcObjects.{plain_section_fits, relocation_fits}
use Rattle.implib_delay.specs.Names.{handle_symbol, helper_symbol, name_symbol, tail_symbol}
use Rattle.implib_delay.specs.Objects.{export_object, export_symbols, head_object, mode_of, relocated, read_only_flags, stub_relocations, tail_object, tail_relocations, unbound_entry, unwind_codes, unwound_function, word_kind}

-- Names.

-- a text around the library's name has no NUL, and begins
around_free : (before library after : List ℕ) → holds 0 before ≡ false → holds 0 library ≡ false → holds 0 after ≡ false → holds 0 (before ++ (mangled_name library ++ after)) ≡ false
around_free before library after one two three = grind (arith, list_any-append, or_from, holds-mangled_name)

pub tail_symbol-free : (machine : MachineType) (library : List ℕ) → holds 0 library ≡ false → holds 0 (tail_symbol machine library) ≡ false
unfolding tail_symbol
tail_symbol-free I386 library free = around_free (codes "___tailMerge_") library [] refl free refl
tail_symbol-free ARMNT library free = around_free (codes "__tailMerge_") library [] refl free refl
tail_symbol-free AMD64 library free = around_free (codes "__tailMerge_") library [] refl free refl
tail_symbol-free ARM64 library free = around_free (codes "__tailMerge_") library [] refl free refl

pub tail_symbol-filled : (machine : MachineType) (library : List ℕ) → 0 < length (tail_symbol machine library)
unfolding tail_symbol
tail_symbol-filled I386 library = omega arith
tail_symbol-filled ARMNT library = omega arith
tail_symbol-filled AMD64 library = omega arith
tail_symbol-filled ARM64 library = omega arith

pub handle_symbol-free : (library : List ℕ) → holds 0 library ≡ false → holds 0 (handle_symbol library) ≡ false
unfolding handle_symbol
handle_symbol-free library free = around_free (codes "__DLL_HANDLE_") library [] refl free refl

pub handle_symbol-filled : (library : List ℕ) → 0 < length (handle_symbol library)
unfolding handle_symbol
handle_symbol-filled library = omega arith

pub name_symbol-free : (library : List ℕ) → holds 0 library ≡ false → holds 0 (name_symbol library) ≡ false
unfolding name_symbol
name_symbol-free library free = around_free (codes "__") library (codes "_iname") refl free refl

pub name_symbol-filled : (library : List ℕ) → 0 < length (name_symbol library)
unfolding name_symbol
name_symbol-filled library = omega arith

helper_symbol-free : (machine : MachineType) → holds 0 (helper_symbol machine) ≡ false
unfolding helper_symbol
helper_symbol-free I386 = refl
helper_symbol-free ARMNT = refl
helper_symbol-free AMD64 = refl
helper_symbol-free ARM64 = refl

helper_symbol-filled : (machine : MachineType) → 0 < length (helper_symbol machine)
unfolding helper_symbol
helper_symbol-filled I386 = omega arith
helper_symbol-filled ARMNT = omega arith
helper_symbol-filled AMD64 = omega arith
helper_symbol-filled ARM64 = omega arith

-- Sections, relocations and symbols.

plain_sound : (symbols : List AddedSymbol) (name contents : List ℕ) (flags : ℕ) → length name ≡ 8 → flags < 2 ^ 32 → IsSoundSection symbols (section name flags contents [])
plain_sound symbols name contents flags eight flags_fit = record { fits = plain_section_fits name contents flags eight flags_fit; relocations = tt }

symbol_sound : (count : ℕ) (name : List ℕ) (place : Place) (class : ℕ) → 0 < length name → holds 0 name ≡ false → IsPlaceAmong count place →
    IsSoundSymbol count (added name place class)
symbol_sound count name place class filled free among = grind arith

thunk_flags_fit : (machine : MachineType) → thunk_flags machine < 2 ^ 32
thunk_flags_fit I386 = omega arith
thunk_flags_fit ARMNT = omega arith
thunk_flags_fit AMD64 = omega arith
thunk_flags_fit ARM64 = omega arith

fits : (offset index kind : ℕ) → offset < 2 ^ 32 → index < 2 ^ 32 → kind < 2 ^ 16 → FitsRelocation (relocated offset index kind)
fits offset index kind one two three = record { offset = one; symbol = two; kind = three }

word_kind_fits : (machine : MachineType) → word_kind machine < 2 ^ 16
word_kind_fits I386 = omega arith
word_kind_fits ARMNT = omega arith
word_kind_fits AMD64 = omega arith
word_kind_fits ARM64 = omega arith

-- The tail.

pub IsSound-tail_object : (machine : MachineType) (dll : NamesOfDll) → holds 0 dll.linked ≡ false → IsSound (tail_object machine dll) 1
unfolding tail_object
IsSound-tail_object machine dll free = grind (arith, plain_sound, thunk_flags_fit, symbol_sound, name_symbol-filled, name_symbol-free)

tail_within : (machine : MachineType) (dll : NamesOfDll) → AllByRecursion LieWithin (tail_object machine dll).sections
unfolding tail_object
tail_within machine dll = (tt, (tt, (tt, tt)))

pub CanBeHeld-tail_object : (machine : MachineType) (dll : NamesOfDll) → holds 0 dll.linked ≡ false → CanBeHeld (tail_object machine dll)
CanBeHeld-tail_object machine dll free =
    CanBeHeld-from_sound (tail_object machine dll) 1 (IsSound-tail_object machine dll free) (omega arith) (tail_within machine dll)

-- The head, where addresses have 32 bits and where they have 64.

abbrev head32 : MachineType → List ℕ → WriterState
head32 machine library = record {
  machine = machine;
  sections =
      section text_name (cnt_code + align_16bytes + mem_execute_read) (tail_code (mode_of machine)) (tail_relocations machine)
      ∷ section data_name (thunk_flags machine) (zeros 4) []
      ∷ [];
  symbols =
      added (tail_symbol machine library) (Section 1) class_external
      ∷ added (handle_symbol library) (Section 2) class_external
      ∷ added (helper_symbol machine) Undefined class_external
      ∷ [];
}

abbrev head64 : MachineType → List ℕ → WriterState
head64 machine library = record {
  machine = machine;
  sections =
      section text_name (cnt_code + align_16bytes + mem_execute_read) (tail_code (mode_of machine)) (tail_relocations machine)
      ∷ section data_name (thunk_flags machine) (zeros 8) []
      ∷ section (codes ".xdata" ++ zeros 2) read_only_flags unwind_codes []
      ∷ section (codes ".pdata" ++ zeros 2) read_only_flags unwound_function (relocation machine 0 3 ∷ relocation machine 4 3 ∷ relocation machine 8 4 ∷ [])
      ∷ [];
  symbols =
      added (tail_symbol machine library) (Section 1) class_external
      ∷ added (handle_symbol library) (Section 2) class_external
      ∷ added (helper_symbol machine) Undefined class_external
      ∷ added (codes ".text") (Section 1) class_static
      ∷ added (codes ".xdata") (Section 3) class_static
      ∷ [];
}

-- the code of the tail
code_sound : (machine : MachineType) (symbols : List AddedSymbol) → IsSymbolIndex symbols 2 →
    IsSoundSection symbols (section text_name (cnt_code + align_16bytes + mem_execute_read) (tail_code (mode_of machine)) (tail_relocations machine))
code_sound I386 symbols named = record { fits = record { name = refl; flags = omega arith; count = omega arith; relocations = (fits 8 2 20 (omega arith) (omega arith) (omega arith), tt) }; relocations = (named, tt) }
code_sound ARMNT symbols named = record { fits = record { name = refl; flags = omega arith; count = omega arith; relocations = (fits 8 2 20 (omega arith) (omega arith) (omega arith), tt) }; relocations = (named, tt) }
code_sound AMD64 symbols named = record { fits = record { name = refl; flags = omega arith; count = omega arith; relocations = (fits 0x4C 2 4 (omega arith) (omega arith) (omega arith), tt) }; relocations = (named, tt) }
code_sound ARM64 symbols named = record { fits = record { name = refl; flags = omega arith; count = omega arith; relocations = (fits 0x4C 2 4 (omega arith) (omega arith) (omega arith), tt) }; relocations = (named, tt) }

code_within : (machine : MachineType) → LieWithin (section [] 0 (tail_code (mode_of machine)) (tail_relocations machine))
unfolding tail_code
code_within I386 = (omega arith, tt)
code_within ARMNT = (omega arith, tt)
code_within AMD64 = (omega arith, tt)
code_within ARM64 = (omega arith, tt)

pub head_object-32 : (machine : MachineType) (library : List ℕ) → is_32bit machine ≡ true → head_object machine library ≡ head32 machine library
unfolding head_object
head_object-32 I386 library width = refl
head_object-32 ARMNT library width = refl
head_object-32 AMD64 library width = cc
head_object-32 ARM64 library width = cc

pub head_object-64 : (machine : MachineType) (library : List ℕ) → is_32bit machine ≡ false → head_object machine library ≡ head64 machine library
unfolding head_object
head_object-64 I386 library width = cc
head_object-64 ARMNT library width = cc
head_object-64 AMD64 library width = refl
head_object-64 ARM64 library width = refl

IsSound-head32 : (machine : MachineType) (library : List ℕ) → holds 0 library ≡ false → IsSound (head32 machine library) 3
IsSound-head32 machine library free =
    let symbols = (head32 machine library).symbols in
    record {
      few = omega arith;
      records = refl;
      sections = grind (arith, code_sound, plain_sound, thunk_flags_fit);
      symbols = grind (arith, symbol_sound, tail_symbol-filled, tail_symbol-free, handle_symbol-filled, handle_symbol-free, helper_symbol-filled, helper_symbol-free);
    }

IsSound-head64 : (machine : MachineType) (library : List ℕ) → holds 0 library ≡ false → IsSound (head64 machine library) 5
IsSound-head64 machine library free =
    let symbols = (head64 machine library).symbols in
    record {
      few = omega arith;
      records = refl;
      sections = grind (arith, code_sound, plain_sound, thunk_flags_fit, fits, relocation_fits);
      symbols = grind (arith, symbol_sound, tail_symbol-filled, tail_symbol-free, handle_symbol-filled, handle_symbol-free, helper_symbol-filled, helper_symbol-free);
    }

pub CanBeHeld-head32 : (machine : MachineType) (library : List ℕ) → holds 0 library ≡ false → CanBeHeld (head32 machine library)
CanBeHeld-head32 machine library free =
    CanBeHeld-from_sound (head32 machine library) 3 (IsSound-head32 machine library free) (omega arith) (code_within machine, (tt, tt))

pub CanBeHeld-head64 : (machine : MachineType) (library : List ℕ) → holds 0 library ≡ false → CanBeHeld (head64 machine library)
CanBeHeld-head64 machine library free =
    CanBeHeld-from_sound (head64 machine library) 5 (IsSound-head64 machine library free) (omega arith)
    (code_within machine, (tt, (tt, ((omega arith, (omega arith, (omega arith, tt))), tt))))

pub Fits-head_object : (machine : MachineType) (library : List ℕ) → holds 0 library ≡ false → Fits (layout_of (head_object machine library))
unfolding head_object
Fits-head_object I386 library free = layout_of-fits (head32 I386 library) 3 (IsSound-head32 I386 library free)
Fits-head_object ARMNT library free = layout_of-fits (head32 ARMNT library) 3 (IsSound-head32 ARMNT library free)
Fits-head_object AMD64 library free = layout_of-fits (head64 AMD64 library) 5 (IsSound-head64 AMD64 library free)
Fits-head_object ARM64 library free = layout_of-fits (head64 ARM64 library) 5 (IsSound-head64 ARM64 library free)

-- An export.

stub_sound : (machine : MachineType) (symbols : List AddedSymbol) → AllByRecursion (λ r. IsSymbolIndex symbols r.symbol) (stub_relocations machine) →
    IsSoundSection symbols (section text_name (cnt_code + align_4bytes + mem_execute_read) (stub_code (mode_of machine)) (stub_relocations machine))
stub_sound I386 symbols named = record { fits = record { name = refl; flags = omega arith; count = omega arith; relocations = (fits _ _ _ (omega arith) (omega arith) (omega arith), (fits _ _ _ (omega arith) (omega arith) (omega arith), (fits _ _ _ (omega arith) (omega arith) (omega arith), (fits _ _ _ (omega arith) (omega arith) (omega arith), tt)))) }; relocations = named }
stub_sound ARMNT symbols named = record { fits = record { name = refl; flags = omega arith; count = omega arith; relocations = (fits _ _ _ (omega arith) (omega arith) (omega arith), (fits _ _ _ (omega arith) (omega arith) (omega arith), (fits _ _ _ (omega arith) (omega arith) (omega arith), (fits _ _ _ (omega arith) (omega arith) (omega arith), tt)))) }; relocations = named }
stub_sound AMD64 symbols named = record { fits = record { name = refl; flags = omega arith; count = omega arith; relocations = (fits _ _ _ (omega arith) (omega arith) (omega arith), (fits _ _ _ (omega arith) (omega arith) (omega arith), (fits _ _ _ (omega arith) (omega arith) (omega arith), (fits _ _ _ (omega arith) (omega arith) (omega arith), tt)))) }; relocations = named }
stub_sound ARM64 symbols named = record { fits = record { name = refl; flags = omega arith; count = omega arith; relocations = (fits _ _ _ (omega arith) (omega arith) (omega arith), (fits _ _ _ (omega arith) (omega arith) (omega arith), (fits _ _ _ (omega arith) (omega arith) (omega arith), (fits _ _ _ (omega arith) (omega arith) (omega arith), tt)))) }; relocations = named }

thunk_sound : (machine : MachineType) (no_name : Bool) (symbols : List AddedSymbol) (contents : List ℕ) → IsSymbolIndex symbols 9 →
    IsSoundSection symbols (section (codes ".didat$4") (thunk_flags machine) contents (if no_name then [] else relocation machine 0 9 ∷ []))
thunk_sound machine true symbols contents named = plain_sound symbols (codes ".didat$4") contents _ refl (thunk_flags_fit machine)
thunk_sound machine false symbols contents named = grind (arith, fits, thunk_flags_fit, relocation_fits)

pub IsSound-export_object : (machine : MachineType) (library : List ℕ) (e : ExportView) → holds 0 library ≡ false → holds 0 e.name ≡ false → is_empty_text e.name ≡ false →
    IsSound (export_object machine library e) 10
unfolding export_object
IsSound-export_object machine library e free name_free filled =
    let symbols : List AddedSymbol = export_symbols machine library e in
    record {
      few = omega arith;
      records = refl;
      sections = grind (arith, stub_sound, fits, relocation_fits, thunk_flags_fit, word_kind_fits, thunk_sound, plain_sound);
      symbols = grind (arith, symbol_sound, filled_text, tail_symbol-filled, tail_symbol-free, name_symbol-filled, name_symbol-free, handle_symbol-filled, handle_symbol-free);
    }

stub_within : (machine : MachineType) → LieWithin (section [] 0 (stub_code (mode_of machine)) (stub_relocations machine))
stub_within I386 = (omega arith, (omega arith, (omega arith, (omega arith, tt))))
stub_within ARMNT = (omega arith, (omega arith, (omega arith, (omega arith, tt))))
stub_within AMD64 = (omega arith, (omega arith, (omega arith, (omega arith, tt))))
stub_within ARM64 = (omega arith, (omega arith, (omega arith, (omega arith, tt))))

entry_within : (machine : MachineType) → LieWithin (section [] 0 (unbound_entry machine) (relocated 0 5 (word_kind machine) ∷ []))
entry_within I386 = (omega arith, tt)
entry_within ARMNT = (omega arith, tt)
entry_within AMD64 = (omega arith, tt)
entry_within ARM64 = (omega arith, tt)

thunk_within : (machine : MachineType) (no_name : Bool) (by_ordinal : List ℕ) →
    LieWithin (section [] 0 (if no_name then by_ordinal else zeros (thunk_width machine)) (if no_name then [] else relocation machine 0 9 ∷ []))
thunk_within machine true by_ordinal = tt
thunk_within I386 false by_ordinal = (omega arith, tt)
thunk_within ARMNT false by_ordinal = (omega arith, tt)
thunk_within AMD64 false by_ordinal = (omega arith, tt)
thunk_within ARM64 false by_ordinal = (omega arith, tt)

export_within : (machine : MachineType) (library : List ℕ) (e : ExportView) → AllByRecursion LieWithin (export_object machine library e).sections
unfolding export_object thunk
export_within machine library e = grind (arith, stub_within, entry_within, thunk_within)

pub CanBeHeld-export_object : (machine : MachineType) (library : List ℕ) (e : ExportView) → holds 0 library ≡ false → holds 0 e.name ≡ false → is_empty_text e.name ≡ false →
    CanBeHeld (export_object machine library e)
CanBeHeld-export_object machine library e free name_free filled =
    CanBeHeld-from_sound (export_object machine library e) 10 (IsSound-export_object machine library e free name_free filled) (omega arith) (export_within machine library e)
