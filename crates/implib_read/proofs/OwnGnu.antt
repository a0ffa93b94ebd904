-- The members that `implib` makes for GNU's linker, as this reader has them.
use Rattle.std.proofs.Common.{◌≡◌, ◌∙◌, ℕ, ◌+◌, Bool, true, false, List, [], ◌∷◌, ◌++◌, Option, Some, ap, arith, bytes_eq, codes, length, nat_eq, nat_le, refl, reverse, slice_index, subst, sym}
use Rattle.std.specs.List.{AllByRecursion, count_by}
use Rattle.std.specs.Option.{option_and_then, option_map}
use Rattle.std.proofs.lemmas.Bool.{false_from_ne_true}
use Rattle.std.proofs.lemmas.List.{reverse-append}
use Rattle.std.proofs.lemmas.List.Sums.{sum_by-append}
use Rattle.std.proofs.lemmas.Slice.Eq.{bytes_eq-Decides}
use Rattle.implib.specs.declared.machine.MachineType.{MachineType}
use Rattle.implib.specs.declared.machine.MachineType.TheVariants.{I386, ARMNT, AMD64, ARM64}
use Rattle.implib.specs.Definition.{ExportView}
use Rattle.implib.specs.Formats.Bytes.{u16_bytes, u32_bytes}
use Rattle.implib.specs.Formats.File.{File, ObjectFile, Meaning}
use Rattle.implib.specs.Formats.Layout.{entries_of, name_text, object_of}
use Rattle.implib.specs.Formats.Object.{Object, ObjectSection, before_nul, bytes_at, u16_at, u32_at}
use Rattle.implib.specs.Formats.Writer.{written_object}
use Rattle.implib.specs.Import.{Alias, Ask, Import, imp_symbol, name_asked}
use Rattle.implib.specs.LibraryName.{NamesOfDll}
use Rattle.implib.specs.Underscore.{leading_underscore}
use Rattle.implib.specs.Members.Gnu.{export_object, head_object, head_symbol, hint_name, iname_symbol, mangled_name, relocations_of_stub, relocations_of_thunk, stub, tail_object, thunk}
use Rattle.implib.specs.Members.GnuMembers.{alias_specs, export_spec, numbered_specs, numbered_specs_of}
use Rattle.implib.specs.Members.GnuReader.{alias_or_import, ask_by_name, ask_of_export, dll_by_names, import_from, import_of, meaning_with}
use Rattle.implib.specs.Members.ReadBack.{file_of}
use Rattle.implib.specs.Members.WeakExternal.{weak_object}
use Rattle.implib.proofs.Formats.WriterLayout.{object_of-layout_of}
use Rattle.implib.proofs.Members.MemberReadings.{all_append}
use Rattle.implib_read.specs.Classes.{Imported, class_of_file, class_with}
use Rattle.implib_read.specs.Files.{definer_among}
use Rattle.implib_read.specs.Files.{File as FoundFile, ObjectFile as FoundObject}
use Rattle.implib_read.specs.Following.{Place, further, only_in, pointed, pointed_by, spot_of, text_at}
use Rattle.implib_read.specs.Imports.{ask_of_object, dll_of_object, hint_and_name, import_of_object}
use Rattle.implib_read.specs.OwnLibraries.{meaning_of_class}
use Rattle.implib_read.proofs.OwnMembers.{found_of}

-- The symbols of the head and of the DLL's name differ: one has more bytes `h` than the other.

is_h : ℕ → Bool
is_h byte = nat_eq byte 104

of_h : List ℕ → ℕ
of_h text = count_by is_h text

of_h-append : (xs ys : List ℕ) → of_h (xs ++ ys) ≡ of_h xs + of_h ys
unfolding of_h
of_h-append xs ys = sum_by-append _ xs ys

of_head : of_h (codes "_head_") ≡ 1
unfolding of_h is_h
of_head = refl

of_iname : of_h (codes "_iname") ≡ 0
unfolding of_h is_h
of_iname = refl

head_differs : (machine : MachineType) (dll : List ℕ) → bytes_eq (iname_symbol machine dll) (head_symbol machine dll) ≡ false
unfolding head_symbol iname_symbol
head_differs machine dll =
    let front = leading_underscore machine in
    let name = mangled_name dll in
    false_from_ne_true (bytes_eq (front ++ (name ++ codes "_iname")) (front ++ (codes "_head_" ++ name)))
    (λ is.
    let same = ap of_h ((bytes_eq-Decides (front ++ (name ++ codes "_iname")) (front ++ (codes "_head_" ++ name))).0 is) in
    omega (arith, same, of_h-append front (name ++ codes "_iname"), of_h-append front (codes "_head_" ++ name), of_h-append name (codes "_iname"), of_h-append (codes "_head_") name, of_head, of_iname))

same_text : (text : List ℕ) → bytes_eq text text ≡ true
same_text text = (bytes_eq-Decides text text).1 refl

-- With the tail and the head in front.
module _ (machine : MachineType) (dll : NamesOfDll) (others : List FoundFile) where
  abbrev tail : Object
  tail = written_object (tail_object machine dll)

  abbrev head : Object
  head = written_object (head_object machine dll.linked)

  abbrev defined : List ℕ → Option Place
  defined = definer_among (FoundObject tail ∷ FoundObject head ∷ others)

  -- the DLL's name, from where its symbol is defined
  name_from : Option Place → Option (List ℕ)
  name_from place = option_and_then text_at (option_and_then (spot_of 0) place)

  -- the DLL's name, from where the descriptor is defined
  dll_from : Option Place → Option (List ℕ)
  dll_from place =
      option_and_then text_at (option_and_then (λ at. pointed defined (further 12 at)) (option_and_then (only_in (codes ".idata$2")) (option_and_then (spot_of 0) place)))

  -- where the tail defines the DLL's name
  tail_place : Option Place
  tail_place = Some (record { object = tail; symbol = record { name = iname_symbol machine dll.linked; value = 0; section = 6; kind = 0; class = 2 } })

  head_place : Option Place
  head_place = Some (record { object = head; symbol = record { name = head_symbol machine dll.linked; value = 0; section = 4; kind = 0; class = 2 } })

  iname_defined : defined (iname_symbol machine dll.linked) ≡ tail_place
  unfolding tail_object tail_place
  iname_defined = rw (same_text (iname_symbol machine dll.linked)) refl

  head_defined : defined (head_symbol machine dll.linked) ≡ head_place
  unfolding tail_object head_object head_place
  head_defined = rw (head_differs machine dll.linked, same_text (head_symbol machine dll.linked)) refl

  from_export : (e : ExportView) → dll_of_object defined (written_object (export_object machine dll.linked e)) ≡ dll_from (defined (head_symbol machine dll.linked))
  unfolding dll_of_object dll_from export_object pointed pointed_by bytes_at u32_at
  from_export e = refl

  from_head : dll_from head_place ≡ name_from (defined (iname_symbol machine dll.linked))
  unfolding dll_from name_from head_place head_object pointed pointed_by bytes_at u32_at
  from_head = refl

  from_tail : name_from tail_place ≡ before_nul (dll.text ++ 0 ∷ [])
  unfolding name_from tail_place tail_object
  from_tail = refl

  pub dll_here : (e : ExportView) → dll_of_object defined (written_object (export_object machine dll.linked e)) ≡ before_nul (dll.text ++ 0 ∷ [])
  dll_here e = from_export e ∙ ap dll_from head_defined ∙ from_head ∙ ap name_from iname_defined ∙ from_tail

  pub dll_there : (e : ExportView) → dll_by_names (written_object (export_object machine dll.linked e)) head tail ≡ before_nul (dll.text ++ 0 ∷ [])
  unfolding export_object head_object tail_object
  dll_there e = rw (same_text (head_symbol machine dll.linked), same_text (iname_symbol machine dll.linked)) refl

-- What is asked for.

two_bytes : (x y : ℕ) (rest : List ℕ) → nat_le 2 (length (x ∷ y ∷ rest)) ≡ true
two_bytes x y rest = grind arith

hint_on : (o : Object) (s : ObjectSection) (x y : ℕ) (rest : List ℕ)
    → hint_and_name (record { object = o; section = record s { bytes = x ∷ y ∷ rest }; offset = 0 }) ≡ ask_by_name (record s { bytes = x ∷ y ∷ rest })
unfolding bytes_at u16_at
hint_on o s x y rest = cc (two_bytes x y rest)

-- the section of the hint and the name of an export
hint_section : MachineType → ExportView → ObjectSection
hint_section machine e = record { name = codes ".idata$6"; flags = 0xC0200000; bytes = hint_name machine e; relocations = [] }

-- an export by a name
asking_name : (machine : MachineType) (dll : List ℕ) (e : ExportView) → e.no_name ≡ false → (o : Object)
    → hint_and_name (record { object = o; section = hint_section machine e; offset = 0 }) ≡ ask_by_name (hint_section machine e)
unfolding hint_section hint_name u16_bytes
asking_name machine dll e named o =
    let bytes : List ℕ → ObjectSection = λ bs. record { name = codes ".idata$6"; flags = 0xC0200000; bytes = bs; relocations = [] } in
    cc (hint_on o (bytes []) (slice_index (u16_bytes e.ordinal) 0) (slice_index (u16_bytes e.ordinal) 1) (name_asked machine e ++ 0 ∷ []))

asked_by : (machine : MachineType) (dll : List ℕ) (e : ExportView) (defined : List ℕ → Option Place) (is_data no_name : Bool)
    → ask_of_object defined (written_object (export_object machine dll (record e { is_data = is_data; no_name = no_name })))
    ≡ ask_of_export (written_object (export_object machine dll (record e { is_data = is_data; no_name = no_name })))
unfolding export_object thunk relocations_of_thunk stub relocations_of_stub u16_bytes ask_of_object pointed_by bytes_at u32_at hint_section
asked_by I386 dll e defined true true = refl
asked_by I386 dll e defined false true = refl
asked_by ARMNT dll e defined true true = refl
asked_by ARMNT dll e defined false true = refl
asked_by AMD64 dll e defined true true = refl
asked_by AMD64 dll e defined false true = refl
asked_by ARM64 dll e defined true true = refl
asked_by ARM64 dll e defined false true = refl
asked_by I386 dll e defined true false = asking_name I386 dll (record e { is_data = true; no_name = false }) refl (written_object (export_object I386 dll (record e { is_data = true; no_name = false })))
asked_by I386 dll e defined false false = asking_name I386 dll (record e { is_data = false; no_name = false }) refl (written_object (export_object I386 dll (record e { is_data = false; no_name = false })))
asked_by ARMNT dll e defined true false = asking_name ARMNT dll (record e { is_data = true; no_name = false }) refl (written_object (export_object ARMNT dll (record e { is_data = true; no_name = false })))
asked_by ARMNT dll e defined false false = asking_name ARMNT dll (record e { is_data = false; no_name = false }) refl (written_object (export_object ARMNT dll (record e { is_data = false; no_name = false })))
asked_by AMD64 dll e defined true false = asking_name AMD64 dll (record e { is_data = true; no_name = false }) refl (written_object (export_object AMD64 dll (record e { is_data = true; no_name = false })))
asked_by AMD64 dll e defined false false = asking_name AMD64 dll (record e { is_data = false; no_name = false }) refl (written_object (export_object AMD64 dll (record e { is_data = false; no_name = false })))
asked_by ARM64 dll e defined true false = asking_name ARM64 dll (record e { is_data = true; no_name = false }) refl (written_object (export_object ARM64 dll (record e { is_data = true; no_name = false })))
asked_by ARM64 dll e defined false false = asking_name ARM64 dll (record e { is_data = false; no_name = false }) refl (written_object (export_object ARM64 dll (record e { is_data = false; no_name = false })))

-- What the files mean.

import_with : (o : Object) (dll dll' : Option (List ℕ)) (ask ask' : Option Ask) → dll ≡ dll' → ask ≡ ask'
    → option_and_then (λ name. option_map (import_from o name) ask) dll ≡ option_and_then (λ name. option_map (import_from o name) ask') dll'
import_with o dll dll' ask ask' same_dll same_ask = grind arith

-- what an object means, by its alias and its import, to both readers
means_by : (o : Object) (a : Option Alias) (i j : Option Import) (wrap : Import → Imported) (delayed : Option Imported) (m : Meaning) → ((x : Import) → (wrap x).imports ≡ x) → i ≡ j
    → alias_or_import a j ≡ Some m → meaning_of_class (class_with o a (option_map wrap i) delayed) ≡ Some m
means_by o a i j wrap delayed m kept same is = grind arith

-- with the tail and the head in front of others, as they are written
module _ (machine : MachineType) (dll : NamesOfDll) (others : List FoundFile) where
  abbrev tail_file : File
  tail_file = ObjectFile (written_object (tail_object machine dll))

  abbrev head_file : File
  head_file = ObjectFile (written_object (head_object machine dll.linked))

  abbrev in_library : List ℕ → Option Place
  in_library = definer_among (FoundObject (written_object (tail_object machine dll)) ∷ FoundObject (written_object (head_object machine dll.linked)) ∷ others)

  -- a file that means something with the head and the tail means it in the library
  abbrev pub IsGood : File → Type 0
  IsGood f = (m : Meaning) → meaning_with head_file tail_file f ≡ Some m → meaning_of_class (class_of_file in_library (found_of f)) ≡ Some m

  same_import : (e : ExportView) → import_of_object in_library (written_object (export_object machine dll.linked e))
      ≡ import_of (written_object (export_object machine dll.linked e)) (written_object (head_object machine dll.linked)) (written_object (tail_object machine dll))
  unfolding import_of_object
  same_import e =
      let o = written_object (export_object machine dll.linked e) in
      cc (import_with o (dll_of_object in_library o) _ (ask_of_object in_library o) (ask_of_export o) (dll_here machine dll others e ∙ sym (dll_there machine dll others e)) (asked_by machine dll.linked e in_library e.is_data e.no_name))

  good_written : (e : ExportView) → IsGood (ObjectFile (written_object (export_object machine dll.linked e)))
  unfolding found_of
  good_written e = grind (arith, means_by, same_import)

  pub good_export : (number : ℕ) (e : ExportView) → IsGood (file_of (export_spec machine dll.linked number e).contents)
  unfolding export_spec
  good_export number e = subst (λ o. IsGood (ObjectFile o)) (sym (object_of-layout_of (export_object machine dll.linked e))) (good_written e)

  pub good_weak : (weak target : List ℕ) → IsGood (ObjectFile (object_of (weak_object machine weak target)))
  unfolding weak_object object_of entries_of name_text u32_at u32_bytes found_of
  good_weak weak target = λ m is. is

  good_aliases : (number : ℕ) (e : ExportView) → AllByRecursion (λ p. IsGood (file_of p.contents)) (alias_specs machine dll.linked number e)
  unfolding alias_specs
  good_aliases number e = grind (arith, good_weak e.name e.alias_target, good_weak (imp_symbol e.name) (imp_symbol e.alias_target))

  pub good_numbered : (number : ℕ) (exports : List ExportView) → AllByRecursion (λ p. IsGood (file_of p.contents)) (numbered_specs machine dll.linked number exports)
  good_numbered number [] = tt
  good_numbered number (e ∷ exports) =
      all_append (λ p. IsGood (file_of p.contents)) (numbered_specs_of machine dll.linked number e) (numbered_specs machine dll.linked (number + 1) exports)
      (all_append (λ p. IsGood (file_of p.contents)) (alias_specs machine dll.linked number e) (export_spec machine dll.linked number e ∷ []) (good_aliases number e) (good_export number e, tt))
      (good_numbered (number + 1) exports)

pub reversed_all : {X : Type 0} (P : X → Type 0) (xs : List X) → AllByRecursion P xs → AllByRecursion P (reverse xs)
reversed_all P [] all = tt
reversed_all P (x ∷ xs) all = subst (AllByRecursion P) (sym (reverse-append (x ∷ []) xs)) (all_append P (reverse xs) (x ∷ []) (reversed_all P xs all.1) (all.0, tt))
