-- What the members for Microsoft's linker are read as.
use Rattle.std.proofs.Common.{◌≡◌, ℕ, ◌<◌, ◌≤◌, ◌^◌, Bool, true, false, if◌then◌else◌, ◌&&◌, ◌||◌, List, [], ◌∷◌, ◌++◌, length, drop, map, Some, None, refl, ap, sym, ◌∙◌, arith}
use Rattle.std.specs.Prelude.{◌==◌, nat_lt}
use Rattle.std.specs.List.{AllByRecursion, flat_map, list_any}
use Rattle.std.proofs.lemmas.Bool.{ltb-false, or_parts}
use Rattle.std.proofs.lemmas.List.Folds.{list_any-append}
use Rattle.std.proofs.lemmas.Nat.{from_le_bytes-to_le_bytes_2}
use Rattle.implib.specs.declared.flavor.Flavor.TheVariants.{Msvc}
use Rattle.implib.specs.declared.machine.MachineType.{MachineType}
use Rattle.implib.specs.declared.machine.MachineType.TheVariants.{I386, ARMNT, AMD64, ARM64}
use Rattle.implib.specs.Formats.Bytes.{u16_bytes}
use Rattle.implib.specs.Definition.{DefinitionView, ExportView}
use Rattle.implib.specs.Formats.File.{file_in}
use Rattle.implib.specs.Import.{imp_symbol, holds, is_alias, public_exports}
use Rattle.implib.specs.Machine.{machine_number}
use Rattle.implib.specs.Members.MemberSpec.{Contents, AShortImport, AnObject, MemberSpec, MemberView, member_of, file_bytes, file_size}
use Rattle.implib.specs.Members.Members.{AreMembersOf, member_specs, is_too_long}
use Rattle.implib.specs.Members.MsvcMembers.{descriptor_spec, null_descriptor_spec, null_thunk_spec, header_specs, weak_specs, export_specs, short_import_spec}
use Rattle.implib.specs.Members.WeakExternal.{weak_spec}
use Rattle.implib.specs.Members.Msvc.{short_import_of, short_import_size, short_import_symbol}
use Rattle.implib.specs.Members.MsvcObjects.{descriptor, null_descriptor, null_thunk}
use Rattle.implib.specs.Members.WeakExternal.{weak_object}
use Rattle.implib.specs.Formats.Object.{u16_at}
use Rattle.implib.specs.Formats.Layout.{ObjectLayout, Fits, encoded, encoded_size, header_bytes}
use Rattle.implib.specs.Members.ReadBack.{FitsShortImport, file_of}
use Rattle.implib.specs.Formats.ShortImport.{ShortImport, is_short_import, short_import_from, short_import_header_size, short_import_in, text_in}
use Rattle.implib.specs.Renaming.{renamed}
use Rattle.implib.proofs.Members.Import.{FitsShortImport-short_import_of, symbol_without_nul}
use Rattle.implib.proofs.Members.MsvcObjects.{Fits-descriptor, Fits-null_descriptor, Fits-null_thunk, Fits-weak_object}
use Rattle.implib.proofs.Members.NotRefused.{Sound, exports_sound, import_name_is_free, linked_is_free, none_long, short_enough}
use Rattle.implib.proofs.Formats.ObjectReading.{length-encoded, object_in-encoded}
use Rattle.implib.proofs.Members.ShortImport.{length-short_import_bytes, short_import_in-short_import_bytes}
use Rattle.implib.specs.LibraryName.{NamesOfDll, names_for}

-- the file of a specification reads as what was specified
pub record ReadsBack (contents : Contents) : Type 0 where
  pub read : file_in (file_bytes contents) ≡ Some (file_of contents)
  pub length : length (file_bytes contents) ≡ file_size contents

short_import_reads : (r : ShortImport) → FitsShortImport r → short_import_size r ≤ 0xFFFF_FFFF → ReadsBack (AShortImport r)
short_import_reads r fits short = grind (arith, short_import_in-short_import_bytes, length, length-short_import_bytes)

not_short_import : (a b c d : Bool) → b ≡ false → (((a && b) && c) && d) ≡ false
not_short_import true b c d is = rw is refl
not_short_import false b c d is = refl

pub machine_number_nonzero : (machine : MachineType) → (machine_number machine == 0) ≡ false
machine_number_nonzero I386 = refl
machine_number_nonzero ARMNT = refl
machine_number_nonzero AMD64 = refl
machine_number_nonzero ARM64 = refl

no_short_import : (bytes : List ℕ) → is_short_import bytes ≡ false → short_import_in bytes ≡ None
unfolding short_import_in
no_short_import bytes is = ap (λ test. if test then short_import_from bytes (text_in (drop short_import_header_size bytes)) else None) is

-- an object for a machine is no record: its first number is the machine's
object_is_no_short_import : (p : ObjectLayout) → p.machine < 2 ^ 16 → (p.machine == 0) ≡ false → is_short_import (encoded p) ≡ false
unfolding encoded header_bytes u16_at u16_bytes
object_is_no_short_import p fits nonzero = grind (arith, from_le_bytes-to_le_bytes_2, not_short_import, length)

pub object_reads : (p : ObjectLayout) → Fits p → (p.machine == 0) ≡ false → encoded_size p ≤ 0xFFFF_FFFF → ReadsBack (AnObject p)
object_reads p fits nonzero short = grind (arith, no_short_import, object_is_no_short_import, object_in-encoded, length, length-encoded)

pub all_append : {X : Type 0} (P : X → Type 0) (xs ys : List X) → AllByRecursion P xs → AllByRecursion P ys → AllByRecursion P (xs ++ ys)
all_append P [] ys first second = second
all_append P (x ∷ xs) ys first second = (first.0, all_append P xs ys first.1 second)

pub weak_reads : (machine : MachineType) (weak target : List ℕ) → holds 0 weak ≡ false → holds 0 target ≡ false → encoded_size (weak_object machine weak target) ≤ 0xFFFF_FFFF →
    ReadsBack (AnObject (weak_object machine weak target))
unfolding weak_object
weak_reads machine weak target weak_free target_free short =
    object_reads (weak_object machine weak target) (Fits-weak_object machine weak target weak_free target_free) (machine_number_nonzero machine) short

-- what the specifications of a list of exports are read as, one after another
module _ (machine : MachineType) (dll : NamesOfDll) (linked_free : holds 0 dll.linked ≡ false) (text_free : holds 0 dll.text ≡ false) where
  weak_specs_read : (e : ExportView) → Sound e → (test : Bool) →
      list_any is_too_long (if test then weak_spec machine dll.linked (short_import_symbol e) e.alias_target ∷ weak_spec machine dll.linked (imp_symbol (short_import_symbol e)) (imp_symbol e.alias_target) ∷ [] else []) ≡ false →
      AllByRecursion (λ p. ReadsBack p.contents) (if test then weak_spec machine dll.linked (short_import_symbol e) e.alias_target ∷ weak_spec machine dll.linked (imp_symbol (short_import_symbol e)) (imp_symbol e.alias_target) ∷ [] else [])
  weak_specs_read e sound false short = tt
  weak_specs_read e sound true short =
      let first = or_parts (is_too_long (weak_spec machine dll.linked (short_import_symbol e) e.alias_target)) _ short in
      let second = or_parts (is_too_long (weak_spec machine dll.linked (imp_symbol (short_import_symbol e)) (imp_symbol e.alias_target))) false first.1 in
      let symbol_free : holds 0 (short_import_symbol e) ≡ false = symbol_without_nul e.symbol_name e.name sound.symbol_name sound.name in (
        weak_reads machine (short_import_symbol e) e.alias_target symbol_free sound.alias_target (short_enough (weak_spec machine dll.linked (short_import_symbol e) e.alias_target) first.0),
        (weak_reads machine (imp_symbol (short_import_symbol e)) (imp_symbol e.alias_target) symbol_free sound.alias_target (short_enough (weak_spec machine dll.linked (imp_symbol (short_import_symbol e)) (imp_symbol e.alias_target)) second.0), tt),
      )

  export_specs_read : (e : ExportView) → Sound e → list_any is_too_long (export_specs machine dll e) ≡ false → AllByRecursion (λ p. ReadsBack p.contents) (export_specs machine dll e)
  unfolding weak_specs
  export_specs_read e sound short =
      let parts = or_parts (list_any is_too_long (weak_specs machine dll.linked e)) (is_too_long (short_import_spec machine dll e) || false)
      (sym (list_any-append is_too_long (weak_specs machine dll.linked e) (short_import_spec machine dll e ∷ [])) ∙ short) in
      let last = or_parts (is_too_long (short_import_spec machine dll e)) false parts.1 in
      all_append (λ p. ReadsBack p.contents) (weak_specs machine dll.linked e) (short_import_spec machine dll e ∷ [])
      (weak_specs_read e sound (is_alias e.alias_target (short_import_symbol e)) parts.0)
      (short_import_reads (short_import_of machine dll.text e) (FitsShortImport-short_import_of machine dll.text e sound.name sound.symbol_name text_free sound.ordinal) (short_enough (short_import_spec machine dll e) last.0), tt)

  exports_specs_read : (exports : List ExportView) → AllByRecursion Sound exports → list_any is_too_long (flat_map (export_specs machine dll) exports) ≡ false →
      AllByRecursion (λ p. ReadsBack p.contents) (flat_map (export_specs machine dll) exports)
  exports_specs_read [] sound short = tt
  exports_specs_read (e ∷ exports) sound short =
      let parts = or_parts (list_any is_too_long (export_specs machine dll e)) (list_any is_too_long (flat_map (export_specs machine dll) exports))
      (sym (list_any-append is_too_long (export_specs machine dll e) (flat_map (export_specs machine dll) exports)) ∙ short) in
      all_append (λ p. ReadsBack p.contents) (export_specs machine dll e) (flat_map (export_specs machine dll) exports)
      (export_specs_read e sound.0 parts.0) (exports_specs_read exports sound.1 parts.1)

  header_specs_read : list_any is_too_long (header_specs machine dll) ≡ false → AllByRecursion (λ p. ReadsBack p.contents) (header_specs machine dll)
  unfolding header_specs descriptor_spec null_descriptor_spec null_thunk_spec descriptor null_descriptor null_thunk
  header_specs_read short =
      let first = or_parts (nat_lt 0xFFFF_FFFF (encoded_size (descriptor machine dll))) _ short in
      let second = or_parts (nat_lt 0xFFFF_FFFF (encoded_size (null_descriptor machine))) _ first.1 in
      let third = or_parts (nat_lt 0xFFFF_FFFF (encoded_size (null_thunk machine dll.linked))) false second.1 in (
        object_reads (descriptor machine dll) (Fits-descriptor machine dll linked_free) (machine_number_nonzero machine) (ltb-false _ _ first.0),
        (
          object_reads (null_descriptor machine) (Fits-null_descriptor machine) (machine_number_nonzero machine) (ltb-false _ _ second.0),
          (object_reads (null_thunk machine dll.linked) (Fits-null_thunk machine dll.linked linked_free) (machine_number_nonzero machine) (ltb-false _ _ third.0), tt),
        ),
      )

  -- all specifications read back, where none is too long and no text has a NUL
  member_specs_read : (exports : List ExportView) → AllByRecursion Sound exports →
      list_any is_too_long (header_specs machine dll ++ flat_map (export_specs machine dll) exports) ≡ false →
      AllByRecursion (λ p. ReadsBack p.contents) (header_specs machine dll ++ flat_map (export_specs machine dll) exports)
  member_specs_read exports sound short = grind (arith, or_parts, list_any-append, all_append, header_specs_read, exports_specs_read)

pub map_same : {X Y : Type 0} (f g : X → Y) (xs : List X) → AllByRecursion (λ x. f x ≡ g x) xs → map f xs ≡ map g xs
map_same f g [] same = refl
map_same f g (x ∷ xs) same = let first : f x ≡ g x = same.0 in let rest : map f xs ≡ map g xs = map_same f g xs same.1 in cc

pub map_after : {X Y Z : Type 0} (f : Y → Z) (g : X → Y) (xs : List X) → map f (map g xs) ≡ map (λ x. f (g x)) xs
map_after f g [] = refl
map_after f g (x ∷ xs) = ap (λ ys. f (g x) ∷ ys) (map_after f g xs)

pub each_read : (specs : List MemberSpec) → AllByRecursion (λ p. ReadsBack p.contents) specs →
    AllByRecursion (λ p. file_in (file_bytes p.contents) ≡ Some (file_of p.contents)) specs
each_read [] reads = tt
each_read (p ∷ specs) reads = (reads.0.read, each_read specs reads.1)

pub each_length : (specs : List MemberSpec) → AllByRecursion (λ p. ReadsBack p.contents) specs →
    AllByRecursion (λ p. length (file_bytes p.contents) ≡ file_size p.contents) specs
each_length [] reads = tt
each_length (p ∷ specs) reads = (reads.0.length, each_length specs reads.1)

-- the files of the members of a definition that is not refused are read as what was specified
module _ (d : DefinitionView) (machine : MachineType) (members : List MemberView) (made : AreMembersOf d machine Msvc members) where
  pub member_specs_read_back : AllByRecursion (λ p. ReadsBack p.contents) (member_specs (renamed d) machine Msvc)
  member_specs_read_back =
      member_specs_read machine (names_for Msvc d) (linked_is_free d machine Msvc members made) (import_name_is_free d machine Msvc members made) (public_exports (renamed d))
      (exports_sound d machine Msvc members made) (none_long d machine Msvc members made)

  -- a fact of each member's file is a fact of what was specified
  pub of_members : {Y : Type 0} (f : MemberView → Y) → map f members ≡ map (λ p. f (member_of p)) (member_specs (renamed d) machine Msvc)
  of_members f = ap (map f) made.made ∙ map_after f member_of (member_specs (renamed d) machine Msvc)

  pub files_read : map (λ m. file_in m.bytes) members ≡ map (λ p. Some (file_of p.contents)) (member_specs (renamed d) machine Msvc)
  files_read = grind (arith, of_members, map_same, each_read, member_specs_read_back)

  pub lengths_read : map (λ m. length m.bytes) members ≡ map (λ p. file_size p.contents) (member_specs (renamed d) machine Msvc)
  lengths_read = grind (arith, of_members, length, map_same, each_length, member_specs_read_back)
