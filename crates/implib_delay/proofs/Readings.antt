-- What the members of delayed imports are read as.
use Rattle.std.proofs.Common.{◌≡◌, ℕ, ◌+◌, ◌<◌, ◌≤◌, ◌^◌, Bool, true, false, if◌then◌else◌, ◌||◌, List, [], ◌∷◌, ◌++◌, map, Option, Some, None, refl, ap, sym, ◌∙◌, codes, arith}
use Rattle.std.specs.Prelude.{not}
use Rattle.std.specs.List.{AllByRecursion, filter, list_any}
use Rattle.std.specs.Option.{option_map}
use Rattle.std.proofs.lemmas.Bool.{ltb-true, or_parts}
use Rattle.std.proofs.lemmas.List.{map-append}
use Rattle.std.proofs.lemmas.List.Folds.{list_any-append}
use Rattle.std.proofs.lemmas.Nat.{from_le_bytes-to_le_bytes_2}
use Rattle.implib.specs.declared.flavor.Flavor.TheVariants.{Gnu}
use Rattle.implib.specs.declared.machine.MachineType.{MachineType}
use Rattle.implib.specs.declared.machine.MachineType.TheVariants.{I386, ARMNT, AMD64, ARM64}
use Rattle.implib.specs.Definition.{DefinitionView, ExportView}
use Rattle.implib.specs.Formats.Bytes.{u16_bytes}
use Rattle.implib.specs.Formats.Layout.{Fits, encoded, encoded_size}
use Rattle.implib.specs.Formats.Object.{object_in, u16_at, u32_at}
use Rattle.implib.specs.Formats.Writer.{WriterState, layout_of, written_object}
use Rattle.implib.specs.Import.{Ordinal, expected_ask, expected_import, holds, name_asked, public_exports}
use Rattle.implib.specs.LibraryName.{NamesOfDll}
use Rattle.implib.specs.Members.Gnu.{hint_name, mangled_name, thunk}
use Rattle.implib.specs.Members.MemberSpec.{MemberSpec, MemberView, member_of}
use Rattle.implib.specs.Members.Members.{is_too_long}
use Rattle.implib.specs.Renaming.{renamed}
use Rattle.implib.proofs.Formats.ObjectReading.{object_in-encoded}
use Rattle.implib.proofs.Formats.Symbols.{before_nul-ended}
use Rattle.implib.proofs.Formats.WriterLayout.{layout_of-fits, object_of-layout_of}
use Rattle.implib.proofs.Members.GnuReadings.{same_bytes}
use Rattle.implib.proofs.Members.NotRefused.{Sound, linked_free_by_names, name_asked_free, short_enough, sound_by_names, text_free_by_names}
use Rattle.implib_delay.specs.Members.{AreDelayedMembersOf, delay_refusal, delayed_specs, export_spec, head_spec, names_of, numbered_specs, tail_spec}
use Rattle.implib_delay.specs.Names.{handle_symbol, helper_symbol, name_symbol, tail_symbol}
use Rattle.implib_delay.specs.Objects.{export_object, head_object, tail_object}
use Rattle.implib_delay.specs.Reader.{DelayedReadBack, delayed_ask, delayed_dll, delayed_import, delayed_import_in, delayed_symbols, is_delayed}
use Rattle.implib_delay.specs.Refusal.{DelayCause, IsData, OfNames, first_cause, input_refusal, kind_refusal, kinds_refusal, machine_refusal}
use Rattle.implib.specs.Members.NameRules.{definition_names_refusal}
use Rattle.implib_delay.proofs.Refused.{no_names}
use Rattle.implib_delay.proofs.Held.{Fits-head_object, IsSound-export_object, IsSound-tail_object}

-- By the tables of one export.

dll_read : (machine : MachineType) (dll : NamesOfDll) (e : ExportView) → holds 0 dll.text ≡ false →
    delayed_dll (written_object (export_object machine dll.linked e)) (written_object (tail_object machine dll)) ≡ Some dll.text
unfolding delayed_dll export_object tail_object name_symbol
dll_read machine dll e free = rw (same_bytes (mangled_name dll.linked ++ codes "_iname")) (before_nul-ended dll.text [] free)

ask_by : (machine : MachineType) (library : List ℕ) (e : ExportView) → e.ordinal < 2 ^ 16 → holds 0 (name_asked machine e) ≡ false → (no_name : Bool) →
    delayed_ask (written_object (export_object machine library (record e { no_name = no_name }))) ≡ Some (expected_ask machine (record e { no_name = no_name }))
unfolding delayed_ask export_object thunk hint_name u16_at u16_bytes
ask_by I386 library e fits free true = ap (λ n. Some (Ordinal n)) (from_le_bytes-to_le_bytes_2 e.ordinal fits)
ask_by ARMNT library e fits free true = ap (λ n. Some (Ordinal n)) (from_le_bytes-to_le_bytes_2 e.ordinal fits)
ask_by AMD64 library e fits free true = ap (λ n. Some (Ordinal n)) (from_le_bytes-to_le_bytes_2 e.ordinal fits)
ask_by ARM64 library e fits free true = ap (λ n. Some (Ordinal n)) (from_le_bytes-to_le_bytes_2 e.ordinal fits)
ask_by machine library e fits free false = grind (arith, before_nul-ended, from_le_bytes-to_le_bytes_2)

delayed_read : (machine : MachineType) → machine_refusal machine ≡ None → (library : List ℕ) (e : ExportView) →
    is_delayed (written_object (export_object machine library e)) (written_object (head_object machine library)) ≡ true
unfolding is_delayed export_object head_object tail_symbol handle_symbol name_symbol helper_symbol u32_at
delayed_read I386 has library e = rw (same_bytes (mangled_name library ++ [])) refl
delayed_read AMD64 has library e = rw (same_bytes (mangled_name library ++ [])) refl
delayed_read ARMNT has library e = cc
delayed_read ARM64 has library e = cc

symbols_by : (machine : MachineType) (library : List ℕ) (e : ExportView) (is_data : Bool) → is_data ≡ false →
    delayed_symbols (written_object (export_object machine library (record e { is_data = is_data }))) ≡ (expected_import machine library (record e { is_data = is_data })).declared
unfolding delayed_symbols export_object
symbols_by machine library e true plain = cc
symbols_by machine library e false plain = refl

pub import_read : (machine : MachineType) → machine_refusal machine ≡ None → (dll : NamesOfDll) (e : ExportView) → Sound e → e.is_data ≡ false → holds 0 dll.text ≡ false →
    delayed_import (written_object (export_object machine dll.linked e)) (written_object (head_object machine dll.linked)) (written_object (tail_object machine dll)) ≡ Some (expected_import machine dll.text e)
import_read machine has dll e sound plain free =
    rw (
      delayed_read machine has dll.linked e,
      dll_read machine dll e free,
      ask_by machine dll.linked e (ltb-true e.ordinal 0x1_0000 sound.ordinal) (name_asked_free machine e sound) e.no_name,
      symbols_by machine dll.linked e e.is_data plain,
    )
    refl

-- By the bytes.

object_read : (h : WriterState) → Fits (layout_of h) → encoded_size (layout_of h) ≤ 0xFFFF_FFFF → object_in (encoded (layout_of h)) ≡ Some (written_object h)
object_read h fits short = grind (arith, object_in-encoded, object_of-layout_of)

-- what the last two members are
record Ends (machine : MachineType) (dll : NamesOfDll) (head tail : List ℕ) : Type 0 where
  head_read : object_in head ≡ Some (written_object (head_object machine dll.linked))
  tail_read : object_in tail ≡ Some (written_object (tail_object machine dll))

export_read : (machine : MachineType) → machine_refusal machine ≡ None → (dll : NamesOfDll) (head tail : List ℕ) → Ends machine dll head tail → holds 0 dll.linked ≡ false → holds 0 dll.text ≡ false →
    (number : ℕ) (e : ExportView) → Sound e → e.is_data ≡ false → is_too_long (export_spec machine dll.linked number e) ≡ false →
    delayed_import_in (member_of (export_spec machine dll.linked number e)).bytes head tail ≡ Some (expected_import machine dll.text e)
unfolding export_spec
export_read machine has dll head tail ends linked_free text_free number e sound plain short = grind (arith, layout_of-fits, IsSound-export_object, object_read, short_enough, import_read)

-- data of no export
abbrev IsPlain : ExportView → Type 0
IsPlain e = e.is_data ≡ false

numbered_read : (machine : MachineType) → machine_refusal machine ≡ None → (dll : NamesOfDll) (head tail : List ℕ) → Ends machine dll head tail → holds 0 dll.linked ≡ false → holds 0 dll.text ≡ false →
    (number : ℕ) (exports : List ExportView) → AllByRecursion Sound exports → AllByRecursion IsPlain exports → list_any is_too_long (numbered_specs machine dll.linked number exports) ≡ false →
    map (λ m. delayed_import_in m.bytes head tail) (map member_of (numbered_specs machine dll.linked number exports)) ≡ map Some (map (expected_import machine dll.text) exports)
numbered_read machine has dll head tail ends linked_free text_free number [] sound plain short = refl
numbered_read machine has dll head tail ends linked_free text_free number (e ∷ exports) sound plain short =
    let parts = or_parts (is_too_long (export_spec machine dll.linked number e)) (list_any is_too_long (numbered_specs machine dll.linked (number + 1) exports)) short in
    let first = export_read machine has dll head tail ends linked_free text_free number e sound.0 plain.0 parts.0 in
    let others = numbered_read machine has dll head tail ends linked_free text_free (number + 1) exports sound.1 plain.1 parts.1 in
    rw (first, others) refl

-- No export of a definition that is not refused is data.

plain_kind : (index : ℕ) (e : ExportView) (is_data constant : Bool) (later : Option DelayCause) → (if is_data || constant then Some (IsData index) else later) ≡ None → is_data ≡ false
plain_kind index e true constant later none = cc
plain_kind index e false constant later none = refl

first_none : (first second : Option DelayCause) → first_cause first second ≡ None → (first ≡ None) × (second ≡ None)
first_none (Some cause) second none = cc
first_none None second none = (refl, none)

all_plain : (index : ℕ) (exports : List ExportView) → kinds_refusal index exports ≡ None → AllByRecursion IsPlain (filter (λ e. not e.private) exports)
all_plain index [] none = tt
all_plain index (e ∷ exports) none =
    let parts = first_none (if e.private then None else kind_refusal index e) (kinds_refusal (index + 1) exports) none in
    by e.private parts.0 (all_plain (index + 1) exports parts.1)
  where
    by : (private : Bool) → (if private then None else kind_refusal index e) ≡ None → AllByRecursion IsPlain (filter (λ x. not x.private) exports) →
        AllByRecursion IsPlain (if not private then e ∷ filter (λ x. not x.private) exports else filter (λ x. not x.private) exports)
    by true none others = others
    by false none others = (plain_kind index e e.is_data e.constant _ none, others)

-- The members.

if_none : (test : Bool) (x : DelayCause) → (if test then Some x else None) ≡ None → test ≡ false
if_none true x none = cc
if_none false x none = refl

pub read_back : (d : DefinitionView) (machine : MachineType) (members : List MemberView) → AreDelayedMembersOf (renamed d) machine members → DelayedReadBack d machine members
unfolding delay_refusal input_refusal head_spec tail_spec
read_back d machine members made =
    let r : DefinitionView = renamed d in
    let dll : NamesOfDll = names_of r in
    let numbered : List MemberSpec = numbered_specs machine dll.linked 0 (public_exports r) in
    let head : MemberSpec = head_spec machine dll.linked in
    let tail : MemberSpec = tail_spec machine dll in
    let input = first_none (input_refusal r machine) _ made.accepted in
    let machines = first_none (machine_refusal machine) _ input.0 in
    let names = first_none (option_map OfNames (definition_names_refusal r machine Gnu)) (kinds_refusal 0 r.exports) machines.1 in
    let named : definition_names_refusal (renamed d) machine Gnu ≡ None = no_names (definition_names_refusal r machine Gnu) names.0 in
    let short : list_any is_too_long (numbered ++ (head ∷ tail ∷ [])) ≡ false = if_none (list_any is_too_long (delayed_specs machine dll (public_exports r))) _ input.1 in
    let parts = or_parts (list_any is_too_long numbered) (list_any is_too_long (head ∷ tail ∷ [])) (sym (list_any-append is_too_long numbered (head ∷ tail ∷ [])) ∙ short) in
    let ends_short = or_parts (is_too_long head) (is_too_long tail || false) parts.1 in
    let tail_short = or_parts (is_too_long tail) false ends_short.1 in
    let linked_free : holds 0 dll.linked ≡ false = linked_free_by_names d machine Gnu named in
    let text_free : holds 0 dll.text ≡ false = text_free_by_names d machine Gnu named in
    let ends : Ends machine dll (member_of head).bytes (member_of tail).bytes = grind (arith, object_read, Fits-head_object, short_enough, layout_of-fits, IsSound-tail_object) in
    record {
      exports = map member_of numbered;
      head = member_of head;
      tail = member_of tail;
      all = made.made ∙ map-append member_of numbered (head ∷ tail ∷ []);
      read = numbered_read machine machines.0 dll (member_of head).bytes (member_of tail).bytes ends linked_free text_free 0 (public_exports r) (sound_by_names d machine Gnu named made.ordinals) (all_plain 0 r.exports names.1) parts.0;
    }
