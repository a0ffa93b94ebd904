-- What the members with older symbols are read as.
use Rattle.std.proofs.Common.{arith, ◌≡◌, ℕ, ◌<◌, ◌^◌, Bool, true, false, if◌then◌else◌, List, [], ◌∷◌, ◌++◌, Some, None, Result, Ok, Err, refl, ap, codes}
use Rattle.std.specs.Prelude.{IfOk}
use Rattle.std.specs.List.{AllByRecursion, list_any}
use Rattle.std.proofs.lemmas.Bool.{ltb-true}
use Rattle.std.proofs.lemmas.Nat.{from_le_bytes-to_le_bytes_2}
use Rattle.implib.specs.declared.error.Error.{Error}
use Rattle.implib.specs.declared.flavor.Flavor.TheVariants.{Gnu}
use Rattle.implib.specs.declared.machine.MachineType.{MachineType}
use Rattle.implib.specs.declared.machine.MachineType.TheVariants.{I386, ARMNT, AMD64, ARM64}
use Rattle.implib.specs.Definition.{DefinitionView, ExportView}
use Rattle.implib.specs.Fault.{MemberTooLong}
use Rattle.implib.specs.Formats.Bytes.{u16_bytes}
use Rattle.implib.specs.Formats.File.{ObjectFile, alias_of_object, declared_by}
use Rattle.implib.specs.Formats.Object.{u16_at}
use Rattle.implib.specs.Formats.Writer.{written_object}
use Rattle.implib.specs.Import.{Ordinal, expected_ask, holds, imp_symbol, name_asked, public_exports}
use Rattle.implib.specs.LibraryName.{NamesOfDll, names_for}
use Rattle.implib.specs.Members.Gnu.{head_object, hint_name, relocations_of_stub, relocations_of_thunk, stub, tail_object, thunk}
use Rattle.implib.specs.Members.GnuReader.{ask_of_export, code_relocations, dll_by_names, externals_in, text_section}
use Rattle.implib.specs.Members.Members.{is_too_long, length_refusal}
use Rattle.implib.specs.Members.NameRules.{definition_names_refusal}
use Rattle.implib.specs.Members.MemberSpec.{MemberSpec, MemberView}
use Rattle.implib.specs.Members.OlderSymbols.{AreOlderMembersOf, OlderReadBack, numbered_older_specs, older_archive_symbols, older_import, older_object, older_refusal, older_renamed_refusal, older_spec, older_specs, older_symbol}
use Rattle.implib.specs.Members.ReadBack.{expected_code}
use Rattle.implib.specs.Renaming.{renamed}
use Rattle.implib.proofs.Formats.Symbols.{before_nul-ended}
use Rattle.implib.proofs.Members.GnuObjects.{Fits-older_object}
use Rattle.implib.proofs.Members.GnuReadings.{AreNumbered, AreRead, code_read, declared, files, head, head_read, import_found, lengths, meanings_read, same_bytes, specs_by, tail, tail_read}
use Rattle.implib.proofs.Members.NotRefused.{Sound, first_none, if_none, linked_free_by_names, name_asked_free, sound_by_names, text_free_by_names}

-- An export's object, by whether it is of data and by an ordinal.

declares : (machine : MachineType) (dll : List ℕ) (e : ExportView) (is_data : Bool) →
    declared_by (ObjectFile (written_object (older_object machine dll (record e { is_data = is_data })))) ≡ older_archive_symbols (record e { is_data = is_data })
unfolding older_object
declares machine dll e true = refl
declares machine dll e false = refl

asks : (machine : MachineType) (dll : List ℕ) (e : ExportView) → e.ordinal < 2 ^ 16 → holds 0 (name_asked machine e) ≡ false → (is_data no_name : Bool) →
    ask_of_export (written_object (older_object machine dll (record e { is_data = is_data; no_name = no_name }))) ≡ Some (expected_ask machine (record e { is_data = is_data; no_name = no_name }))
unfolding older_object thunk relocations_of_thunk hint_name stub relocations_of_stub u16_at u16_bytes
asks I386 dll e fits free true true = ap (λ n. Some (Ordinal n)) (from_le_bytes-to_le_bytes_2 e.ordinal fits)
asks I386 dll e fits free false true = ap (λ n. Some (Ordinal n)) (from_le_bytes-to_le_bytes_2 e.ordinal fits)
asks ARMNT dll e fits free true true = ap (λ n. Some (Ordinal n)) (from_le_bytes-to_le_bytes_2 e.ordinal fits)
asks ARMNT dll e fits free false true = ap (λ n. Some (Ordinal n)) (from_le_bytes-to_le_bytes_2 e.ordinal fits)
asks AMD64 dll e fits free true true = ap (λ n. Some (Ordinal n)) (from_le_bytes-to_le_bytes_2 e.ordinal fits)
asks AMD64 dll e fits free false true = ap (λ n. Some (Ordinal n)) (from_le_bytes-to_le_bytes_2 e.ordinal fits)
asks ARM64 dll e fits free true true = ap (λ n. Some (Ordinal n)) (from_le_bytes-to_le_bytes_2 e.ordinal fits)
asks ARM64 dll e fits free false true = ap (λ n. Some (Ordinal n)) (from_le_bytes-to_le_bytes_2 e.ordinal fits)
asks machine dll e fits free true false = grind (arith, before_nul-ended, free, from_le_bytes-to_le_bytes_2)
asks machine dll e fits free false false = grind (arith, before_nul-ended, free, from_le_bytes-to_le_bytes_2)

declared_by_import : (machine : MachineType) (dll : List ℕ) (e : ExportView) (is_data : Bool) →
    (let o = written_object (older_object machine dll (record e { is_data = is_data })) in externals_in o (codes ".idata$5") ++ externals_in o text_section)
    ≡ imp_symbol e.name ∷ older_symbol e.name ∷ (if is_data then [] else e.name ∷ [])
unfolding older_object
declared_by_import machine dll e true = refl
declared_by_import machine dll e false = refl

no_alias : (machine : MachineType) (dll : List ℕ) (e : ExportView) (is_data : Bool) → alias_of_object (written_object (older_object machine dll (record e { is_data = is_data }))) ≡ None
unfolding older_object
no_alias machine dll e true = refl
no_alias machine dll e false = refl

dll_found : (machine : MachineType) (dll : NamesOfDll) (e : ExportView) → holds 0 dll.text ≡ false →
    dll_by_names (written_object (older_object machine dll.linked e)) (written_object (head_object machine dll.linked)) (written_object (tail_object machine dll)) ≡ Some dll.text
unfolding older_object head_object tail_object
dll_found machine dll e free = grind (arith, same_bytes, before_nul-ended, free)

code_by : (machine : MachineType) (dll : List ℕ) (e : ExportView) (is_data : Bool) →
    code_relocations (written_object (older_object machine dll (record e { is_data = is_data }))) ≡ Some (expected_code machine (record e { is_data = is_data }))
unfolding older_object stub relocations_of_stub
code_by machine dll e true = refl
code_by I386 dll e false = refl
code_by ARMNT dll e false = refl
code_by AMD64 dll e false = refl
code_by ARM64 dll e false = refl

older_reads : (machine : MachineType) (dll : NamesOfDll) → holds 0 dll.linked ≡ false → holds 0 dll.text ≡ false →
    AreRead machine dll (older_object machine dll.linked) older_archive_symbols (older_import machine dll.text)
older_reads machine dll linked_free text_free = record {
  fits = λ e sound. Fits-older_object machine dll.linked e linked_free sound.name sound.filled;
  declares = λ e. declares machine dll.linked e e.is_data;
  no_alias = λ e. no_alias machine dll.linked e e.is_data;
  imports = λ e sound.
      import_found machine dll (older_object machine dll.linked e) e (imp_symbol e.name ∷ older_symbol e.name ∷ (if e.is_data then [] else e.name ∷ [])) (dll_found machine dll e text_free)
      (asks machine dll.linked e (ltb-true e.ordinal 0x1_0000 sound.ordinal) (name_asked_free machine e sound) e.is_data e.no_name)
      (declared_by_import machine dll.linked e e.is_data);
  code = λ e. code_by machine dll.linked e e.is_data;
}

-- The members.

module _ (d : DefinitionView) (machine : MachineType) (members : List MemberView) (made : AreOlderMembersOf d machine members) where
  abbrev exports : List ExportView
  exports = public_exports (renamed d)

  abbrev dll : NamesOfDll
  dll = names_for Gnu d

  abbrev numbered : ℕ → List ExportView → List MemberSpec
  numbered = numbered_older_specs machine dll.linked

  refusals : (definition_names_refusal (renamed d) machine Gnu ≡ None) × (length_refusal (older_specs (renamed d) machine) ≡ None)
  unfolding older_refusal older_renamed_refusal
  refusals = first_none (definition_names_refusal (renamed d) machine Gnu) (length_refusal (older_specs (renamed d) machine)) made.accepted

  free : holds 0 dll.linked ≡ false
  free = linked_free_by_names d machine Gnu refusals.0

  read : AreRead machine dll (older_object machine dll.linked) older_archive_symbols (older_import machine dll.text)
  read = older_reads machine dll free (text_free_by_names d machine Gnu refusals.0)

  steps : AreNumbered (specs_by machine dll (older_object machine dll.linked) older_archive_symbols) numbered
  unfolding older_spec
  steps = record { none = λ number. refl; more = λ number e exports. refl }

  sound : AllByRecursion Sound exports
  sound = sound_by_names d machine Gnu refusals.0 made.ordinals

  short : list_any is_too_long (older_specs (renamed d) machine) ≡ false
  short = (if_none (list_any is_too_long (older_specs (renamed d) machine)) MemberTooLong None refusals.1).0

  older_read_back : OlderReadBack d machine members
  older_read_back =
      let object = older_object machine dll.linked in
      let import = older_import machine dll.text in record {
        files = files machine dll free object older_archive_symbols import read numbered steps exports sound members made.made short;
        lengths = lengths machine dll free object older_archive_symbols import read numbered steps exports sound members made.made short;
        declared = declared machine dll free object older_archive_symbols import read numbered steps exports sound members made.made short;
        tail = tail machine dll free object older_archive_symbols import read numbered steps exports sound members made.made short;
        head = head machine dll free object older_archive_symbols import read numbered steps exports sound members made.made short;
        tail_read = tail_read machine dll free object older_archive_symbols import read numbered steps exports sound members made.made short;
        head_read = head_read machine dll free object older_archive_symbols import read numbered steps exports sound members made.made short;
        meanings = meanings_read machine dll free object older_archive_symbols import read numbered steps exports sound members made.made short;
        code = code_read machine dll free object older_archive_symbols import read numbered steps exports sound members made.made short;
      }

-- members that are made are so read
pub older_read_of : {T : Type 0} (shown : T → List MemberView) (d : DefinitionView) (machine : MachineType) (result : Result T Error) →
    IfOk result (λ members. AreOlderMembersOf d machine (shown members)) → IfOk result (λ members. OlderReadBack d machine (shown members))
older_read_of shown d machine (Err error) made = tt
older_read_of shown d machine (Ok members) made = older_read_back d machine (shown members) made
