-- A short import with a third text, as this reader has it: the import that its export means.
use Rattle.std.proofs.Common.{◌≡◌, ◌∙◌, ℕ, suc, zero, ◌+◌, ◌-◌, ◌*◌, ◌/◌, ◌%◌, ◌≤◌, Bool, true, false, List, [], ◌∷◌, Option, None, Some, ap, arith, drop, if◌then◌else◌, inl, inr, nat_le, refl, subst, sym}
use Rattle.std.specs.Prelude.{◌==◌, ◌&&◌, ◌||◌, bytes_eq, not, unwrap_or}
use Rattle.std.specs.Option.{option_map}
use Rattle.std.proofs.lemmas.Bool.{cases_Bool, leb-true, ltb-true, true≢false}
use Rattle.std.proofs.lemmas.Option.{none-some, same_Some}
use Rattle.std.proofs.lemmas.Slice.Eq.{bytes_eq-Decides}
use Rattle.implib.specs.declared.machine.MachineType.{MachineType}
use Rattle.implib.specs.Definition.{ExportView}
use Rattle.implib.specs.Formats.File.{AnImport as MeansImport}
use Rattle.implib.specs.Formats.Object.{u16_at}
use Rattle.implib.specs.Formats.ShortImport.{before_at_sign, is_short_import, short_import_header_size, text_in, without_prefix}
use Rattle.implib.specs.Import.{Ask, Name, Ordinal, expected_import, holds, import_symbols, is_alias, is_empty_text}
use Rattle.implib.specs.Machine.{has_leading_underscore, machine_number}
use Rattle.implib.specs.Members.Msvc.{short_import_bytes, short_import_size, short_import_symbol, short_import_symbols, symbol_or_name}
use Rattle.implib.specs.Underscore.{asked_name}
use Rattle.implib.proofs.Members.NotRefused.{Sound}
use Rattle.implib_read.specs.Classes.{class_of_file, class_of_import, kind_of_type}
use Rattle.implib_read.specs.Files.{file_found, short_import_or_object}
use Rattle.implib_read.specs.Following.{Place}
use Rattle.implib_read.specs.Leads.{declared_by_found}
use Rattle.implib_read.specs.Objects.{object_found}
use Rattle.implib_read.specs.OwnLibraries.{meaning_of_class}
use Rattle.implib_read.specs.Arm64ec.{arm64ec_symbols}
use Rattle.implib_read.specs.ShortImports.{arm64ec, fields_with, found_from, found_with, last_text, no_text, short_import_found}
use Rattle.implib_read.specs.declared.import.ImportKind.{ImportKind}
use Rattle.implib_read.proofs.OwnMembers.{machine_plain}
use Rattle.implib_rules.specs.ExportAs.{ExportAsRead, export_as_after_dll, export_as_after_symbol, export_as_import, export_as_in, export_as_of, exported_name, kept_by, name_apart, symbol_made}
use Rattle.implib_rules.specs.Linked.{has_target, makes}
use Rattle.implib_rules.proofs.ExportAsRead.{export_as_reads}
use Rattle.implib_rules.proofs.Targets.{neither}

-- the types' number of such a short import: its name type is 4, its type is known, and tells data
record HasTypes (n : ℕ) : Type 0 where
  pub name_type : (n / 4 % 8 == 4) ≡ true
  pub import_type : nat_le (n % 4) 2 ≡ true
  pub data_told : (n % 4 == 1) ≡ (n == 4 * 4 + 1)

types_from : (k : ℕ) → k ≤ 2 → HasTypes (k + 16)
types_from zero low = record { name_type = refl; import_type = refl; data_told = refl }
types_from (suc zero) low = record { name_type = refl; import_type = refl; data_told = refl }
types_from (suc (suc zero)) low = record { name_type = refl; import_type = refl; data_told = refl }
types_from (suc (suc (suc k))) low = absurd (omega (arith, low))

types_of : (n : ℕ) → nat_le 16 n ≡ true → nat_le n 18 ≡ true → HasTypes n
types_of n from to =
    let low = leb-true 16 n from in
    let high = leb-true n 18 to in
    let same : n - 16 + 16 ≡ n = omega (arith, low) in
    subst HasTypes same (types_from (n - 16) (omega (arith, low, high)))

-- the meaning of a short import, by the tests of its types
meaning_by : (known ec written told : Bool) (others : List (List ℕ)) (dll symbol name : List ℕ) (hint machine : ℕ) (kind : ImportKind) → known ≡ true → ec ≡ false → written ≡ told
    → meaning_of_class (class_of_import (option_map (λ i. record { imports = i; kind = kind; machine = machine })
    (option_map (λ (ask : Ask). record { dll = dll; declared = if ec then others else import_symbols written symbol; ask = ask }) (if known then Some (Name name hint) else None))))
    ≡ Some (MeansImport (record { dll = dll; declared = import_symbols told symbol; ask = Name name hint }))
meaning_by true false written told others dll symbol name hint machine kind is other same =
    ap (λ b. Some (MeansImport (record { dll = dll; declared = import_symbols b symbol; ask = Name name hint }))) same
meaning_by true true written told others dll symbol name hint machine kind is other same = absurd (true≢false other)
meaning_by false ec written told others dll symbol name hint machine kind is other same = absurd (true≢false (sym is))

-- what is read of a short import with a third text: it means the import that it is, and declares its symbols
pub record IsRead (defined : List ℕ → Option Place) (bytes : List ℕ) (r : ExportAsRead) : Type 0 where
  pub means : meaning_of_class (class_of_file defined (file_found bytes)) ≡ Some (MeansImport r.import)
  pub declares : declared_by_found (file_found bytes) ≡ r.import.declared

module _ (defined : List ℕ → Option Place) (bytes : List ℕ) (r : ExportAsRead) (other : (r.machine == arm64ec) ≡ false) where
  found_reads : (symbol dll name rest more : List ℕ) → is_short_import bytes ≡ true → HasTypes (u16_at bytes 18)
      → text_in (drop short_import_header_size bytes) ≡ Some (symbol, rest) → text_in rest ≡ Some (dll, more) → text_in more ≡ Some (name, [])
      → export_as_of bytes symbol dll (Some (name, [])) ≡ Some r
      → IsRead defined bytes r
  unfolding short_import_found
  found_reads symbol dll name rest more short types first second third is =
      let own = same_Some _ _ is in
      let found : short_import_found bytes ≡ Some (record { fields = fields_with bytes symbol dll; exported = Some name }) =
      ap (λ b. if b then found_from bytes (text_in (drop short_import_header_size bytes)) else None) short
      ∙ ap (found_from bytes) first
      ∙ ap (found_with bytes symbol) second
      ∙ ap (λ b. option_map (λ (exported : Option (List ℕ)). record { fields = fields_with bytes symbol dll; exported = exported }) (if b then last_text (text_in more) else no_text more)) types.name_type
      ∙ ap (λ t. option_map (λ (exported : Option (List ℕ)). record { fields = fields_with bytes symbol dll; exported = exported }) (last_text t)) third in
      record {
        means =
            ap (λ o. meaning_of_class (class_of_file defined (short_import_or_object o (object_found bytes)))) found
            ∙ meaning_by (nat_le (u16_at bytes 18 % 4) 2) (u16_at bytes 6 == arm64ec) (u16_at bytes 18 % 4 == 1) (u16_at bytes 18 == 4 * 4 + 1) (arm64ec_symbols (u16_at bytes 18 % 4) symbol) dll symbol name (u16_at bytes 16) (u16_at bytes 6) (kind_of_type (u16_at bytes 18 % 4))
            types.import_type (ap (λ x. x.machine == arm64ec) own ∙ other) types.data_told
            ∙ ap (λ x. Some (MeansImport x.import)) own;
        declares =
            ap (λ o. declared_by_found (short_import_or_object o (object_found bytes))) found
            ∙ ap (λ b. if b then arm64ec_symbols (u16_at bytes 18 % 4) symbol else import_symbols (u16_at bytes 18 % 4 == 1) symbol) (ap (λ x. x.machine == arm64ec) own ∙ other)
            ∙ ap (λ b. import_symbols b symbol) types.data_told
            ∙ ap (λ x. x.import.declared) own;
      }

  by_name : (t : Option (List ℕ × List ℕ)) (symbol dll rest more : List ℕ) → is_short_import bytes ≡ true → HasTypes (u16_at bytes 18)
      → text_in (drop short_import_header_size bytes) ≡ Some (symbol, rest) → text_in rest ≡ Some (dll, more) → text_in more ≡ t
      → export_as_of bytes symbol dll t ≡ Some r
      → IsRead defined bytes r
  by_name None symbol dll rest more short types first second third is = cc
  by_name (Some (name, b ∷ others)) symbol dll rest more short types first second third is = cc
  by_name (Some (name, [])) symbol dll rest more short types first second third is = found_reads symbol dll name rest more short types first second third is

  by_dll : (t : Option (List ℕ × List ℕ)) (symbol rest : List ℕ) → is_short_import bytes ≡ true → HasTypes (u16_at bytes 18)
      → text_in (drop short_import_header_size bytes) ≡ Some (symbol, rest) → text_in rest ≡ t
      → export_as_after_dll bytes symbol t ≡ Some r
      → IsRead defined bytes r
  by_dll None symbol rest short types first second is = cc
  by_dll (Some (dll, more)) symbol rest short types first second is = by_name (text_in more) symbol dll rest more short types first second refl is

  by_symbol : (t : Option (List ℕ × List ℕ)) → is_short_import bytes ≡ true → HasTypes (u16_at bytes 18) → text_in (drop short_import_header_size bytes) ≡ t
      → export_as_after_symbol bytes t ≡ Some r
      → IsRead defined bytes r
  by_symbol None short types first is = cc
  by_symbol (Some (symbol, rest)) short types first is = by_dll (text_in rest) symbol rest short types first refl is

  by_tests : (a b c : Bool) → is_short_import bytes ≡ a → nat_le 16 (u16_at bytes 18) ≡ b → nat_le (u16_at bytes 18) 18 ≡ c
      → (if a && b && c then export_as_after_symbol bytes (text_in (drop short_import_header_size bytes)) else None) ≡ Some r
      → IsRead defined bytes r
  by_tests true true true short from to is = by_symbol (text_in (drop short_import_header_size bytes)) short (types_of (u16_at bytes 18) from to) refl is
  by_tests true true false short from to is = cc
  by_tests true false c short from to is = cc
  by_tests false b c short from to is = cc

  is_read : export_as_in bytes ≡ Some r → IsRead defined bytes r
  is_read is = by_tests (is_short_import bytes) (nat_le 16 (u16_at bytes 18)) (nat_le (u16_at bytes 18) 18) refl refl refl is

-- a name that is asked for by a third text is another symbol than that of the export
other_symbol : (machine : MachineType) (symbol name : List ℕ) → is_empty_text name ≡ false → makes machine symbol name ≡ false → is_alias name symbol ≡ true
other_symbol machine symbol name full apart =
    let differs = (neither (bytes_eq symbol name) (has_leading_underscore machine && (bytes_eq (without_prefix symbol) name || bytes_eq (before_at_sign (without_prefix symbol)) name)) apart).0 in
    let other : bytes_eq name symbol ≡ false =
    elim (cases_Bool (bytes_eq name symbol)) [
      | inl same ↦ absurd (true≢false (sym ((bytes_eq-Decides symbol name).1 (sym ((bytes_eq-Decides name symbol).0 same))) ∙ differs))
      | inr differ ↦ differ
    ] in
    ap (λ b. not b && not (bytes_eq name symbol)) full ∙ ap not other

apart_by : (machine : MachineType) (symbol : List ℕ) (asked : Option (List ℕ)) (name : List ℕ) → name_apart machine symbol asked ≡ Some name → (asked ≡ Some name) × (is_alias name symbol ≡ true)
apart_by machine symbol None name is = absurd (none-some name is)
apart_by machine symbol (Some asked) name is =
    elim (cases_Bool (is_empty_text asked || makes machine symbol asked)) [
      | inl refused ↦ absurd (none-some name (ap (λ b. if b then None else Some asked) (sym refused) ∙ is))
      | inr passed ↦
          let same : asked ≡ name = same_Some asked name (ap (λ b. if b then None else Some asked) (sym passed) ∙ is) in
          let parts = neither (is_empty_text asked) (makes machine symbol asked) passed in
          (ap Some same, subst (λ n. is_alias n symbol ≡ true) same (other_symbol machine symbol asked parts.0 parts.1))
    ]

-- an export with a third text asks for that name, and is no alias, though its symbol would be weak for the name
pub record AsksByText (e : ExportView) (name : List ℕ) : Type 0 where
  pub by_name : e.no_name ≡ false
  pub no_target : has_target e ≡ false
  pub asked : e.asked_name ≡ Some name
  pub other : is_alias name (symbol_made e) ≡ true

pub asks_by_text : (machine : MachineType) (e : ExportView) (name : List ℕ) → exported_name machine e ≡ Some name → AsksByText e name
asks_by_text machine e name is =
    elim (cases_Bool (e.private || (e.no_name || has_target e))) [
      | inl none ↦ absurd (none-some name (ap (λ b. if b then None else name_apart machine (symbol_made e) e.asked_name) (sym none) ∙ is))
      | inr passed ↦
          let parts = neither e.private (e.no_name || has_target e) passed in
          let others = neither e.no_name (has_target e) parts.1 in
          let apart = apart_by machine (symbol_made e) e.asked_name name (ap (λ b. if b then None else name_apart machine (symbol_made e) e.asked_name) (sym passed) ∙ is) in
          record { by_name = others.0; no_target = others.1; asked = apart.0; other = apart.1 }
    ]

-- the import of such an export
expected_by_text : (machine : MachineType) (dll : List ℕ) (e : ExportView) (name : List ℕ) → AsksByText e name → e.symbol_name ≡ []
    → record { dll = dll; declared = import_symbols e.is_data (short_import_symbol e); ask = Name name e.ordinal } ≡ expected_import machine dll e
expected_by_text machine dll e name asks plain =
    ap (λ s. record { dll = dll; declared = import_symbols e.is_data (symbol_or_name s e.name); ask = Name name e.ordinal }) plain
    ∙ ap (λ o. record { dll = dll; declared = import_symbols e.is_data e.name; ask = Name (unwrap_or o (asked_name machine e.name)) e.ordinal }) (sym asks.asked)
    ∙ ap (λ b. record { dll = dll; declared = import_symbols e.is_data e.name; ask = if b then Ordinal e.ordinal else Name (unwrap_or e.asked_name (asked_name machine e.name)) e.ordinal }) (sym asks.by_name)

not_other : (b : Bool) → not b ≡ true → b ≡ false
not_other true is = cc
not_other false is = refl

-- what its short import is read as
abbrev pub read_of_text : MachineType → List ℕ → ExportView → List ℕ → ExportAsRead
read_of_text machine dll e name = record {
  machine = machine_number machine;
  symbol = short_import_symbol e;
  import = record { dll = dll; declared = import_symbols e.is_data (short_import_symbol e); ask = Name name e.ordinal };
}

-- what is read of its short import
text_read : (defined : List ℕ → Option Place) (machine : MachineType) (dll : List ℕ) (e : ExportView) (name : List ℕ)
    → e.symbol_name ≡ [] → Sound (kept_by (Some name) e) → holds 0 dll ≡ false → short_import_size (export_as_import machine dll e name) ≤ 0xFFFF_FFFF
    → IsRead defined (short_import_bytes (export_as_import machine dll e name)) (read_of_text machine dll e name)
text_read defined machine dll e name plain sound dll_free fits =
    let symbol_free : holds 0 (short_import_symbol e) ≡ false = ap (λ s. holds 0 (symbol_or_name s e.name)) plain ∙ sound.name in
    let read = export_as_reads machine dll e name symbol_free dll_free sound.alias_target (ltb-true e.ordinal 0x1_0000 sound.ordinal) fits in
    is_read defined (short_import_bytes (export_as_import machine dll e name)) (read_of_text machine dll e name) (not_other (machine_number machine == arm64ec) (machine_plain machine).0) read

pub text_means : (defined : List ℕ → Option Place) (machine : MachineType) (dll : List ℕ) (e : ExportView) (name : List ℕ)
    → exported_name machine e ≡ Some name → e.symbol_name ≡ [] → Sound (kept_by (Some name) e) → holds 0 dll ≡ false → short_import_size (export_as_import machine dll e name) ≤ 0xFFFF_FFFF
    → meaning_of_class (class_of_file defined (file_found (short_import_bytes (export_as_import machine dll e name)))) ≡ Some (MeansImport (expected_import machine dll e))
text_means defined machine dll e name is plain sound dll_free fits =
    (text_read defined machine dll e name plain sound dll_free fits).means
    ∙ ap (λ i. Some (MeansImport i)) (expected_by_text machine dll e name (asks_by_text machine e name is) plain)

pub text_declares : (machine : MachineType) (dll : List ℕ) (e : ExportView) (name : List ℕ)
    → e.symbol_name ≡ [] → Sound (kept_by (Some name) e) → holds 0 dll ≡ false → short_import_size (export_as_import machine dll e name) ≤ 0xFFFF_FFFF
    → declared_by_found (file_found (short_import_bytes (export_as_import machine dll e name))) ≡ short_import_symbols e
text_declares machine dll e name plain sound dll_free fits = (text_read (λ symbol. None) machine dll e name plain sound dll_free fits).declares
