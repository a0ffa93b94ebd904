-- Views of short imports that are kept as what they say. No promise cites them.
use Rattle.std.specs.Prelude.{◌≡◌, ℕ, ◌+◌, ◌<◌, ◌≤◌, ◌==◌, ◌^◌, List, [], ◌∷◌, ◌++◌, Option, None}
use Rattle.std.specs.Prelude.{Some, Result, Ok, Err, IfErr, OnOk, drop, length, map, if◌then◌else◌}
use Rattle.std.specs.Prelude.{slice_range, string_bytes}
use Rattle.std.specs.List.{AllByRecursion}
use Rattle.std.specs.Str.{IsUtf8}
use Rattle.implib.specs.Definition.{ExportView}
use Rattle.implib.specs.Formats.ShortImport.{ShortImport, import_data}
use Rattle.implib.specs.Import.{imp_symbol}
use Rattle.implib.specs.LibraryName.{NamesOfDll}
use Rattle.implib.specs.Members.MemberSpec.{MemberView}
use Rattle.implib.specs.Members.Msvc.{dll_texts, short_import_bytes, short_import_size}
use Rattle.implib_arm64ec.specs.LibraryImports.{IsFault, export_fault, import_of_export, spec_fault}
use Rattle.implib_arm64ec.specs.ShortImports.{auxiliary_symbol, import_of, import_symbols}
use Rattle.implib_arm64ec.specs.ShortImports.{machine_arm64ec, spec_of, symbol_apart, symbol_of}
use Rattle.implib_arm64ec.specs.declared.kept_import.KeptImport.{KeptImport}
use Rattle.implib_arm64ec.specs.declared.kept_import.Third.{Third}
use Rattle.implib_arm64ec.specs.declared.kept_import.Third.TheVariants.{Absent, Other, Plain}
use Rattle.implib_arm64ec.specs.declared.library.ImportsError.{ImportsError}
use Rattle.implib_arm64ec.specs.declared.library.ImportsFault.{ImportsFault}
use Rattle.implib_arm64ec.specs.declared.library.ImportsFault.TheVariants.{Unreadable}

-- the text that is kept of a name without a mark, a symbol and a third text that is not that name
abbrev pub kept_texts : List ℕ → List ℕ → List ℕ → List ℕ
kept_texts plain symbol other = imp_symbol plain ++ (auxiliary_symbol plain ++ (symbol ++ other))

-- where the symbol of the auxiliary address ends, which is longer than that of the address by four
abbrev pub auxiliary_end : KeptImport → ℕ
auxiliary_end k = k.address_end + (k.address_end + 4)

-- the parts of the text
abbrev pub kept_address : KeptImport → List ℕ
kept_address k = slice_range (string_bytes k.texts) 0 k.address_end

abbrev pub kept_plain : KeptImport → List ℕ
kept_plain k = slice_range (string_bytes k.texts) 6 k.address_end

abbrev pub kept_auxiliary : KeptImport → List ℕ
kept_auxiliary k = slice_range (string_bytes k.texts) k.address_end (auxiliary_end k)

abbrev pub kept_symbol : KeptImport → List ℕ
kept_symbol k = slice_range (string_bytes k.texts) (auxiliary_end k) k.symbol_end

abbrev pub kept_other : KeptImport → List ℕ
kept_other k = drop k.symbol_end (string_bytes k.texts)

-- the third text
abbrev pub third_with : Third → List ℕ → List ℕ → Option (List ℕ)
third_with Absent plain other = None
third_with Plain plain other = Some plain
third_with Other plain other = Some other

abbrev pub kept_third : KeptImport → Option (List ℕ)
kept_third k = third_with k.third (kept_plain k) (kept_other k)

-- what it says
abbrev pub kept_import : List ℕ → KeptImport → ShortImport
kept_import dll k = record {
  version = 0;
  machine = machine_arm64ec;
  time = 0;
  ordinal = k.ordinal;
  import_type = k.import_type;
  name_type = k.name_type;
  symbol = kept_symbol k;
  dll = dll_texts dll (kept_third k);
}

-- its archive symbols
abbrev pub kept_symbols : KeptImport → List (List ℕ)
kept_symbols k =
    if k.import_type == import_data then kept_address k ∷ []
    else kept_address k ∷ kept_plain k ∷ kept_auxiliary k
    ∷ symbol_apart (kept_symbol k) (kept_plain k)

-- the member
abbrev pub kept_view : NamesOfDll → KeptImport → MemberView
kept_view dll k = record {
  name = dll.linked;
  bytes = short_import_bytes (kept_import dll.text k);
  symbols = kept_symbols k;
}

-- the parts of the text, and where they end
pub record HasTexts (texts : List ℕ) (address_end symbol_end : ℕ)
    (plain symbol other : List ℕ) : Type 0 where
  pub whole : texts ≡ kept_texts plain symbol other
  pub address : address_end ≡ 6 + length plain
  pub own : symbol_end ≡ 16 + (length plain + length plain) + length symbol
  pub plain_text : IsUtf8 plain
  pub symbol_text : IsUtf8 symbol
  pub other_text : IsUtf8 other
  pub below : length texts < 2 ^ 64

-- the texts of one that is kept are these
pub record IsKeptWith (plain symbol : List ℕ) (third : Option (List ℕ))
    (k : KeptImport) : Type 0 where
  pub other : List ℕ
  pub texts : HasTexts (string_bytes k.texts) k.address_end k.symbol_end plain symbol other
  pub third_is : third_with k.third plain other ≡ third

-- what holds of one that is kept for a DLL of this name
pub record IsKept (dll : List ℕ) (k : KeptImport) : Type 0 where
  pub plain : List ℕ
  pub symbol : List ℕ
  pub other : List ℕ
  pub texts : HasTexts (string_bytes k.texts) k.address_end k.symbol_end plain symbol other
  pub import_type : k.import_type ≤ 3
  pub name_type : k.name_type ≤ 7
  pub short : short_import_size (kept_import dll k) ≤ 0xFFFF_FFFF

-- what is kept is that of an export
pub record IsKeptOf (dll : List ℕ) (e : ExportView) (k : KeptImport) : Type 0 where
  pub symbol : symbol_of e ≡ Ok (kept_symbol k)
  pub says : kept_import dll k ≡ import_of dll e (kept_symbol k)
  pub lists : kept_symbols k ≡ import_symbols e (kept_symbol k)
  pub kept : IsKept dll k

-- what is wrong with the symbol of the export at an index
abbrev pub symbol_fault : ℕ → Result (List ℕ) ℕ → Option ImportsFault
symbol_fault index (Ok symbol) = None
symbol_fault index (Err place) = Some (Unreadable index place)

-- an export without a short import, whatever the library's name: this is why
abbrev pub HasNoImport : List ℕ → ℕ → ExportView → ImportsError → Type 0
HasNoImport dll index e error =
    (linked : List ℕ) →
    IsFault (spec_fault index (spec_of (record { linked = linked; text = dll }) e)) error

-- The short import of the export at an index is kept behind others, unless the export is private,
-- whatever the library's name.
pub record Keeps (dll : List ℕ) (index : ℕ) (e : ExportView) (old new : List KeptImport)
    (result : Result (Unit {0}) ImportsError) : Type 0 where
  pub made : OnOk result
      ((linked : List ℕ) → map (kept_view (record { linked = linked; text = dll })) new
      ≡ map (kept_view (record { linked = linked; text = dll })) old
      ++ import_of_export (record { linked = linked; text = dll }) e)
  pub kept : OnOk result (AllByRecursion (IsKept dll) old → AllByRecursion (IsKept dll) new)
  pub accepted : OnOk result
      ((linked : List ℕ) → export_fault (record { linked = linked; text = dll }) index e ≡ None)
  pub refused : IfErr result
      (λ error. (linked : List ℕ) →
      IsFault (export_fault (record { linked = linked; text = dll }) index e) error)
