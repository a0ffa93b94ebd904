-- A short import is read as the import of its export.
use Rattle.std.specs.Prelude.{◌≡◌, ℕ, ◌<◌, ◌≤◌, ◌^◌, false, List, Some, unwrap_or, if◌then◌else◌}
use Rattle.implib.specs.Definition.{ExportView}
use Rattle.implib.specs.Import.{Ask, Name, Ordinal, holds}
use Rattle.implib.specs.Members.Msvc.{import_type_of, short_import_bytes, short_import_size}
use Rattle.implib_arm64ec.specs.Reader.{import_in}
use Rattle.implib_arm64ec.specs.ShortImports.{import_of, third_text}

-- what an export with this symbol asks for
abbrev pub ask_of : ExportView → List ℕ → Ask
ask_of e symbol =
    if e.no_name then Ordinal e.ordinal else Name (unwrap_or (third_text e symbol) symbol) e.ordinal

-- texts without a NUL, which would end them, and numbers that their fields can hold
pub record CanBeRead (dll : List ℕ) (e : ExportView) (symbol : List ℕ) : Type 0 where
  pub symbol_free : holds 0 symbol ≡ false
  pub dll_free : holds 0 dll ≡ false
  pub third_free : holds 0 (unwrap_or (third_text e symbol) symbol) ≡ false
  pub ordinal : e.ordinal < 2 ^ 16
  pub size : short_import_size (import_of dll e symbol) ≤ 0xFFFF_FFFF

-- it is read as this
abbrev pub ReadsBack : List ℕ → ExportView → List ℕ → Type 0
ReadsBack dll e symbol = import_in (short_import_bytes (import_of dll e symbol))
    ≡ Some (record {
      symbol = symbol;
      dll = dll;
      import_type = import_type_of e;
      ask = ask_of e symbol;
    })
