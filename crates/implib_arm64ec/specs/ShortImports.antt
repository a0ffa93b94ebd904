-- The short imports of ARM64EC, and the symbols that an archive lists for each (LLVM,
-- "COFFImportFile.cpp"). They are those of other machines, but for the marks of functions, and for
-- a third text, which every function by name has.
use Rattle.std.specs.Prelude.{ℕ, Bool, not, ◌&&◌, List, [], ◌∷◌, ◌++◌, bytes_eq, codes, unwrap_or}
use Rattle.std.specs.Prelude.{Option, Some, None, Result, Ok, Err, if◌then◌else◌}
use Rattle.implib.specs.Definition.{ExportView}
use Rattle.implib.specs.Formats.ShortImport.{ShortImport}
use Rattle.implib.specs.Import.{imp_symbol, is_alias}
use Rattle.implib.specs.LibraryName.{NamesOfDll}
use Rattle.implib.specs.Members.MemberSpec.{AShortImport, MemberSpec}
use Rattle.implib.specs.Members.Msvc.{dll_texts, import_type_of, short_import_symbol}
use Rattle.implib_arm64ec.specs.Marks.{mark, unmark}

-- the machine of the short imports ("Machine Types", IMAGE_FILE_MACHINE_ARM64EC)
abbrev pub machine_arm64ec : ℕ
machine_arm64ec = 0xA641

-- whether an export is a function
abbrev pub is_function : ExportView → Bool
is_function e = not e.is_data && not e.constant

-- the name that an export gives to ask its DLL for: its own asked name or, for an alias, its target
abbrev pub name_given : ExportView → Option (List ℕ) → Option (List ℕ)
name_given e (Some name) = Some name
name_given e None =
    if is_alias e.alias_target (short_import_symbol e) then Some e.alias_target else None

-- a symbol without its mark, if it has one
abbrev pub plain_symbol : List ℕ → List ℕ
plain_symbol symbol = unwrap_or (unmark symbol) symbol

-- the name by which an export with this symbol asks, if it is not to follow from the symbol
abbrev pub name_apart : ExportView → List ℕ → Option (List ℕ) → Option (List ℕ)
name_apart e symbol (Some name) = Some name
name_apart e symbol None = if is_function e then Some (plain_symbol symbol) else None

-- the third text
abbrev pub third_text : ExportView → List ℕ → Option (List ℕ)
third_text e symbol = if e.no_name then None else name_apart e symbol (name_given e e.asked_name)

-- the name type: by ordinal (0), export as (4) with a third text, else name (1)
abbrev pub name_type_of : Bool → Option (List ℕ) → ℕ
name_type_of no_name (Some name) = 4
name_type_of no_name None = if no_name then 0 else 1

-- the short import of an export with this symbol
abbrev pub import_of : List ℕ → ExportView → List ℕ → ShortImport
import_of dll e symbol = record {
  version = 0;
  machine = machine_arm64ec;
  time = 0;
  ordinal = e.ordinal;
  import_type = import_type_of e;
  name_type = name_type_of e.no_name (third_text e symbol);
  symbol = symbol;
  dll = dll_texts dll (third_text e symbol);
}

-- the symbol of the address in the auxiliary table, which is of ARM64EC's own code
abbrev pub auxiliary_symbol : List ℕ → List ℕ
auxiliary_symbol name = codes "__imp_aux_" ++ name

-- the symbol, where it has a mark and so is not the name
abbrev pub symbol_apart : List ℕ → List ℕ → List (List ℕ)
symbol_apart symbol plain = if bytes_eq symbol plain then [] else symbol ∷ []

-- the symbols of an import with this symbol, and with this name without a mark
abbrev pub symbols_with : Bool → List ℕ → List ℕ → List (List ℕ)
symbols_with is_data symbol plain =
    if is_data then imp_symbol plain ∷ []
    else imp_symbol plain ∷ plain ∷ auxiliary_symbol plain ∷ symbol_apart symbol plain

-- The symbols: a name in them never has the mark, whatever the import is. For example, of the
-- function or the constant `#f`: `__imp_f`, `f`, `__imp_aux_f` and `#f`; of the constant `c` those
-- of `c` alone; of data `#d`: `__imp_d`.
abbrev pub import_symbols : ExportView → List ℕ → List (List ℕ)
import_symbols e symbol = symbols_with e.is_data symbol (plain_symbol symbol)

-- the specification of the member of an export with this symbol
abbrev pub import_spec : NamesOfDll → ExportView → List ℕ → MemberSpec
import_spec dll e symbol = record {
  name = dll.linked;
  contents = AShortImport (import_of dll.text e symbol);
  symbols = import_symbols e symbol;
}

-- the symbol of an export: of a function with its mark
abbrev pub symbol_of : ExportView → Result (List ℕ) ℕ
symbol_of e = if is_function e then mark (short_import_symbol e) else Ok (short_import_symbol e)

-- the specification of an export, or where its name has no reading
abbrev pub spec_with : NamesOfDll → ExportView → Result (List ℕ) ℕ → Result MemberSpec ℕ
spec_with dll e (Ok symbol) = Ok (import_spec dll e symbol)
spec_with dll e (Err place) = Err place

abbrev pub spec_of : NamesOfDll → ExportView → Result MemberSpec ℕ
spec_of dll e = spec_with dll e (symbol_of e)
