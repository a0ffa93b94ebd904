-- What `implib_arm64ec` makes of an export is read as what the export means.
use Rattle.std.specs.Prelude.{◌≡◌, ℕ, ◌<◌, ◌^◌, List, [], ◌∷◌, ◌++◌, None, Option, Result, Ok, Err}
use Rattle.std.specs.Prelude.{if◌then◌else◌, map}
use Rattle.std.specs.List.{AllByRecursion}
use Rattle.implib.specs.Definition.{ExportView}
use Rattle.implib.specs.LibraryName.{NamesOfDll}
use Rattle.implib.specs.Members.Msvc.{short_import_bytes}
use Rattle.implib_arm64ec.specs.LibraryImports.{imports_fault, imports_of}
use Rattle.implib_arm64ec.specs.ReadBack.{CanBeRead, ask_of}
use Rattle.implib_arm64ec.specs.ShortImports.{import_of, import_symbols, machine_arm64ec, symbol_of}
use Rattle.implib_read.specs.Classes.{AnImport, Imported, class_of_file}
use Rattle.implib_read.specs.Files.{file_found}
use Rattle.implib_read.specs.Following.{Place}
use Rattle.implib_read.specs.OwnLibraries.{expected_kind}

-- the import of an export with this symbol: what an archive lists for it, what it asks for, its
-- kind and the machine
abbrev pub import_meant : List ℕ → ExportView → List ℕ → Imported
import_meant dll e symbol = record {
  imports = record { dll = dll; declared = import_symbols e symbol; ask = ask_of e symbol };
  kind = expected_kind e;
  machine = machine_arm64ec;
}

-- The short import of an export is read by its bytes, among whatever other members, as the import
-- that the export means.
abbrev pub ShortImportsAreRead : Type 0
ShortImportsAreRead = (defined : List ℕ → Option Place) (dll : List ℕ) (e : ExportView)
    (symbol : List ℕ) → CanBeRead dll e symbol
    → class_of_file defined (file_found (short_import_bytes (import_of dll e symbol)))
    ≡ AnImport (import_meant dll e symbol)

-- the import of an export with this symbol, or none where its name has no reading
abbrev pub meant_by : List ℕ → ExportView → Result (List ℕ) ℕ → List Imported
meant_by dll e (Ok symbol) = import_meant dll e symbol ∷ []
meant_by dll e (Err place) = []

-- the imports that exports mean, in order; a private one means none
abbrev pub imports_meant : List ℕ → List ExportView → List Imported
imports_meant dll [] = []
imports_meant dll (e ∷ exports) =
    (if e.private then [] else meant_by dll e (symbol_of e)) ++ imports_meant dll exports

-- The short imports of a library's exports are read, among whatever other members, as the imports
-- that the exports mean, in order, and nothing else.
abbrev pub ImportsAreRead : Type 0
ImportsAreRead = (defined : List ℕ → Option Place) (dll : NamesOfDll) (exports : List ExportView)
    → AllByRecursion (λ e. e.ordinal < 2 ^ 16) exports → imports_fault dll exports ≡ None
    → map (λ m. class_of_file defined (file_found m.bytes)) (imports_of dll exports)
    ≡ map AnImport (imports_meant dll.text exports)
