-- What a caller sees of imports.
use Rattle.std.specs.Prelude.{ℕ, List, ◌++◌, map}
use Rattle.implib.specs.Import.{Ask, Name as ByName, Ordinal as ByOrdinal, Import, import_symbols}
use Rattle.implib_read.specs.declared.import.AskFound.{AskFound}
use Rattle.implib_read.specs.declared.import.AskFound.TheVariants.{Name, Ordinal}
use Rattle.implib_read.specs.declared.import.DeclaredFound.{DeclaredFound}
use Rattle.implib_read.specs.declared.import.DeclaredFound.TheVariants.{OfArm64ec, OfName, OfObject}
use Rattle.implib_read.specs.declared.import.ImportFound.{ImportFound}

abbrev pub ask_view : AskFound → Ask
ask_view (Name name hint) = ByName name.now hint
ask_view (Ordinal ordinal) = ByOrdinal ordinal

abbrev pub declared_view : DeclaredFound → List (List ℕ)
declared_view (OfName name is_data) = import_symbols is_data name.now
declared_view (OfArm64ec symbols) = map (λ s. s.items) symbols.items
declared_view (OfObject addresses code) =
    map (λ t. t.now) addresses.items ++ map (λ t. t.now) code.items

abbrev pub import_view : ImportFound → Import
import_view i =
    record { dll = i.dll.now; declared = declared_view i.declared; ask = ask_view i.ask }
