-- The symbols of files and exports with them, worked by hand, and near misses.
use Rattle.std.specs.Prelude.{◌≡◌, ℕ, Bool, true, false, List, [], ◌∷◌, Option, Some, codes}
use Rattle.std.specs.Prelude.{map}
use Rattle.implib.specs.declared.machine.MachineType.TheVariants.{I386}
use Rattle.implib.specs.Definition.{ExportView, empty_export}
use Rattle.implib.specs.Import.{Ask, Import, Name, Ordinal}
use Rattle.implib_dll.specs.Exports.{NameEntry}
use Rattle.implib_dll.specs.WorkedFiles.{named}
use Rattle.implib_libraries.specs.FromDll.Worked.{export}
use Rattle.implib_rules.specs.Linked.{NamingView, linked_import}
use Rattle.implib_libraries.specs.OfDll.Decorated.{decorated_export, is_decorated, is_missing}
use Rattle.implib_libraries.specs.OfDll.Decorations.{DecorationView, decoration, killing, of_export}
use Rattle.implib_libraries.specs.OfDll.Decorations.{of_import}
use Rattle.implib_libraries.specs.OfDll.Worked.{usual}

-- the symbols of a file: of two for one name, of a name that the DLL has as data, and of one
-- without a count
abbrev pub file : List DecorationView
file =
    decoration (codes "Sleep") (codes "_Sleep@4") ∷ decoration (codes "two") (codes "_two")
    ∷ decoration (codes "two") (codes "_two@4") ∷ decoration (codes "two") (codes "_two@8")
    ∷ decoration (codes "v") (codes "_v@4")
    ∷ decoration (codes "printf") (codes "_printf") ∷ decoration (codes "ord_7") (codes "_ord_7@4")
    ∷ []

-- the symbol of an export on I386, and what it asks for
pub record SymbolAsking : Type 0 where
  pub symbol : List ℕ
  pub asked : Option (List ℕ)

abbrev pub by : List ℕ → List ℕ → SymbolAsking
by symbol asked = record { symbol = symbol; asked = Some asked }

abbrev pub linked_with : NamingView → List NameEntry → ExportView → SymbolAsking
linked_with naming names e =
    let linked = linked_import I386 naming (decorated_export naming file names e) in
    record { symbol = linked.name; asked = linked.asked_name }

-- a function by its name
abbrev pub function : List ℕ → ExportView
function name = export name 3 false false

-- an import of an object or of a short import
abbrev pub import_of : List (List ℕ) → Ask → Import
import_of declared ask = record { dll = codes "w.dll"; declared = declared; ask = ask }

-- what a definition has of a word
abbrev pub of_word : List ℕ → Bool → List DecorationView
of_word word is_data =
    of_export (linked_import I386 killing (record empty_export { name = word; is_data = is_data }))

-- What files have, and what exports get.
pub record WorkedDecorations : Type 0 where
  pub first_of_two : linked_with usual [] (function (codes "two"))
      ≡ by (codes "_two@4") (codes "two")
  pub hint : (decorated_export usual file [] (function (codes "Sleep"))).ordinal ≡ 3
  -- one that the file has without a count; data; and what has no name, whatever its word
  pub uncounted : linked_with usual [] (function (codes "printf"))
      ≡ by (codes "_printf") (codes "printf")
  pub data_stays : decorated_export usual file [] (export (codes "v") 3 false true)
      ≡ export (codes "v") 3 false true
  pub unnamed : decorated_export usual file [] (export (codes "ord_7") 7 true false)
      ≡ export (codes "ord_7") 7 true false
  -- where the DLL exports Sleep@4 too, that has the symbol
  pub exported : linked_with usual (named (codes "Sleep@4") 0 ∷ []) (function (codes "Sleep"))
      ≡ by (codes "_Sleep") (codes "Sleep")
  pub other_exported : linked_with usual (named (codes "Sleep@8") 0 ∷ []) (function (codes "Sleep"))
      ≡ by (codes "_Sleep@4") (codes "Sleep")
  -- with symbols as they are written, and under `-k`
  pub plain : linked_with (record usual { is_plain = true }) [] (function (codes "Sleep"))
      ≡ by (codes "_Sleep@4") (codes "Sleep")
  pub killed : linked_with (record usual { kills_at = true }) [] (function (codes "Sleep"))
      ≡ by (codes "_Sleep@4") (codes "Sleep")
  -- what counts the bytes of the arguments of a function, and what does not
  pub are : map (is_decorated (codes "f")) (codes "_f@0" ∷ codes "@f@12" ∷ []) ≡ true ∷ true ∷ []
  pub are_not : map (is_decorated (codes "f"))
      (codes "_f" ∷ codes "_f@" ∷ codes "_f@4x" ∷ codes "_ff@4" ∷ codes "f@4" ∷ codes "__f@4"
      ∷ codes "f@@4" ∷ codes "?f@4" ∷ [] ∷ [])
      ≡ false ∷ false ∷ false ∷ false ∷ false ∷ false ∷ false ∷ false ∷ false ∷ []
  pub no_name : is_decorated [] (codes "_@4") ≡ false
  pub own_count : is_decorated (codes "f@4") (codes "_f@4@4") ≡ false
  pub of_cpp : is_decorated (codes "?f") (codes "_?f@4") ≡ false
  -- imports: of a function; of data; by ordinal
  pub import_function : of_import
      (import_of (codes "__imp__f@4" ∷ codes "_f@4" ∷ []) (Name (codes "f") 1))
      ≡ decoration (codes "f") (codes "_f@4") ∷ []
  pub import_data : of_import (import_of (codes "__imp__v" ∷ []) (Name (codes "v") 1)) ≡ []
  pub import_ordinal : of_import (import_of (codes "__imp__f@4" ∷ codes "_f@4" ∷ []) (Ordinal 1))
      ≡ []
  -- words of a definition: LIB's; one without a count; data
  pub lib_word : of_word (codes "_Sleep@4") false
      ≡ decoration (codes "_Sleep") (codes "__Sleep@4")
      ∷ decoration (codes "Sleep") (codes "_Sleep@4") ∷ []
  pub plain_word : of_word (codes "printf") false
      ≡ decoration (codes "printf") (codes "_printf") ∷ []
  pub data_word : of_word (codes "v@4") true ≡ []
  -- functions that the file lacks
  pub missing : map (is_missing file)
      (function (codes "g") ∷ function (codes "printf") ∷ export (codes "w") 0 false true
      ∷ export (codes "ord_9") 9 true false ∷ [])
      ≡ true ∷ false ∷ false ∷ false ∷ []
