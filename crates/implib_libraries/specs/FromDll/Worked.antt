-- Exports worked by hand, and near misses.
use Rattle.std.specs.Prelude.{◌≡◌, ℕ, true, false, List, [], ◌∷◌, Bool, None, codes}
use Rattle.implib.specs.Definition.{ExportView}
use Rattle.implib.specs.Import.{Ordinal, Name}
use Rattle.implib_dll.specs.declared.section.AddressKind.TheVariants.{Outside}
use Rattle.implib_dll.specs.Exports.{Exports, NameEntry, Empty, Address}
use Rattle.implib_dll.specs.WorkedFiles.{named, worked_exports}
use Rattle.implib_libraries.specs.FromDll.Definition.{exports_of}
use Rattle.implib_libraries.specs.FromDll.Laws.{NeedsNoSearch, asks_of}

-- an export, by its word, its number, whether it is by ordinal and whether it is data
abbrev pub export : List ℕ → ℕ → Bool → Bool → ExportView
export name number no_name is_data = record {
  name = name;
  ext_name = None;
  symbol_name = [];
  asked_name = None;
  alias_target = [];
  ordinal = number;
  no_name = no_name;
  is_data = is_data;
  private = false;
  constant = false;
}

-- the exports with these names
abbrev pub with_names : List NameEntry → Exports
with_names names = record worked_exports { names = names }

-- What definitions have of DLLs.
pub record WorkedExports : Type 0 where
  -- base 5: alpha and beta of one function, a variable without a name, a hole, the forwarder gamma,
  -- and the function again without a name
  pub whole : exports_of worked_exports ≡
      export (codes "alpha") 0 false false
      ∷ export (codes "beta") 1 false false
      ∷ export (codes "gamma") 2 false false
      ∷ export (codes "ord_6") 6 true true
      ∷ export (codes "ord_9") 9 true false
      ∷ []
  -- with names in another order the hints are theirs; a name at the hole, and one past the table,
  -- are left out, and count
  pub unsorted : exports_of
      (with_names (named (codes "h") 2 ∷ named (codes "z") 1 ∷ named (codes "p") 5
      ∷ named (codes "a") 0 ∷ [])) ≡
      export (codes "z") 1 false true
      ∷ export (codes "a") 3 false false
      ∷ export (codes "ord_8") 8 true false
      ∷ export (codes "ord_9") 9 true false
      ∷ []
  -- an address in no section is data
  pub outside : exports_of
      (record worked_exports { targets = Address 0x9000 Outside ∷ []; names = [] }) ≡
      export (codes "ord_5") 5 true true ∷ []
  -- no target, and none
  pub holes : exports_of (record worked_exports { targets = Empty ∷ Empty ∷ []; names = [] }) ≡ []
  -- what is asked for
  pub asks : asks_of worked_exports ≡
      Name (codes "alpha") 0 ∷ Name (codes "beta") 1 ∷ Name (codes "gamma") 2 ∷ Ordinal 6
      ∷ Ordinal 9 ∷ []
  -- the hint of another name, and the one past the last
  pub other_hint : NeedsNoSearch worked_exports (Name (codes "beta") 0) → ⊥
  pub hint_past : NeedsNoSearch worked_exports (Name (codes "gamma") 3) → ⊥
