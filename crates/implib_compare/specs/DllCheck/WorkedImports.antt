-- What imports of libraries come to in a DLL, worked by hand: in one that is called `w.dll`, is for
-- I386, and exports `alpha` and `beta` at ordinal 5, a variable at 6, nothing at 7, `gamma`, a
-- forwarder, at 8, and a function at 9.
use Rattle.std.specs.Prelude.{◌≡◌, ℕ, true, false, List, [], ◌∷◌, codes}
use Rattle.implib.specs.Import.{Ask, Ordinal, Name}
use Rattle.implib_dll.specs.WorkedFiles.{worked_exports}
use Rattle.implib_compare.specs.DllCheck.Imports.{asks_in, is_called}
use Rattle.implib_compare.specs.DllCheck.Imports.{judged}
use Rattle.implib_compare.specs.DllCheck.Worked.{falling}
use Rattle.implib_compare.specs.declared.dll_check.import.Judgement.TheVariants.{Reached}
use Rattle.implib_compare.specs.declared.dll_check.import.Judgement.TheVariants.{Lost}
use Rattle.implib_compare.specs.declared.dll_check.import.Loss.TheVariants.{NotFound, DataAsFunction}
use Rattle.implib_read.specs.Classes.{Class, AnImport, Descriptor, Head, Imported, MemberRead}
use Rattle.implib_read.specs.declared.import.ImportKind.{ImportKind}
use Rattle.implib_read.specs.declared.import.ImportKind.TheVariants.{Code, CodeOrConst, Const, Data}
use Rattle.implib_read.specs.declared.import.ImportKind.TheVariants.{Delayed}

-- the names of that DLL
abbrev pub known : List (List ℕ)
known = codes "w.dll" ∷ []

-- an import of a DLL, of a kind, for a machine
abbrev pub import_of : List ℕ → Ask → ImportKind → ℕ → Imported
import_of dll ask kind machine =
    record {
      imports = record { dll = dll; declared = []; ask = ask };
      kind = kind;
      machine = machine;
    }

-- a member
abbrev pub member_of : Class → MemberRead
member_of class = record { name = codes "m"; offset = 8; class = class }

-- three imports among parts of import tables
abbrev pub members : List MemberRead
members =
    member_of Head
    ∷ member_of (AnImport (import_of (codes "W.DLL") (Name (codes "alpha") 7) Code 0x14C))
    ∷ member_of (AnImport (import_of (codes "v.dll") (Ordinal 5) Code 0x14C))
    ∷ member_of (AnImport (import_of (codes "w") (Ordinal 9) CodeOrConst 0x14C))
    ∷ member_of Descriptor ∷ []

-- What imports come to.
pub record WorkedImports : Type 0 where
  -- an ordinal past the table, and a name that a search misses
  pub past : judged worked_exports known (import_of (codes "w.dll") (Ordinal 10) Data 0x14C)
      ≡ Lost NotFound
  pub missed : judged falling known (import_of (codes "w.dll") (Name (codes "alpha") 0) Data 0x14C)
      ≡ Lost NotFound
  pub not_missed : judged falling known
      (import_of (codes "w.dll") (Name (codes "alpha") 1) Data 0x14C) ≡ Reached
  -- a variable as other kinds, and a function as data
  pub as_constant : judged worked_exports known (import_of (codes "w.dll") (Ordinal 6) Const 0x14C)
      ≡ Reached
  pub as_either : judged worked_exports known
      (import_of (codes "w.dll") (Ordinal 6) CodeOrConst 0x14C) ≡ Lost DataAsFunction
  pub as_delayed : judged worked_exports known (import_of (codes "w.dll") (Ordinal 6) Delayed 0x14C)
      ≡ Lost DataAsFunction
  pub code_as_data : judged worked_exports known (import_of (codes "w.dll") (Ordinal 5) Data 0x14C)
      ≡ Reached
  -- names of the DLL
  pub capitals : is_called known (codes "W.dll") ≡ true
  pub no_ending : is_called known (codes "w") ≡ true
  pub other_ending : is_called known (codes "w.drv") ≡ false
  pub second : is_called (codes "v.dll" ∷ known) (codes "w") ≡ true
  pub of_none : is_called [] (codes "w") ≡ false
  -- of members
  pub asked : asks_in known members ≡ Name (codes "alpha") 7 ∷ Ordinal 9 ∷ []
  pub asked_of_both : asks_in (codes "v.dll" ∷ known) members
      ≡ Name (codes "alpha") 7 ∷ Ordinal 5 ∷ Ordinal 9 ∷ []
