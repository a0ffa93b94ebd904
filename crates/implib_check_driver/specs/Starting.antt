-- Whether a program finds what it imports in the DLLs of some folders (this project's choice;
-- docs/CHECK.md, "A program").
use Rattle.std.specs.Prelude.{◌≡◌, ℕ, ◌==◌, Bool, List, [], ◌∷◌, Err, None, Ok, Option, Some}
use Rattle.std.specs.Prelude.{fold, if◌then◌else◌, map, max}
use Rattle.std.specs.List.{flat_map}
use Rattle.implib_dll.specs.Exports.{Exports, exports_in}
use Rattle.implib_dll.specs.Imports.{Ask, ImportedDll, Imports}
use Rattle.implib_dll.specs.Outcome.{Read}
use Rattle.implib_dll.specs.declared.section.Layout.TheVariants.{File}
use Rattle.implib_compare.specs.DllCheck.DllName.{loader_name}
use Rattle.implib_compare.specs.DllCheck.Folders.{Listing, dll_path}
use Rattle.implib_compare.specs.DllCheck.Imports.{is_lost}
use Rattle.implib_compare.specs.DllCheck.Programs.{is_asked, judged_ask}
use Rattle.implib_compare.specs.declared.dll_check.import.Loss.TheVariants.{NotFound, OtherMachine}
use Rattle.implib_check_driver.specs.Answer.{AnswerView, IsSaid, lines}
use Rattle.implib_check_driver.specs.Json.{LostIn, NoExports, NoFile, Unread, UnmetBy}
use Rattle.implib_check_driver.specs.Json.{UnmetView}

-- an ask of a program that its DLL does not meet
abbrev pub lost_of : Exports → List ℕ → Ask → List UnmetView
lost_of e path ask =
    if is_lost (judged_ask e ask) then LostIn path NotFound (Some ask) ∷ [] else []

-- what of a program's asks is not met by the DLL of a file, as its bytes are read
abbrev pub unmet_by : List ℕ → Read (Option Exports) → ℕ → List Ask → List UnmetView
unmet_by path (Ok (Some e)) machine asks =
    if machine == e.machine then flat_map (lost_of e path) asks
    else LostIn path OtherMachine None ∷ []
unmet_by path (Ok None) machine asks = NoExports path ∷ []
unmet_by path (Err fault) machine asks = Unread path ∷ []

-- the same where a folder may have the DLL, by the bytes of files
abbrev pub unmet_at : (List ℕ → List ℕ) → Option (List ℕ) → ℕ → List Ask → List UnmetView
unmet_at file None machine asks = NoFile ∷ []
unmet_at file (Some path) machine asks =
    unmet_by path (exports_in File (file path)) machine asks

-- what of a DLL that a program imports from is not met; of one of which nothing is asked none is
-- wanted
abbrev pub unmet_of : (List ℕ → List ℕ) → List Listing → ℕ → ImportedDll → List UnmetView
unmet_of file folders machine i =
    if is_asked i then unmet_at file (dll_path folders (loader_name i.dll)) machine i.asks else []

-- the lines of that
abbrev pub unmet_lines : Bool → List ℕ → List ℕ → List UnmetView → List ℕ
unmet_lines json program dll unmet = lines json (map (UnmetBy program dll) unmet)

-- the status of what is not met: 1 where there is something
abbrev pub unmet_status : List UnmetView → ℕ
unmet_status [] = 0
unmet_status (unmet ∷ more) = 1

-- the lines of what is not met of DLLs, in order
abbrev pub dlls_lines : Bool → List ℕ → (List ℕ → List ℕ) → List Listing → ℕ →
    List ImportedDll → List ℕ
dlls_lines json program file folders machine dlls = flat_map
    (λ i. unmet_lines json program i.dll (unmet_of file folders machine i)) dlls

-- their status
abbrev pub dlls_status : (List ℕ → List ℕ) → List Listing → ℕ → List ImportedDll → ℕ
dlls_status file folders machine dlls =
    fold (λ status i. max status (unmet_status (unmet_of file folders machine i))) 0 dlls

-- The answer for a program, as its bytes are read: 0 where all is met, and 1 where not, or where
-- they are no program.
abbrev pub IsProgramAnswer : Bool → List ℕ → (List ℕ → List ℕ) → List Listing → Read Imports →
    AnswerView → Type 0
IsProgramAnswer json path file folders (Ok imports) a = a ≡ record {
  status = dlls_status file folders imports.machine imports.dlls;
  out = dlls_lines json path file folders imports.machine imports.dlls;
  err = [];
}
IsProgramAnswer json path file folders (Err fault) a = IsSaid 1 path a
