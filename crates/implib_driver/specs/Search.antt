-- Of which kinds the exports of a DLL are through the DLLs of some folders (this project's choice;
-- docs/DLLTOOL.md, "From a DLL").
use Rattle.std.specs.Prelude.{◌≡◌, ℕ, List, None, Option, Some, count_by, true}
use Rattle.std.specs.Option.{option_map}
use Rattle.implib.specs.Definition.{ExportView}
use Rattle.implib_dll.specs.Exports.{Exports}
use Rattle.implib_compare.specs.DllCheck.DllName.{names_of}
use Rattle.implib_compare.specs.DllCheck.Folders.{AreKnown, Listing, content_at, listings}
use Rattle.implib_compare.specs.DllCheck.Forwarding.{Beside}
use Rattle.implib_compare.specs.DllCheck.Kinds.{is_astray, kinds_followed}
use Rattle.implib_driver.specs.Apart.{AreSame}
use Rattle.implib_driver.specs.Disk.{DiskView, failing}
use Rattle.implib_driver.specs.Request.{RequestView}
use Rattle.implib_driver.specs.declared.search.Unsearched.{Unsearched}
use Rattle.implib_driver.specs.declared.search.Unsearched.TheVariants.{System, OutOfMemory, Taken}
use Rattle.implib_rules.specs.Names.{last_part}

-- the names by which loaders know the DLL of a request
abbrev pub own_names : RequestView → Exports → List (List ℕ)
own_names request e =
    names_of (option_map last_part request.library.dll) (last_part request.definition) e.dll

-- a DLL that loaders know by some names, beside those of folders, of which each file has these
-- bytes
abbrev pub beside_folders : (List ℕ → List ℕ) → List Listing → List (List ℕ) → Exports → Beside
beside_folders file folders names e =
    record { exports = e; names = names; others = λ name. Some (content_at file folders name) }

-- exports have the kinds that others have beside other DLLs, and this number of those are forwarded
-- to nothing
pub record AreFollowed (b : Beside) (before after : List ExportView) (astray : ℕ) : Type 0 where
  pub kinds : after ≡ kinds_followed b before
  pub counted : astray ≡ count_by (is_astray b) before

-- Exports of a DLL have the kinds that others have through the DLLs of the folders of a request,
-- where the bytes of files and the names in folders are known.
abbrev pub IsSearched : DiskView → Exports → RequestView → List ExportView → List ExportView → ℕ →
    Type 0
IsSearched disk e request before after astray =
    (file : List ℕ → List ℕ) (names : List ℕ → List (List ℕ)) → AreKnown disk.seen file →
    AreKnown disk.listed names
    → AreFollowed (beside_folders file (listings names request.search) (own_names request e) e)
    before after astray

-- the file of a library, if there is one for it, is that of a DLL in a folder
pub record IsThatOfDll (disk : DiskView) (output : List ℕ) : Type 0 where
  pub path : List ℕ
  pub same : AreSame disk output path true

abbrev pub TakesDll : DiskView → Option (List ℕ) → Type 0
TakesDll disk None = ⊥
TakesDll disk (Some output) = IsThatOfDll disk output

-- what a disk is where folders were not searched: as after a call that failed, or as before where
-- the library would take a DLL's place or memory was refused
abbrev pub FailsToSearch : DiskView → DiskView → Option (List ℕ) → Unsearched → Type 0
FailsToSearch before after output (System path cause) = after ≡ failing before
FailsToSearch before after output Taken = (after ≡ before) × TakesDll before output
FailsToSearch before after output OutOfMemory = after ≡ before
