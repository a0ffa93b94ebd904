-- The files of DLLs in folders, worked by hand.
use Rattle.std.specs.Prelude.{◌≡◌, ℕ, List, [], ◌∷◌, None, Ok, Some, codes}
use Rattle.implib_dll.specs.WorkedFiles.{worked_exports}
use Rattle.implib_compare.specs.DllCheck.Folders.{Listing, content_at, content_of, dll_path}
use Rattle.implib_compare.specs.DllCheck.Forwarding.{Holds, NoExports, NoFile}

abbrev pub folders : List Listing
folders = (codes "a", codes "k" ∷ codes "K.DLL" ∷ codes "k.dll" ∷ [])
    ∷ (codes "b/c", codes "k.dll" ∷ codes "Deep.Name.drv" ∷ []) ∷ []

pub record WorkedFolders : Type 0 where
  -- the first folder's first file, in letters of any case, with its ending; one of another folder;
  -- none
  pub first : dll_path folders (codes "k.dll") ≡ Some (codes "a/K.DLL")
  pub second : dll_path folders (codes "deep.name.drv") ≡ Some (codes "b/c/Deep.Name.drv")
  pub none : dll_path folders (codes "deep.name") ≡ None
  -- a DLL that no folder has, and what is read of one
  pub absent : (file : List ℕ → List ℕ) → content_at file folders (codes "deep.name") ≡ NoFile
  pub held : content_of (Ok (Some worked_exports)) ≡ Holds worked_exports
  pub empty : content_of (Ok None) ≡ NoExports
