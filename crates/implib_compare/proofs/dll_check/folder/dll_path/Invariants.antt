use Rattle.std.proofs.Common.{◌≡◌, drop, map}
use Rattle.implib_compare.specs.DllCheck.Folders.{dll_path, folder_view}
use Rattle.implib_compare.proofs.dll_check.folder.dll_path.Given as goal

-- the file is in the folders that are left
abbrev pub invariant-loop-folder : goal.invariant-loop-folder
invariant-loop-folder l =
    dll_path (map folder_view (drop l.folder-index l.folders)) l.known ≡ dll_path (map folder_view l.folders) l.known
