-- The DLLs of some folders, which stand for those that a loader searches (this project's choice;
-- docs/CHECK.md, "A program").
use Rattle.std.specs.Prelude.{◌≡◌, ℕ, ◌++◌, ◌&&◌, All, Bool, List, [], ◌∷◌, Err, None, Ok, Option}
use Rattle.std.specs.Prelude.{Some, bytes_eq, codes, find, map}
use Rattle.std.specs.Option.{option_map, option_map_or, option_or}
use Rattle.std.specs.String.{string_bytes}
use Rattle.implib_dll.specs.Exports.{Exports, exports_in}
use Rattle.implib_dll.specs.Outcome.{Read}
use Rattle.implib_dll.specs.declared.section.Layout.TheVariants.{File}
use Rattle.implib_compare.specs.DllCheck.DllName.{has_ending, loader_name}
use Rattle.implib_compare.specs.DllCheck.Forwarding.{Content, Holds, Known, NoExports, NoFile, Refused}
use Rattle.implib_compare.specs.DllCheck.Forwarding.{known_in}
use Rattle.implib_compare.specs.DllCheck.Laws.{Extends}
use Rattle.implib_compare.specs.declared.dll_check.folder.Folder.{Folder}
use Rattle.implib_compare.specs.declared.dll_check.folder.Loaded.{Loaded}

-- a folder, with the names of its files
abbrev pub Listing : Type 0
Listing = List ℕ × List (List ℕ)

-- the view of a folder of the program
abbrev pub folder_view : Folder → Listing
folder_view f = (f.path.now, map string_bytes f.names.items)

-- the path of a file in a folder
abbrev pub path_in : List ℕ → List ℕ → List ℕ
path_in folder name = folder ++ codes "/" ++ name

-- Whether a loader takes a file for the DLL that it knows by a name: in letters of any case, with
-- its ending.
abbrev pub is_file_of : List ℕ → List ℕ → Bool
is_file_of known name = has_ending name && bytes_eq (loader_name name) known

-- the path of that file in the first folder that has one
abbrev pub dll_path : List Listing → List ℕ → Option (List ℕ)
dll_path [] known = None
dll_path (folder ∷ folders) known =
    option_or (option_map (path_in folder.0) (find (is_file_of known) folder.1))
    (dll_path folders known)

-- the folders of paths, with the names of their files
abbrev pub listings : (List ℕ → List (List ℕ)) → List (List ℕ) → List Listing
listings names paths = map (λ path. (path, names path)) paths

-- what is known: the bytes of each file, and the names in each folder
abbrev pub AreKnown : {X : Type 0} → (List ℕ → Option X) → (List ℕ → X) → Type 0
AreKnown seen of = (path : List ℕ) → seen path ≡ Some (of path)

-- what there is of a DLL, as a file is read
abbrev pub content_of : Read (Option Exports) → Content
content_of (Ok (Some e)) = Holds e
content_of (Ok None) = NoExports
content_of (Err fault) = Refused

abbrev pub content_in : Option (List ℕ) → Content
content_in bytes = option_map_or (λ file. content_of (exports_in File file)) bytes NoFile

-- What there is of the DLL that a loader knows by a name: the first folder's that has one.
abbrev pub content_at : (List ℕ → List ℕ) → List Listing → List ℕ → Content
content_at file folders name = content_in (option_map file (dll_path folders name))

-- what is known of a DLL that a program has read
abbrev pub loaded_view : Loaded → Known
loaded_view l =
    record { name = l.name.items; content = content_in (option_map (λ bytes. bytes.items) l.bytes) }

-- what is known of a DLL is what there is of it in the folders
abbrev pub IsRight : (List ℕ → List ℕ) → List Listing → Known → Type 0
IsRight file folders d = d.content ≡ content_at file folders d.name

-- What is right of some DLLs is part of what there is in the folders.
abbrev pub RightDllsExtend : Type 0
RightDllsExtend = (file : List ℕ → List ℕ) (folders : List Listing) (dlls : List Known) →
    All (IsRight file folders) dlls
    → Extends (known_in dlls) (λ name. Some (content_at file folders name))
