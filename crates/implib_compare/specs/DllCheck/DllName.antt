-- The names of DLLs, as a loader tells them apart (the loader of Wine, `dlls/ntdll/loader.c`: a
-- name without a full stop gets `.dll`, and case does not count).
use Rattle.std.specs.Prelude.{ℕ, ◌==◌, ◌++◌, Bool, List, [], ◌∷◌, None, Option, Some, codes}
use Rattle.std.specs.Prelude.{if◌then◌else◌, map}
use Rattle.std.specs.Char.{to_ascii_lowercase}
use Rattle.std.specs.List.{list_any}

-- whether a name has an ending: a full stop
abbrev pub has_ending : List ℕ → Bool
has_ending name = list_any (λ byte. byte == 0x2E) name

-- the name by which a loader knows a DLL
abbrev pub loader_name : List ℕ → List ℕ
loader_name name = map to_ascii_lowercase (if has_ending name then name else name ++ codes ".dll")

-- The names by which loaders know a DLL: the one that is given, or those of its export directory
-- and of its file. A copy of a DLL under another name is still told by the first.
abbrev pub names_of : Option (List ℕ) → List ℕ → List ℕ → List (List ℕ)
names_of (Some given) file own = loader_name given ∷ []
names_of None file own = loader_name own ∷ loader_name file ∷ []
