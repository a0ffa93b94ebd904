-- Whether a library means what a definition means (this project's choice).
use Rattle.std.specs.Prelude.{◌≡◌, ℕ, Bool, true, false, List, None, Option, Some, map}
use Rattle.implib_arm64ec.specs.Archive.{ec_archive, library_refusal}
use Rattle.implib_arm64ec.specs.Library.{LibraryView, members_of}
use Rattle.implib_libraries.specs.Arm64ec.{IsLibraryOfTexts, IsRefusalOfArchive, IsRefusalOfTexts}
use Rattle.implib_read.specs.Classes.{MemberRead, library_in}
use Rattle.implib_read.specs.OwnLibraries.{member_bytes_in}
use Rattle.implib_rules.specs.Library.{IsLibrary, IsRefusalOfBytes}
use Rattle.implib_rules.specs.Older.{IsLibraryAsked, IsRefusalOfBytesAsked}
use Rattle.implib_rules.specs.Options.{LibraryOptionsView}
use Rattle.implib_rules.specs.declared.library.Refusal.{Refusal}
use Rattle.implib_compare.specs.declared.compare.Verdict.{Verdict}
use Rattle.implib_compare.specs.declared.meant.Arm64ecFault.{Arm64ecFault}
use Rattle.implib_compare.specs.declared.meant.Arm64ecFault.TheVariants.{OfArchive, OfTexts}
use Rattle.implib_compare.specs.Comparison.{Means, verdict}

-- the library that a definition has for these options, with the older symbols of addresses (`-C`)
-- or without
abbrev pub IsLibraryFor : Bool → List ℕ → LibraryOptionsView → List ℕ → Type 0
IsLibraryFor true definition options file = IsLibraryAsked true definition options file
IsLibraryFor false definition options file = IsLibrary definition options file

-- why it has none
abbrev pub IsRefusalFor : Bool → List ℕ → LibraryOptionsView → Refusal → Type 0
IsRefusalFor true definition options why = IsRefusalOfBytesAsked true definition options why
IsRefusalFor false definition options why = IsRefusalOfBytes definition options why

-- The verdict on a library beside a definition: that on the library and on the one that the
-- definition has for these options, with the older symbols of addresses or without, as both are
-- read.
pub record IsVerdictOn (older : Bool) (definition : List ℕ) (options : LibraryOptionsView)
    (members : List MemberRead) (v : Verdict) : Type 0 where
  -- the library of the definition
  pub file : List ℕ
  pub is_library : IsLibraryFor older definition options file
  -- what is read of it
  pub meant : List MemberRead
  pub read : library_in file ≡ Some meant
  pub is : v ≡ verdict members meant
  -- what the verdict means
  pub means : Means v members meant

-- The file of a library for ARM64EC: of a definition and, if there is one, of a native definition,
-- for these options.
pub record IsArm64ecFile (definition : List ℕ) (native : Option (List ℕ))
    (options : LibraryOptionsView) (file : List ℕ) : Type 0 where
  pub library : LibraryView
  pub is_library : IsLibraryOfTexts definition native options library
  pub accepted : library_refusal library ≡ None
  pub is : file ≡ ec_archive library

-- the definitions have a library for ARM64EC, whose members have no archive
pub record HasNoArm64ecArchive (definition : List ℕ) (native : Option (List ℕ))
    (options : LibraryOptionsView) (why : Refusal) : Type 0 where
  pub library : LibraryView
  pub is_library : IsLibraryOfTexts definition native options library
  pub refused : IsRefusalOfArchive library why

-- why there is no such file
abbrev pub IsArm64ecFault : List ℕ → Option (List ℕ) → LibraryOptionsView → Arm64ecFault → Type 0
IsArm64ecFault definition native options (OfTexts why) =
    IsRefusalOfTexts definition native options why
IsArm64ecFault definition native options (OfArchive why) =
    HasNoArm64ecArchive definition native options why

-- The verdict on a library beside the definitions of one for ARM64EC.
pub record IsArm64ecVerdictOn (definition : List ℕ) (native : Option (List ℕ))
    (options : LibraryOptionsView) (members : List MemberRead) (v : Verdict) : Type 0 where
  -- the library of the definitions
  pub file : List ℕ
  pub is_file : IsArm64ecFile definition native options file
  -- what is read of it
  pub meant : List MemberRead
  pub read : library_in file ≡ Some meant
  pub is : v ≡ verdict members meant
  -- what the verdict means
  pub means : Means v members meant

-- In the archive of a library for ARM64EC its members are found, in order, and nothing else.
abbrev pub Arm64ecMembersFound : Type 0
Arm64ecMembersFound = (l : LibraryView) → library_refusal l ≡ None →
    member_bytes_in (ec_archive l) ≡ Some (map (λ m. m.bytes) (members_of l))
