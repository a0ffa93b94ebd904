-- What is done where a library for ARM64EC is asked for (this project's own; docs/DLLTOOL.md,
-- "ARM64EC").
use Rattle.std.specs.Prelude.{◌≡◌, ◌==◌, ◌&&◌, ◌⊎◌, ℕ, Bool, false, List, [], ◌∷◌, Option, None}
use Rattle.std.specs.Prelude.{Some, IfSome, if◌then◌else◌, is_some, length, unwrap_or}
use Rattle.implib_arm64ec.specs.Archive.{ec_archive, library_refusal}
use Rattle.implib_arm64ec.specs.Library.{LibraryView}
use Rattle.implib_libraries.specs.declared.arm64ec.Arm64ecRefusal.{Arm64ecRefusal}
use Rattle.implib_libraries.specs.declared.arm64ec.Arm64ecRefusal.TheVariants as refusal
use Rattle.implib_libraries.specs.Arm64ec.{IsLibraryOfTexts, IsRefusalOfArchive, IsRefusalOfTexts}
use Rattle.implib_driver.specs.Disk.{DiskView, KeepsFiles, definition_in}
use Rattle.implib_driver.specs.Placing.{IsPut, IsUnplaced}
use Rattle.implib_driver.specs.Reports.{Complains, Line, OfSystem, OfUnimported, OfUtf16, OfWriting}
use Rattle.implib_driver.specs.Reports.{Refuses, Says}
use Rattle.implib_driver.specs.Request.{RequestView}
use Rattle.implib_driver.specs.Verdicts.{output_or_none}
use Rattle.implib_driver.specs.Warned.{IsUnwarned, Warned, begins_utf16}
use Rattle.implib_rules.specs.declared.library.Refusal.{Refusal}
use Rattle.implib_rules.specs.declared.library.Refusal.TheVariants.{OutOfMemory}
use Rattle.implib_rules.specs.Library.{position_of, status_of}

-- the file of the native definition, or the definition's where there is none
abbrev pub native_path : RequestView → List ℕ
native_path request = unwrap_or (unwrap_or request.arm64ec None) request.definition

-- The file that a refusal of the native members is told of. One without a place is of the DLL's
-- name, which is the definition's.
abbrev pub native_told : List ℕ → List ℕ → Refusal → List ℕ
native_told definition native why = if is_some (position_of why) then native else definition

-- what is said of definitions, in these files, that have no library
abbrev pub arm64ec_lines : List ℕ → List ℕ → Arm64ecRefusal → List Line
arm64ec_lines definition native (refusal.OfDefinition why) = Refuses definition why ∷ []
arm64ec_lines definition native (refusal.OfImports why) =
    Complains definition (OfUnimported why) ∷ []
arm64ec_lines definition native (refusal.OfNative why) =
    Refuses (native_told definition native why) why ∷ []
arm64ec_lines definition native refusal.OutOfMemory = Refuses definition OutOfMemory ∷ []

-- the exit status then: 3 for want of memory, and else 1
abbrev pub arm64ec_status : Arm64ecRefusal → ℕ
arm64ec_status (refusal.OfDefinition why) = status_of why
arm64ec_status (refusal.OfImports why) = 1
arm64ec_status (refusal.OfNative why) = status_of why
arm64ec_status refusal.OutOfMemory = 3

-- the first of two definitions, in these files, that is in UTF-16
abbrev pub utf16_file : List ℕ → List ℕ → List ℕ → List ℕ → Option (List ℕ)
utf16_file definition native bytes native_bytes =
    if begins_utf16 bytes then Some definition
    else if begins_utf16 native_bytes then Some native
    else None

-- that a definition is in UTF-16 was said, and nothing else was done
pub record IsOneInUtf16 (bytes : List ℕ) (native : Option (List ℕ)) (request : RequestView)
    (disk put : DiskView) (before after : Option (List Line)) (status : ℕ) : Type 0 where
  pub path : List ℕ
  pub in_file :
      utf16_file request.definition (native_path request) bytes (unwrap_or native []) ≡ Some path
  pub same_disk : put ≡ disk
  pub says : Says before after (Complains path OfUtf16 ∷ [])
  pub is_status : status ≡ 1

-- the library was put, and nothing was said
pub record PutsArm64ec (known : Bool) (l : LibraryView) (request : RequestView)
    (disk put : DiskView) (before after : Option (List Line)) (status : ℕ) : Type 0 where
  pub accepted : library_refusal l ≡ None
  pub is_put : IsPut known disk put request.output (ec_archive l)
  pub silent : after ≡ before
  pub is_status : status ≡ 0

-- the library was not written whole, or is in no place, which was said
pub record FailsToPutArm64ec (l : LibraryView) (request : RequestView)
    (disk put : DiskView) (before after : Option (List Line)) (status : ℕ) : Type 0 where
  pub accepted : library_refusal l ≡ None
  pub unplaced : IsUnplaced disk put
  pub says : Says before after (Complains (output_or_none request.output) OfWriting ∷ [])
  pub is_status : status ≡ 3

-- the members have no archive, which was said, and nothing was put
pub record HasNoArm64ecArchive (l : LibraryView) (request : RequestView)
    (disk put : DiskView) (before after : Option (List Line)) (status : ℕ) : Type 0 where
  pub why : Refusal
  pub refused : IsRefusalOfArchive l why
  pub same_disk : put ≡ disk
  pub says : Says before after (Refuses request.definition why ∷ [])
  pub is_status : status ≡ status_of why

-- what is done with a library for ARM64EC
abbrev pub FinishesMembers : Bool → LibraryView → RequestView
    → DiskView → DiskView → Option (List Line) → Option (List Line) → ℕ → Type 0
FinishesMembers known l request disk put before after status =
    PutsArm64ec known l request disk put before after status
    ⊎ FailsToPutArm64ec l request disk put before after status
    ⊎ HasNoArm64ecArchive l request disk put before after status

-- whether a library has no more members than its headers
abbrev pub has_headers_alone : LibraryView → Bool
has_headers_alone l = length l.imports == 0 && length l.natives == 0

-- The warnings of the definition that are asked for were said, none of which counts members, since
-- there is no archive of another kind; then this was done with the library.
pub record IsWarnedAndPut (known : Bool) (bytes : List ℕ) (l : LibraryView) (request : RequestView)
    (disk put : DiskView) (before after : Option (List Line)) (status : ℕ) : Type 0 where
  pub warned : Option (List Line)
  pub warns : Warned request.is_verbose (has_headers_alone l) 0 bytes request before warned
  pub finishes : FinishesMembers known l request disk put warned after status

-- what is done with the bytes of a definition that has this library
abbrev pub FinishesLibrary : Bool → List ℕ → LibraryView → RequestView
    → DiskView → DiskView → Option (List Line) → Option (List Line) → ℕ → Type 0
FinishesLibrary known bytes l request disk put before after status =
    IsWarnedAndPut known bytes l request disk put before after status
    ⊎ IsUnwarned request disk put before after status

-- the warnings of the definition that are asked for were said, and then why there is no library;
-- nothing was put
pub record IsWarnedAndRefused (bytes : List ℕ) (why : Arm64ecRefusal) (request : RequestView)
    (disk put : DiskView) (before after : Option (List Line)) (status : ℕ) : Type 0 where
  pub same_disk : put ≡ disk
  pub warned : Option (List Line)
  pub warns : Warned request.is_verbose false 0 bytes request before warned
  pub says : Says warned after (arm64ec_lines request.definition (native_path request) why)
  pub is_status : status ≡ arm64ec_status why

-- what is done with the bytes of a definition that has no library for this reason
abbrev pub FinishesRefused : List ℕ → Arm64ecRefusal → RequestView
    → DiskView → DiskView → Option (List Line) → Option (List Line) → ℕ → Type 0
FinishesRefused bytes why request disk put before after status =
    IsWarnedAndRefused bytes why request disk put before after status
    ⊎ IsUnwarned request disk put before after status

-- the definitions have a library, with which this was done
pub record HasArm64ec (known : Bool) (bytes : List ℕ) (native : Option (List ℕ))
    (request : RequestView) (disk put : DiskView) (before after : Option (List Line))
    (status : ℕ) : Type 0 where
  pub no_utf16 :
      utf16_file request.definition (native_path request) bytes (unwrap_or native []) ≡ None
  pub library : LibraryView
  pub is_library : IsLibraryOfTexts bytes native request.library library
  pub finishes : FinishesLibrary known bytes library request disk put before after status

-- the definitions have none, for which this was done
pub record HasNoArm64ec (bytes : List ℕ) (native : Option (List ℕ)) (request : RequestView)
    (disk put : DiskView) (before after : Option (List Line)) (status : ℕ) : Type 0 where
  pub no_utf16 :
      utf16_file request.definition (native_path request) bytes (unwrap_or native []) ≡ None
  pub why : Arm64ecRefusal
  pub refused : IsRefusalOfTexts bytes native request.library why
  pub finishes : FinishesRefused bytes why request disk put before after status

-- what is done with the bytes of a definition and of a native one, if there is one
abbrev pub FinishesTexts : Bool → List ℕ → Option (List ℕ) → RequestView
    → DiskView → DiskView → Option (List Line) → Option (List Line) → ℕ → Type 0
FinishesTexts known bytes native request disk put before after status =
    HasArm64ec known bytes native request disk put before after status
    ⊎ HasNoArm64ec bytes native request disk put before after status
    ⊎ IsOneInUtf16 bytes native request disk put before after status

-- the native definition was read, and this was done with its bytes
pub record ReadsNative (known : Bool) (input : Option (List ℕ)) (bytes path : List ℕ)
    (request : RequestView) (disk put : DiskView) (before after : Option (List Line))
    (status : ℕ) : Type 0 where
  pub native : List ℕ
  pub read : IfSome (definition_in input disk path) (λ file. native ≡ file)
  pub finishes : FinishesTexts known bytes (Some native) request disk put before after status

-- the native definition could not be read
pub record HasUnreadNative (path : List ℕ) (disk put : DiskView)
    (before after : Option (List Line)) (status : ℕ) : Type 0 where
  pub keeps : KeepsFiles disk put
  pub says : Says before after (Complains path OfSystem ∷ [])
  pub is_status : status ≡ 3

-- what is done with the bytes of a definition, with a native one in this file, if one is given; the
-- bytes that standard input has left are these
abbrev pub FinishesArm64ec : Bool → Option (List ℕ) → List ℕ → Option (List ℕ) → RequestView
    → DiskView → DiskView → Option (List Line) → Option (List Line) → ℕ → Type 0
FinishesArm64ec known input bytes None request disk put before after status =
    FinishesTexts known bytes None request disk put before after status
FinishesArm64ec known input bytes (Some path) request disk put before after status =
    ReadsNative known input bytes path request disk put before after status
    ⊎ HasUnreadNative path disk put before after status
