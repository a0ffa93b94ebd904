-- The DLLs of a library, as `-I` names them (GNU dlltool's option), and its members, as LIB's
-- `/list` does. What a library imports, and what its members are, is said by `implib_read`.
use Rattle.std.specs.Prelude.{◌≡◌, ℕ, ◌==◌, ◌&&◌, Bool, true, false, List, [], ◌∷◌, ◌++◌, Option}
use Rattle.std.specs.Prelude.{None, Some, Result, Ok, Err, if◌then◌else◌, length, map, nat_lt}
use Rattle.std.specs.List.{flat_map}
use Rattle.implib_read.specs.Archives.{Archive, StoredMember, archive_in}
use Rattle.implib_read.specs.Classes.{MemberRead, library_in}
use Rattle.implib_read.specs.Identity.{dlls_of}
use Rattle.implib_driver.specs.declared.identity.IdentifyError.{IdentifyError}
use Rattle.implib_driver.specs.declared.identity.IdentifyError.TheVariants as error
use Rattle.implib_driver.specs.declared.identity.NotIdentified.{NotIdentified}
use Rattle.implib_driver.specs.declared.identity.NotIdentified.TheVariants.{NoDll, NoLibrary}
use Rattle.implib_driver.specs.declared.identity.NotIdentified.TheVariants.{SeveralDlls}
use Rattle.implib_driver.specs.declared.identity.Wanted.{Wanted}
use Rattle.implib_driver.specs.declared.identity.Wanted.TheVariants.{Dlls, Members, OneDll}

-- what is wrong with a number of DLLs
abbrev pub fault_of : Bool → ℕ → Option NotIdentified
fault_of is_strict count =
    if count == 0 then Some NoDll
    else if is_strict && nat_lt 1 count then Some SeveralDlls
    else None

-- names, each in a line
abbrev pub lines_of : List (List ℕ) → List ℕ
lines_of names = flat_map (λ name. name ++ 10 ∷ []) names

-- names in lines, unless something is wrong with their number
abbrev pub lines_unless : List (List ℕ) → Option NotIdentified → Result (List ℕ) NotIdentified
lines_unless names None = Ok (lines_of names)
lines_unless names (Some fault) = Err fault

-- the DLLs of the members of a library
abbrev pub named_of : Bool → Option (List MemberRead) → Result (List ℕ) NotIdentified
named_of is_strict None = Err NoLibrary
named_of is_strict (Some members) =
    lines_unless (dlls_of members) (fault_of is_strict (length (dlls_of members)))

-- the names of members
abbrev pub names_in : List StoredMember → List (List ℕ)
names_in members = map (λ m. m.name) members

-- the members of an archive
abbrev pub listed : Option Archive → Result (List ℕ) NotIdentified
listed None = Err NoLibrary
listed (Some a) = Ok (lines_of (names_in a.members))

-- what is written of the bytes of a file
abbrev pub identified : Wanted → List ℕ → Result (List ℕ) NotIdentified
identified Dlls bytes = named_of false (library_in bytes)
identified OneDll bytes = named_of true (library_in bytes)
identified Members bytes = listed (archive_in bytes)

-- an answer is refused for this, or for want of memory
abbrev pub IsRefusedSo : Result (List ℕ) NotIdentified → IdentifyError → Type 0
IsRefusedSo answer (error.Refused fault) = answer ≡ Err fault
IsRefusedSo answer error.OutOfMemory = Unit {0}
