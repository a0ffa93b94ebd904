-- The library of a DLL (this project's own; docs/DLLTOOL.md, "From a DLL").
use Rattle.std.specs.Prelude.{◌≡◌, ◌≢◌, ℕ, Bool, false, true, List, Option, None, Some, Ok, Err}
use Rattle.std.specs.Prelude.{codes, is_some, nat_eq}
use Rattle.std.specs.List.{starts_with}
use Rattle.implib.specs.declared.machine.MachineType.{MachineType}
use Rattle.implib.specs.Conversions.{machine_numbered}
use Rattle.implib.specs.Definition.{ExportView}
use Rattle.implib.specs.Machine.{has_leading_underscore}
use Rattle.implib.specs.Members.MemberSpec.{MemberView}
use Rattle.implib_dll.specs.declared.section.Layout.TheVariants.{File}
use Rattle.implib_dll.specs.Exports.{Exports, exports_in}
use Rattle.implib_driver.specs.declared.dll.DllRefusal.{DllRefusal}
use Rattle.implib_driver.specs.declared.dll.DllRefusal.TheVariants.{Arm64ec, Read, NoExports}
use Rattle.implib_driver.specs.declared.dll.DllRefusal.TheVariants.{UnknownMachine, OtherMachine}
use Rattle.implib_driver.specs.declared.dll.DllRefusal.TheVariants.{OlderSymbols, Delayed}
use Rattle.implib_driver.specs.declared.dll.DllRefusal.TheVariants.{Undecorated, NameNotUtf8}
use Rattle.implib_driver.specs.declared.dll.DllRefusal.TheVariants.{Unsaid, NoName, Members}
use Rattle.implib_driver.specs.declared.dll.DllRefusal.TheVariants.{OutOfMemory}
use Rattle.implib_driver.specs.declared.dll.DllCallError.{DllCallError}
use Rattle.implib_driver.specs.declared.dll.DllCallError.TheVariants.{Call, Dll}
use Rattle.implib_driver.specs.Request.{Asked, CallFaultView, RequestView, call_fault_view}
use Rattle.implib_libraries.specs.OfDll.Members as library
use Rattle.implib_libraries.specs.FromDll.Unsaid.{IsUnsaid}
use Rattle.implib_libraries.specs.declared.of_dll.members.Unmade.TheVariants as unmade

-- whether bytes begin as an image does ("MS-DOS Stub": IMAGE_DOS_SIGNATURE)
abbrev pub begins_dll : List ℕ → Bool
begins_dll bytes = starts_with nat_eq bytes (codes "MZ")

-- bytes are an image with this export directory
abbrev pub ReadsDll : List ℕ → Exports → Type 0
ReadsDll bytes e = exports_in File bytes ≡ Ok (Some e)

-- the members of the library of these exports of a DLL
abbrev pub MembersOfDll : Exports → List ExportView → RequestView → List MemberView → Type 0
MembersOfDll e exports request members =
    library.MembersOfList exports e request.definition request.library members

-- why bytes have no export directory
abbrev pub IsRefusalOfReading : List ℕ → DllRefusal → Type 0
IsRefusalOfReading bytes (Read fault) = exports_in File bytes ≡ Err fault
IsRefusalOfReading bytes NoExports = exports_in File bytes ≡ Ok None
IsRefusalOfReading bytes OutOfMemory = Unit {0}
IsRefusalOfReading bytes _ = ⊥

-- whether a machine has symbols that count bytes of arguments, where a file of them is given: I386
abbrev pub can_decorate : MachineType → Option (List ℕ) → Bool
can_decorate machine None = true
can_decorate machine (Some path) = has_leading_underscore machine

-- neither older symbols nor a library of delayed imports are asked for, and symbols that count on
-- I386 alone
pub record SuitsDll (request : RequestView) : Type 0 where
  pub ordinary : request.older_symbols ≡ false
  pub undelayed : request.delayed ≡ None
  pub decorable : can_decorate request.library.machine request.decorations ≡ true

-- why what is asked for is not for a DLL
abbrev pub IsUnsuited : RequestView → DllRefusal → Type 0
IsUnsuited request OlderSymbols = request.older_symbols ≡ true
IsUnsuited request Delayed = is_some request.delayed ≡ true
IsUnsuited request Undecorated = can_decorate request.library.machine request.decorations ≡ false
IsUnsuited request _ = ⊥

-- why a DLL has no exports as a definition has them, for a request
abbrev pub IsUnlisted : Exports → RequestView → DllRefusal → Type 0
IsUnlisted e request OlderSymbols = IsUnsuited request OlderSymbols
IsUnlisted e request Delayed = IsUnsuited request Delayed
IsUnlisted e request Undecorated = IsUnsuited request Undecorated
IsUnlisted e request (Unsaid why) = IsUnsaid e why
IsUnlisted e request OutOfMemory = Unit {0}
IsUnlisted e request _ = ⊥

-- why these exports of a DLL have no members
abbrev pub IsUnmade : Exports → List ExportView → RequestView → DllRefusal → Type 0
IsUnmade e exports request NameNotUtf8 =
    library.IsListUnmade exports e request.definition request.library unmade.NameNotUtf8
IsUnmade e exports request NoName =
    library.IsListUnmade exports e request.definition request.library unmade.NoName
IsUnmade e exports request (Members fault) =
    library.IsListUnmade exports e request.definition request.library (unmade.Members fault)
IsUnmade e exports request OutOfMemory = Unit {0}
IsUnmade e exports request _ = ⊥

-- the exit status for a refusal: 1, and 3 for want of memory
abbrev pub dll_status : DllRefusal → ℕ
dll_status OutOfMemory = 3
dll_status _ = 1

-- The request for a DLL: its machine is that of the file, whatever the program's name says, and the
-- flavour goes by it where none is named.
pub record IsRequested (machines : MachineType → Asked RequestView) (e : Exports)
    (request : RequestView) : Type 0 where
  pub machine : MachineType
  pub numbered : machine_numbered e.machine ≡ Some machine
  pub asked : machines machine ≡ Ok request
  -- the options name no other machine, and not ARM64EC
  pub same : request.library.machine ≡ machine
  pub ordinary : request.arm64ec ≡ None

-- the options name another machine
pub record NamesAnother (machines : MachineType → Asked RequestView) (e : Exports) : Type 0 where
  pub machine : MachineType
  pub numbered : machine_numbered e.machine ≡ Some machine
  pub request : RequestView
  pub asked : machines machine ≡ Ok request
  pub other : request.library.machine ≢ machine

-- the options name ARM64EC
pub record NamesArm64ec (machines : MachineType → Asked RequestView) (e : Exports) : Type 0 where
  pub machine : MachineType
  pub numbered : machine_numbered e.machine ≡ Some machine
  pub request : RequestView
  pub asked : machines machine ≡ Ok request
  pub is : is_some request.arm64ec ≡ true

-- why there is no such request: the number is of no machine, or the options name another, or
-- ARM64EC
abbrev pub IsUnrequested : (MachineType → Asked RequestView) → Exports → DllRefusal → Type 0
IsUnrequested machines e (UnknownMachine number) =
    (number ≡ e.machine) × (machine_numbered e.machine ≡ None)
IsUnrequested machines e OtherMachine = NamesAnother machines e
IsUnrequested machines e Arm64ec = NamesArm64ec machines e
IsUnrequested machines e OutOfMemory = Unit {0}
IsUnrequested machines e _ = ⊥

-- why a call asks for none: the options do not fit the machine of the DLL, or there is no such
-- request
pub record MisfitsMachine (machines : MachineType → Asked RequestView) (e : Exports)
    (fault : CallFaultView) : Type 0 where
  pub machine : MachineType
  pub numbered : machine_numbered e.machine ≡ Some machine
  pub asked : machines machine ≡ Err fault

abbrev pub IsRefusalOfRequest : (MachineType → Asked RequestView) → Exports → DllCallError → Type 0
IsRefusalOfRequest machines e (Call fault) = MisfitsMachine machines e (call_fault_view fault)
IsRefusalOfRequest machines e (Dll refusal) = IsUnrequested machines e refusal
