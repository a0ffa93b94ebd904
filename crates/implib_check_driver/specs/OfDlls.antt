-- The library of a DLL, of which `--def` writes a definition (this project's choice): the one that
-- implib_dlltool makes of the DLL. What is no DLL with exports has its status here, too.
use Rattle.std.specs.Prelude.{◌≡◌, ◌⊎◌, ℕ, false, true, List, Ok, None, Some}
use Rattle.std.specs.Prelude.{IfSome, codes, unwrap_or}
use Rattle.implib.specs.Conversions.{machine_numbered}
use Rattle.implib.specs.Members.MemberSpec.{MemberView}
use Rattle.implib.specs.declared.flavor.Flavor.{Flavor}
use Rattle.implib.specs.declared.flavor.Flavor.TheVariants.{Msvc}
use Rattle.implib.specs.declared.machine.MachineType.{MachineType}
use Rattle.implib_archive.specs.Archive.{archive_of}
use Rattle.implib_archive.specs.Refusal.{refusal_of}
use Rattle.implib_archive.specs.declared.error.Fault.{Fault}
use Rattle.implib_dll.specs.Exports.{Exports, exports_in}
use Rattle.implib_dll.specs.declared.section.Layout.TheVariants.{File}
use Rattle.implib_libraries.specs.OfDll.Members.{IsUnmade, MembersOfDll}
use Rattle.implib_libraries.specs.declared.of_dll.members.Unmade.{Unmade}
use Rattle.implib_libraries.specs.declared.of_dll.members.Unmade.TheVariants as unmade
use Rattle.implib_rules.specs.Additions.{no_additions}
use Rattle.implib_rules.specs.Library.{kind_of}
use Rattle.implib_rules.specs.Options.{LibraryOptionsView}
use Rattle.implib_check_driver.specs.Answer.{AnswerView, IsSaid, saying}
use Rattle.implib_check_driver.specs.Calls.{DefineView}
use Rattle.implib_check_driver.specs.Exported.{IsNoDll}

-- what the library is made for: Microsoft's linker, where a call names no flavour
abbrev pub options_for_dll : DefineView → MachineType → LibraryOptionsView
options_for_dll define machine = record {
  machine = machine;
  flavor = unwrap_or define.flavor Msvc;
  dll = None;
  naming = record {
    is_plain = define.is_plain;
    kills_at = false;
    exports_as = false;
    keeps_decorated = false;
  };
  additions = no_additions;
}

-- that the library is for this machine: the DLL's own, for which a call may name no other
abbrev pub IsMachineFor : DefineView → Exports → MachineType → Type 0
IsMachineFor define e machine =
    (machine_numbered e.machine ≡ Some machine) × IfSome define.machine (λ named. named ≡ machine)

-- The library of exports.
pub record IsLibraryOfExports (define : DefineView) (exports : Exports)
    (library : List ℕ) : Type 0 where
  pub machine : MachineType
  pub members : List MemberView
  pub suits : IsMachineFor define exports machine
  pub made : MembersOfDll exports define.library (options_for_dll define machine) members
  pub accepted : refusal_of (kind_of (options_for_dll define machine).flavor members) members ≡ None
  pub is : library ≡ archive_of (kind_of (options_for_dll define machine).flavor members) members

-- The library of a DLL. None has older symbols.
pub record IsLibraryOfDll (define : DefineView) (dll library : List ℕ) : Type 0 where
  pub exports : Exports
  pub plain : define.older_symbols ≡ false
  pub read : exports_in File dll ≡ Ok (Some exports)
  pub is : IsLibraryOfExports define exports library

-- why a DLL has no members, but for want of memory
abbrev pub IsCauseOf : DefineView → Exports → MachineType → Unmade → Type 0
IsCauseOf define e machine unmade.OutOfMemory = ⊥
IsCauseOf define e machine why = IsUnmade e define.library (options_for_dll define machine) why

-- The exports of a DLL that have no members for a machine.
pub record HaveNoMembers (define : DefineView) (e : Exports) (machine : MachineType) : Type 0 where
  pub why : Unmade
  pub is_cause : IsCauseOf define e machine why

-- Members that no archive for a linker can carry.
pub record IsUnkept (flavor : Flavor) (members : List MemberView) : Type 0 where
  pub fault : Fault
  pub is_refusal : refusal_of (kind_of flavor members) members ≡ Some fault

-- The exports of a DLL whose members no archive can carry.
pub record HaveNoArchive (define : DefineView) (e : Exports) (machine : MachineType) : Type 0 where
  pub members : List MemberView
  pub made : MembersOfDll e define.library (options_for_dll define machine) members
  pub unkept : IsUnkept (options_for_dll define machine).flavor members

-- Exports that are not made a library for their machine.
pub record AreUnmade (define : DefineView) (e : Exports) : Type 0 where
  pub machine : MachineType
  pub suits : IsMachineFor define e machine
  pub unmade : HaveNoMembers define e machine ⊎ HaveNoArchive define e machine

-- exports without a library: there is no machine for which it could be, or it is not made
abbrev pub HaveNoLibrary : DefineView → Exports → Type 0
HaveNoLibrary define e =
    ((machine : MachineType) → ¬ (IsMachineFor define e machine)) ⊎ AreUnmade define e

-- A DLL whose exports have none.
pub record IsDllUnmade (define : DefineView) (dll : List ℕ) : Type 0 where
  pub exports : Exports
  pub read : exports_in File dll ≡ Ok (Some exports)
  pub unmade : HaveNoLibrary define exports

-- what is said where older symbols are asked for
abbrev pub older_text : List ℕ
older_text = codes "a DLL, whose library has no older symbols (-C)"

-- the answer for a DLL without a library: 2 where older symbols are asked for, that of what is no
-- DLL, and else 1
abbrev pub HasNoLibrary : DefineView → List ℕ → AnswerView → Type 0
HasNoLibrary define dll a =
    (define.older_symbols ≡ true → a ≡ saying 2 define.library older_text)
    × (define.older_symbols ≡ false → IsNoDll define.library (exports_in File dll) a
    ⊎ (IsSaid 1 define.library a × IsDllUnmade define dll))
