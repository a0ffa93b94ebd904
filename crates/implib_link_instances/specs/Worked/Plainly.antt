-- What GNU ld takes of libraries with an alias, and what stays undefined, by hand. Objects name
-- `bar` plainly, which is weak for `baz` of foo.dll. An object of gcc 12 (`void start(void) {
-- quit(); }`) names `quit`, which a library of kernel32.dll for Microsoft's linker has as weak for
-- `ExitProcess`.
use Rattle.std.specs.Prelude.{List, [], codes, ℕ, ◌++◌, ◌∷◌, ◌≡◌}
use Rattle.implib.specs.declared.machine.MachineType.{MachineType}
use Rattle.implib.specs.LibraryName.{own_names}
use Rattle.implib.specs.Members.MemberSpec.{MemberView, member_of}
use Rattle.implib.specs.Members.MsvcMembers.{descriptor_spec, null_descriptor_spec, null_thunk_spec}
use Rattle.implib.specs.Members.MsvcMembers.{short_import_spec}
use Rattle.implib.specs.Worked.Statements.{plain_export}
use Rattle.implib.specs.declared.flavor.Flavor.TheVariants.{Msvc}
use Rattle.implib.specs.declared.machine.MachineType.TheVariants.{AMD64}
use Rattle.implib.specs.Definition.{empty_export}
use Rattle.implib.specs.Formats.Object.{Object}
use Rattle.implib.specs.Members.WeakExternal.{weak_spec}
use Rattle.implib.specs.Worked.Members.{of_dll}
use Rattle.implib_link.specs.Flavors.Expansion.{expanded_in}
use Rattle.implib_link.specs.Search.Libraries.{FlavorLibrary, archive_of_both}
use Rattle.implib_link.specs.Search.Search.{unresolved, objects_as, AreOnlyWeak, HaveNoWeak}
use Rattle.implib_link.specs.Search.Search.{TakesPlainly, left_plainly}
use Rattle.implib_link_instances.specs.Worked.BothFlavors.{foo_and_zed, mixed_taken, choosing}
use Rattle.implib_link_instances.specs.Worked.CommandLines.{read_or_none, wants_bytes}
use Rattle.implib_link_instances.specs.Worked.Search.{msvc_library}

-- members for Microsoft's linker
abbrev pub descriptor_on : MachineType → List ℕ → MemberView
descriptor_on machine dll = member_of (descriptor_spec machine (own_names dll))

abbrev pub null_on : MachineType → List ℕ → MemberView
null_on machine dll = member_of (null_descriptor_spec machine dll)

abbrev pub thunk_on : MachineType → List ℕ → MemberView
thunk_on machine dll = member_of (null_thunk_spec machine dll)

abbrev pub short_on : MachineType → List ℕ → List ℕ → MemberView
short_on machine dll name =
    member_of (short_import_spec machine (own_names dll) (plain_export name))

-- Of libraries and objects on one machine:
-- `none`: the objects have no weak externals;
-- `takes`: GNU ld takes what a linker takes that resolves by weak externals;
-- `weak`, `plain`: to the one these names stay unresolved, to the other these.
pub record PlainlyTaken (machine : MachineType) (libraries : List FlavorLibrary)
    (own : List Object) (taken : List MemberView) (with_weak with_none : List (List ℕ)) : Type 0
  where
    pub none : HaveNoWeak own
    pub takes : TakesPlainly (expanded_in machine) (archive_of_both libraries) own taken
    pub weak : unresolved (own ++ objects_as (expanded_in machine) taken) ≡ with_weak
    pub plain : left_plainly (expanded_in machine) own taken ≡ with_none

-- the library of kernel32.dll, and what is taken of it, the last one first: the weak external of
-- `quit`, the short import of `ExitProcess`, and those that every short import wants
abbrev pub kernel : List ℕ
kernel = codes "kernel32.dll"

abbrev pub kernel_library : FlavorLibrary
kernel_library = record {
  flavor = Msvc;
  library = msvc_library (of_dll kernel
      (record empty_export { name = codes "quit"; alias_target = codes "ExitProcess" }
      ∷ plain_export (codes "ExitProcess")
      ∷ []));
}

abbrev pub kernel_taken : List MemberView
kernel_taken =
    null_on AMD64 kernel ∷ thunk_on AMD64 kernel ∷ descriptor_on AMD64 kernel
    ∷ short_on AMD64 kernel (codes "ExitProcess")
    ∷ member_of (weak_spec AMD64 kernel (codes "quit") (codes "ExitProcess"))
    ∷ []

pub record WorkedPlainly : Type 0 where
  pub amd64 : PlainlyTaken AMD64 foo_and_zed (choosing ∷ []) mixed_taken (codes "printf" ∷ [])
      (codes "bar" ∷ codes "printf" ∷ [])
  -- of gcc's object
  pub by_gcc : PlainlyTaken AMD64 (kernel_library ∷ []) (read_or_none wants_bytes) kernel_taken []
      (codes "quit" ∷ [])
  pub only : AreOnlyWeak (read_or_none wants_bytes ++ objects_as (expanded_in AMD64) kernel_taken)
      (codes "quit")
