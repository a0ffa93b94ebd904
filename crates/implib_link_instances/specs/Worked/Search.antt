-- Searches of the members for Microsoft's linker that were done by hand, also of two libraries.
use Rattle.std.specs.Prelude.{List, [], codes, map, ℕ, ◌∷◌, None, Option, Some, bytes_eq}
use Rattle.std.specs.Prelude.{if◌then◌else◌, true, ◌==◌, ◌≡◌}
use Rattle.implib.specs.declared.flavor.Flavor.TheVariants.{Msvc, Gnu}
use Rattle.implib.specs.declared.machine.MachineType.TheVariants.{AMD64}
use Rattle.implib.specs.Definition.{DefinitionView, empty_export}
use Rattle.implib.specs.Members.Members.{member_specs}
use Rattle.implib.specs.Members.MemberSpec.{MemberView, member_of}
use Rattle.implib.specs.Members.MsvcMembers.{descriptor_spec, null_descriptor_spec, null_thunk_spec}
use Rattle.implib.specs.Members.MsvcMembers.{short_import_spec}
use Rattle.implib.specs.Renaming.{renamed}
use Rattle.implib.specs.Worked.Members.{of_dll}
use Rattle.implib.specs.Worked.Statements.{plain_export}
use Rattle.implib.specs.LibraryName.{own_names, names_for}
use Rattle.implib_link.specs.Search.Search.{Library, IsArchive, TakesIntoAs, SweepsTake}
use Rattle.std.specs.List.{IsDistinct, flat_map}
use Rattle.implib.specs.Formats.Constants.{class_external}
use Rattle.implib.specs.Formats.Object.{Object}
use Rattle.implib_link.specs.Flavors.Program.{IsFoundByName}
use Rattle.implib_link_instances.specs.Worked.Programs.{code_object, symbol_of_class}
use Rattle.implib.specs.Worked.LibraryNames.{of_library}
use Rattle.implib_link.specs.Search.NamedApart.{AreNamedApart, names_in, stem}

abbrev pub msvc_library : DefinitionView → Library
msvc_library d =
    record { definition = d; members = map member_of (member_specs (renamed d) AMD64 Msvc) }

abbrev pub msvc_zed : Library
msvc_zed =
    msvc_library
    (of_dll (codes "zed.dll") (plain_export (codes "queue") ∷ plain_export (codes "stack") ∷ []))

abbrev pub descriptor_named : List ℕ → MemberView
descriptor_named dll = member_of (descriptor_spec AMD64 (own_names dll))

abbrev pub null_named : List ℕ → MemberView
null_named dll = member_of (null_descriptor_spec AMD64 dll)

abbrev pub thunk_named : List ℕ → MemberView
thunk_named dll = member_of (null_thunk_spec AMD64 dll)

abbrev pub short_named : List ℕ → List ℕ → MemberView
short_named dll name = member_of (short_import_spec AMD64 (own_names dll) (plain_export name))

-- the members of both, and foo.dll's null descriptor between them
abbrev pub zed_members : List MemberView
zed_members =
    descriptor_named (codes "zed.dll")
    ∷ short_named (codes "zed.dll") (codes "queue")
    ∷ thunk_named (codes "zed.dll")
    ∷ []

-- Searches of the members for GNU's linker that were done by hand: of one library, of two, by
-- sweeps; and what is taken by names.

-- the members of a definition on AMD64
abbrev pub members_of : DefinitionView → List MemberView
members_of d = map member_of (member_specs (renamed d) AMD64 Gnu)

-- foo.dll with a variable that has a function for its alias
abbrev pub aliased : DefinitionView
aliased = of_dll (codes "foo.dll")
    (record empty_export { name = codes "bar"; alias_target = codes "baz"; is_data = true }
    ∷ plain_export (codes "baz")
    ∷ [])

abbrev pub library_of : DefinitionView → Library
library_of d = record { definition = d; members = members_of d }

-- foo.dll with data `bar`, an alias of the function `baz`; zed.dll with the function `queue`
abbrev pub two_libraries : List Library
two_libraries =
    library_of aliased
    ∷ library_of
    (of_dll (codes "zed.dll") (plain_export (codes "queue") ∷ plain_export (codes "stack") ∷ []))
    ∷ []

-- an object that defines `x`, and one that defines `f` and leaves `x` to others
abbrev pub of_x : Object
of_x = code_object (symbol_of_class (codes "x") 1 class_external ∷ [])

abbrev pub of_f : Object
of_f = code_object (symbol_of_class (codes "f") 1 class_external
    ∷ symbol_of_class (codes "x") 0 class_external ∷ [])

-- members by their first byte: 2 is the object of `f`, any other that of `x`
abbrev pub reads_by_hand : List ℕ → Option Object
reads_by_hand [] = None
reads_by_hand (byte ∷ bytes) = if byte == 2 then Some of_f else Some of_x

abbrev pub first_x : MemberView
first_x = record { name = codes "a.o"; bytes = 1 ∷ []; symbols = codes "x" ∷ [] }

abbrev pub wants_x : MemberView
wants_x = record { name = codes "b.o"; bytes = 2 ∷ []; symbols = codes "f" ∷ [] }

abbrev pub second_x : MemberView
second_x = record { name = codes "c.o"; bytes = 3 ∷ 0 ∷ []; symbols = codes "x" ∷ [] }

-- the given object, which leaves `f` to others
abbrev pub given_f : List Object
given_f = code_object (symbol_of_class (codes "main") 1 class_external
    ∷ symbol_of_class (codes "f") 0 class_external ∷ []) ∷ []

-- `x` in front of `f` takes a second sweep, and behind it none; where `x` is listed in front and
-- behind, a sweep takes the one behind, and a search that goes by the first member takes the one in
-- front.
pub record WorkedSweeps : Type 0 where
  pub distinct : IsDistinct bytes_eq (flat_map (λ m. m.symbols) (first_x ∷ wants_x ∷ []))
  pub twice : SweepsTake reads_by_hand (first_x ∷ wants_x ∷ []) given_f 2 (0 ∷ 1 ∷ [])
  pub once : SweepsTake reads_by_hand (wants_x ∷ second_x ∷ []) given_f 1 (1 ∷ 0 ∷ [])
  pub just : TakesIntoAs reads_by_hand (first_x ∷ wants_x ∷ []) given_f (first_x ∷ wants_x ∷ [])

-- what is found, and what is not: without a name of its own, and by another name
pub record WorkedFound : Type 0 where
  pub plain : IsFoundByName Msvc (names_for Msvc (of_dll (codes "foo.dll") []))
  pub drv : IsFoundByName Msvc (names_for Msvc (of_library (codes "foo") (codes "foo.drv") []))
  pub capitals : IsFoundByName Msvc
      (names_for Msvc (of_library (codes "KERNEL32") (codes "KERNEL32.DLL") []))
  pub no_ending : IsFoundByName Msvc (names_for Msvc (of_library (codes "zoo") (codes "zoo") []))
  pub drv_nameless : IsFoundByName Msvc (names_for Msvc (of_dll (codes "foo.drv") [])) → ⊥
  pub with_ending : IsFoundByName Msvc
      (names_for Msvc (of_library (codes "foo.drv") (codes "foo.drv") [])) → ⊥

-- The two libraries with an alias are named apart, and so are an archive.
pub record WorkedNamedApart : Type 0 where
  pub stems : map stem two_libraries ≡ codes "foo_dll" ∷ codes "zed_dll" ∷ []
  pub names : names_in two_libraries
      ≡ codes "bar" ∷ codes "baz" ∷ codes "queue" ∷ codes "stack" ∷ []
  pub apart : AreNamedApart AMD64 two_libraries
  pub archive : IsArchive AMD64 two_libraries
