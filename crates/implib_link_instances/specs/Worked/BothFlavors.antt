-- The objects of a closed program by hand, of two libraries, one of which has an alias.
use Rattle.std.specs.Prelude.{List, [], ◌∷◌, ◌++◌, codes, Some, length, map, ◌≡◌, ◌≤◌}
use Rattle.implib.specs.declared.machine.MachineType.TheVariants.{AMD64}
use Rattle.implib.specs.Formats.Constants.{class_external}
use Rattle.implib.specs.Formats.Object.{Object}
use Rattle.implib.specs.Link.LinkedMembers.{objects_in}
use Rattle.implib.specs.Link.Placement.{Bases, placed_from}
use Rattle.implib.specs.Members.Gnu.{weak_name}
use Rattle.implib.specs.Members.GnuMembers.{export_spec, head_spec, tail_spec}
use Rattle.implib.specs.Members.MemberSpec.{MemberView, member_of}
use Rattle.implib.specs.Members.WeakExternal.{weak_spec}
use Rattle.implib.specs.Worked.Statements.{plain_export}
use Rattle.implib_link.specs.Flavors.Program.{packed, packed_end, null_descriptor, FlavorInput}
use Rattle.implib_link.specs.Flavors.Program.{OfMember, objects_taken, OfLinker}
use Rattle.implib_link_instances.specs.Worked.Programs.{code_object, symbol_of_class}
use Rattle.implib.specs.LibraryName.{own_names}
use Rattle.implib.specs.declared.flavor.Flavor.TheVariants.{Gnu, Msvc}
use Rattle.implib.specs.Link.Resolution.{definitions_of}
use Rattle.implib_link.specs.Search.Libraries.{AreClosed, AreGiven, FlavorLibrary, IsClosed}
use Rattle.implib_link.specs.Search.Libraries.{IsFlavorArchive, LinksClosed, TakesOfLibraries}
use Rattle.implib_link.specs.Search.Libraries.{archive_of_both, inputs_in, symbols_kept}
use Rattle.implib_link.specs.Search.Libraries.{TakesIntoFor, wanted_for}
use Rattle.implib_link.specs.Search.Search.{unresolved}
use Rattle.implib_link_instances.specs.Worked.Search.{aliased, library_of, descriptor_named}
use Rattle.implib_link_instances.specs.Worked.Search.{msvc_zed, null_named, short_named}
use Rattle.implib_link_instances.specs.Worked.Search.{thunk_named, zed_members, msvc_library}
use Rattle.implib.specs.Link.Image.{image_of}
use Rattle.implib.specs.Worked.Members.{of_dll}

-- an object that names data of foo.dll by its alias, a function of zed.dll by its pointer, and one
-- of another library; and that has a function of its own, `stack`, which zed.dll exports, too
abbrev pub choosing : Object
choosing = code_object (
    symbol_of_class (codes "main") 1 class_external
    ∷ symbol_of_class (codes "stack") 1 class_external
    ∷ symbol_of_class (codes "bar") 0 class_external
    ∷ symbol_of_class (codes "__imp_queue") 0 class_external
    ∷ symbol_of_class (codes "printf") 0 class_external
    ∷ [])

-- the members that are taken: of foo.dll the alias, and of both the head, an export's member and
-- the tail
abbrev pub foo_alias : MemberView
foo_alias = member_of (weak_spec AMD64 (weak_name (codes "foo.dll") 0) (codes "bar") (codes "baz"))

abbrev pub foo_linked : List MemberView
foo_linked =
    member_of (head_spec AMD64 (codes "foo.dll"))
    ∷ member_of (export_spec AMD64 (codes "foo.dll") 1 (plain_export (codes "baz")))
    ∷ member_of (tail_spec AMD64 (own_names (codes "foo.dll")))
    ∷ []

abbrev pub zed_linked : List MemberView
zed_linked =
    member_of (head_spec AMD64 (codes "zed.dll"))
    ∷ member_of (export_spec AMD64 (codes "zed.dll") 0 (plain_export (codes "queue")))
    ∷ member_of (tail_spec AMD64 (own_names (codes "zed.dll")))
    ∷ []

-- as a linker takes them, the last one first
abbrev pub closed_taken : List MemberView
closed_taken =
    member_of (tail_spec AMD64 (own_names (codes "zed.dll")))
    ∷ member_of (head_spec AMD64 (codes "zed.dll"))
    ∷ member_of (export_spec AMD64 (codes "zed.dll") 0 (plain_export (codes "queue")))
    ∷ member_of (tail_spec AMD64 (own_names (codes "foo.dll")))
    ∷ member_of (head_spec AMD64 (codes "foo.dll"))
    ∷ member_of (export_spec AMD64 (codes "foo.dll") 1 (plain_export (codes "baz")))
    ∷ foo_alias
    ∷ []

-- what is linked: the alias, zed.dll's members, the object, foo.dll's members, the null descriptor
abbrev pub closed_objects : List Object
closed_objects =
    objects_in (foo_alias ∷ zed_linked) ++ choosing
    ∷ (objects_in foo_linked ++ null_descriptor ∷ [])

abbrev pub closed_bases : Bases
closed_bases = packed 0x2000 closed_objects

-- A closed program by hand of an archive of both flavours: of foo.dll's members for GNU's linker,
-- some of them of an alias, and of zed.dll's for Microsoft's.

-- foo.dll with data `bar`, an alias of the function `baz`, and zed.dll with two functions
abbrev pub gnu_foo : FlavorLibrary
gnu_foo = record { flavor = Gnu; library = library_of aliased }

abbrev pub short_zed : FlavorLibrary
short_zed = record { flavor = Msvc; library = msvc_zed }

abbrev pub foo_and_zed : List FlavorLibrary
foo_and_zed = gnu_foo ∷ short_zed ∷ []

-- as they are linked, zed.dll first
abbrev pub zed_and_foo : List FlavorLibrary
zed_and_foo = short_zed ∷ gnu_foo ∷ []

-- what is taken for the object of Worked/Closed, the last one first
abbrev pub foo_members_taken : List MemberView
foo_members_taken =
    member_of (tail_spec AMD64 (own_names (codes "foo.dll")))
    ∷ member_of (head_spec AMD64 (codes "foo.dll"))
    ∷ member_of (export_spec AMD64 (codes "foo.dll") 1 (plain_export (codes "baz")))
    ∷ foo_alias
    ∷ []

abbrev pub mixed_taken : List MemberView
mixed_taken =
    thunk_named (codes "zed.dll")
    ∷ null_named (codes "zed.dll")
    ∷ descriptor_named (codes "zed.dll")
    ∷ short_named (codes "zed.dll") (codes "queue")
    ∷ foo_members_taken

-- what is linked: the object, the alias, zed.dll's members, its null descriptor, foo.dll's members
abbrev pub mixed_objects : List Object
mixed_objects =
    choosing
    ∷ (objects_taken AMD64 (foo_alias ∷ [])
    ++ objects_taken AMD64 (zed_members ++ null_named (codes "zed.dll") ∷ foo_linked))

abbrev pub mixed_bases : Bases
mixed_bases = packed 0x2000 mixed_objects

abbrev pub mixed_inputs : List FlavorInput
mixed_inputs = inputs_in AMD64 zed_and_foo (choosing ∷ []) mixed_taken

-- For the object a linker takes eight members of both flavours, and with them it is a closed
-- program, in which `printf` alone is left. The pointer to `queue` is zed.dll's first entry, and
-- that to `baz` foo.dll's.
pub record WorkedBoth : Type 0 where
  pub archive : IsFlavorArchive AMD64 foo_and_zed
  pub takes : TakesIntoFor AMD64 (archive_of_both foo_and_zed) (choosing ∷ []) mixed_taken
  pub wanted : wanted_for AMD64 (choosing ∷ []) mixed_taken
      ≡ codes "bar" ∷ codes "__imp_queue" ∷ codes "printf" ∷ codes "baz" ∷ []
  pub just : TakesOfLibraries AMD64 foo_and_zed (unresolved (choosing ∷ [])) mixed_taken
  pub chosen : map (λ p. p.input.chosen) mixed_inputs ≡ (0 ∷ []) ∷ (1 ∷ []) ∷ []
  pub closed : IsClosed AMD64 OfMember foo_and_zed (choosing ∷ []) mixed_taken zed_and_foo
      mixed_bases mixed_objects
  pub links : LinksClosed AMD64 OfMember foo_and_zed (choosing ∷ []) mixed_taken zed_and_foo
      mixed_bases mixed_objects
  pub left : unresolved mixed_objects ≡ codes "printf" ∷ []
  pub queue : definitions_of (codes "__imp_queue") (placed_from mixed_bases mixed_objects)
      ≡ record { name = codes "__imp_queue"; address = Some 0x2060 } ∷ []
  pub baz : definitions_of (codes "__imp_baz") (placed_from mixed_bases mixed_objects)
      ≡ record { name = codes "__imp_baz"; address = Some 0x2070 } ∷ []

-- The object may be given. What members alone may claim are these names. A search for it ends, and
-- takes no more members than there are.
pub record WorkedGiven : Type 0 where
  pub given : AreGiven AMD64 foo_and_zed (choosing ∷ [])
  pub kept : symbols_kept AMD64 foo_and_zed (choosing ∷ [])
      ≡ codes "_head_foo_dll" ∷ codes "foo_dll_iname"
      ∷ codes "__NULL_IMPORT_DESCRIPTOR" ∷ codes "__IMPORT_DESCRIPTOR_zed"
      ∷ (0x7F ∷ codes "zed_NULL_THUNK_DATA")
      ∷ codes "baz" ∷ codes "baz" ∷ codes "__imp_baz" ∷ codes "__imp_queue" ∷ codes "queue" ∷ []
  pub ends : (taken : List MemberView)
      × TakesIntoFor AMD64 (archive_of_both foo_and_zed) (choosing ∷ []) taken
  pub bounded : length mixed_taken ≤ length (archive_of_both foo_and_zed)

-- A closed program by hand of libraries of which one is for Microsoft's linker and nothing of it is
-- wanted, so that the linker's null descriptor ends it.

-- foo.dll and zed.dll for GNU's linker, and between them far.dll for Microsoft's
abbrev pub short_far : FlavorLibrary
short_far = record {
  flavor = Msvc;
  library = msvc_library (of_dll (codes "far.dll") (plain_export (codes "pop") ∷ []));
}

abbrev pub gnu_zed : FlavorLibrary
gnu_zed = record {
  flavor = Gnu;
  library = library_of
      (of_dll (codes "zed.dll") (plain_export (codes "queue") ∷ plain_export (codes "stack") ∷ []));
}

abbrev pub with_far : List FlavorLibrary
with_far = gnu_foo ∷ short_far ∷ gnu_zed ∷ []

-- as they are linked, zed.dll first
abbrev pub zed_first : List FlavorLibrary
zed_first = gnu_zed ∷ short_far ∷ gnu_foo ∷ []

-- For the object a linker takes seven members, none of far.dll, and with them it is a closed program,
-- in which `printf` alone is left. The pointer to `queue` is zed.dll's first entry, and that to
-- `baz` foo.dll's. The object may be given.
pub record WorkedByLinker : Type 0 where
  pub archive : IsFlavorArchive AMD64 with_far
  pub takes : TakesIntoFor AMD64 (archive_of_both with_far) (choosing ∷ []) closed_taken
  pub chosen :
      map (λ p. p.input.chosen) (inputs_in AMD64 zed_first (choosing ∷ []) closed_taken)
      ≡ (0 ∷ []) ∷ (1 ∷ []) ∷ []
  pub closed : IsClosed AMD64 OfLinker with_far (choosing ∷ []) closed_taken zed_first
      closed_bases closed_objects
  pub links : LinksClosed AMD64 OfLinker with_far (choosing ∷ []) closed_taken zed_first
      closed_bases closed_objects
  pub left : unresolved closed_objects ≡ codes "printf" ∷ []
  pub queue : definitions_of (codes "__imp_queue") (placed_from closed_bases closed_objects)
      ≡ record { name = codes "__imp_queue"; address = Some 0x2060 } ∷ []
  pub baz : definitions_of (codes "__imp_baz") (placed_from closed_bases closed_objects)
      ≡ record { name = codes "__imp_baz"; address = Some 0x2070 } ∷ []
  pub given : AreGiven AMD64 with_far (choosing ∷ [])
