-- The whole way by hand for libraries of both flavours, on AMD64: foo.dll, which exports `bar`, for
-- GNU's linker, and zed.dll, which exports `queue`, for Microsoft's; and a program of two objects,
-- each of which calls one of them through its entry. The archive's bytes are of the COFF kind, and
-- a linker looks names up in the second linker member.
use Rattle.std.specs.Prelude.{List, Some, [], codes, map, ℕ, ◌++◌, ◌+◌, ◌∷◌, ◌≡◌, Bool, true}
use Rattle.std.specs.Prelude.{slice_get}
use Rattle.implib.specs.declared.machine.MachineType.TheVariants.{AMD64}
use Rattle.implib.specs.Formats.Constants.{align_16bytes, class_external, cnt_code}
use Rattle.implib.specs.Formats.Constants.{mem_execute_read, amd64_rel32}
use Rattle.implib.specs.Formats.Object.{Object, ObjectSection}
use Rattle.implib.specs.Members.Gnu.{section, text_name}
use Rattle.implib.specs.Definition.{DefinitionView}
use Rattle.implib.specs.Worked.Members.{of_dll}
use Rattle.implib.specs.Worked.Statements.{plain_export}
use Rattle.implib_link.specs.Gnu.Fields.{PlacedCode, moved_by, AreBeside, LinkedCode, placed_code}
use Rattle.implib_link.specs.Gnu.Fields.{ranges_of_codes, AllLead, HasBranch, HasInstruction}
use Rattle.implib_link.specs.Search.Search.{Library, unresolved, archive_of}
use Rattle.implib_link_instances.specs.Worked.Search.{library_of, descriptor_named, msvc_library}
use Rattle.implib_link_instances.specs.Worked.Search.{null_named, short_named, thunk_named}
use Rattle.implib_link_instances.specs.Worked.Operands.{first_bytes, given_on, last_bytes}
use Rattle.implib_link_instances.specs.Worked.Operands.{call_bytes, pointer_relocations}
use Rattle.implib.specs.declared.flavor.Flavor.TheVariants.{Gnu, Msvc}
use Rattle.implib.specs.Link.Image.{Range, image_of}
use Rattle.implib.specs.Link.Placement.{Bases, Placed, Unplaced, placed_from}
use Rattle.implib.specs.Link.Resolution.{definitions_of}
use Rattle.implib.specs.LibraryName.{own_names}
use Rattle.implib.specs.Members.GnuMembers.{export_spec, head_spec, tail_spec}
use Rattle.implib.specs.Members.MemberSpec.{MemberView, member_of}
use Rattle.implib_archive.specs.declared.kind.Kind.TheVariants.{Coff}
use Rattle.implib_link.specs.Archives.Ways.{AreLinkedFor, AreCalledAlike, IsBuiltByLld, IsWantedBy}
use Rattle.implib_link.specs.Archives.Ways.{read_by_lld, short_of_export, shorts_in}
use Rattle.implib_link.specs.Archives.InBytes.{Second, HaveArchive, IsSearchOf}
use Rattle.implib_link.specs.Flavors.Program.{OfMember, objects_taken, packed}
use Rattle.implib_link.specs.Gnu.Writing.{ReadsAndWrites}
use Rattle.implib_link.specs.Search.Libraries.{AreGiven, FlavorLibrary, IsFlavorArchive}
use Rattle.implib_link.specs.Search.Libraries.{archive_of_both, IsMsvcArchive}
use Rattle.implib_link_instances.specs.Worked.Programs.{object_with, symbol_of_class, taken_address}
use Rattle.implib_link.specs.Flavors.Expansion.{expanded_in}
use Rattle.std.specs.List.{filter}
use Rattle.implib.specs.Formats.ShortImport.{ShortImport}
use Rattle.implib_link.specs.Flavors.LldImports.{placed_by_lld, BranchArrivesByThunk, IsThunk}
use Rattle.implib_link.specs.Flavors.LldImports.{placed_thunk, thunk_section}
use Rattle.implib_link.specs.Gnu.Moves.{AreInMemory}
use Rattle.implib_link.specs.Tables.{AreSteady}

-- what it means
abbrev pub bar_definition : DefinitionView
bar_definition = of_dll (codes "foo.dll") (plain_export (codes "bar") ∷ [])

abbrev pub bar_library : Library
bar_library = library_of bar_definition

-- `sub rsp, 40`, `call [__imp_bar]`, `add rsp, 40`, `ret`
abbrev pub code : ObjectSection
code = section text_name (cnt_code + align_16bytes + mem_execute_read)
    (first_bytes AMD64 ++ (call_bytes AMD64 ++ last_bytes AMD64))
    (map (moved_by 4) (pointer_relocations 2 AMD64 1))

abbrev pub bar_for_gnu : FlavorLibrary
bar_for_gnu = record { flavor = Gnu; library = bar_library }

abbrev pub queue_for_msvc : FlavorLibrary
queue_for_msvc = record {
  flavor = Msvc;
  library = msvc_library (of_dll (codes "zed.dll") (plain_export (codes "queue") ∷ []));
}

abbrev pub both : List FlavorLibrary
both = bar_for_gnu ∷ queue_for_msvc ∷ []

-- an object of this name, whose code calls through a symbol
abbrev pub calling : List ℕ → List ℕ → Object
calling name symbol = object_with 0 (code ∷ []) (
    symbol_of_class name 1 class_external
    ∷ symbol_of_class symbol 0 class_external
    ∷ [])

abbrev pub calls_bar : Object
calls_bar = calling (codes "main") (codes "__imp_bar")

abbrev pub calls_queue : Object
calls_queue = calling (codes "other") (codes "__imp_queue")

abbrev pub own : List Object
own = calls_bar ∷ calls_queue ∷ []

-- what a linker takes, the last one first
abbrev pub bar_member : MemberView
bar_member = member_of (export_spec AMD64 (codes "foo.dll") 0 (plain_export (codes "bar")))

abbrev pub head_member : MemberView
head_member = member_of (head_spec AMD64 (codes "foo.dll"))

abbrev pub tail_member : MemberView
tail_member = member_of (tail_spec AMD64 (own_names (codes "foo.dll")))

abbrev pub taken : List MemberView
taken =
    thunk_named (codes "zed.dll")
    ∷ null_named (codes "zed.dll")
    ∷ descriptor_named (codes "zed.dll")
    ∷ short_named (codes "zed.dll") (codes "queue")
    ∷ tail_member
    ∷ head_member
    ∷ bar_member
    ∷ []

-- what is linked: the program's objects, foo.dll's members, and zed.dll's with the null descriptor
-- before the thunk
abbrev pub before_null : List MemberView
before_null =
    head_member
    ∷ bar_member
    ∷ tail_member
    ∷ descriptor_named (codes "zed.dll")
    ∷ short_named (codes "zed.dll") (codes "queue")
    ∷ []

abbrev pub objects : List Object
objects =
    calls_bar
    ∷ calls_queue
    ∷ objects_taken AMD64
    (before_null ++ (null_named (codes "zed.dll") ∷ thunk_named (codes "zed.dll") ∷ []))

abbrev pub bases : Bases
bases = packed 0x2000 objects

abbrev pub linked : List Placed
linked = placed_from bases objects

-- the code of both objects, at 0x3000 and 0x3020
abbrev pub code_at : Object → ℕ → PlacedCode
code_at o position = record {
  from = record { object = o; section_addresses = Unplaced ∷ [] };
  number = 1;
  code = code;
  position = position;
}

abbrev pub placed : List PlacedCode
placed = code_at calls_bar 0x3000 ∷ code_at calls_queue 0x3020 ∷ []

-- All premises are met. With the linked bytes of both codes, by the law, a loader stops
-- after two descriptors, and fields against `__imp_bar` lead to what foo.dll gives for `bar`,
-- 0x1000_0030, and those against `__imp_queue` to what zed.dll gives for `queue`, 0x1000_0050.
pub record WorkedBothWay : Type 0 where
  pub archive : IsFlavorArchive AMD64 both
  pub ready : HaveArchive Coff Second (archive_of_both both)
  pub given : AreGiven AMD64 both own
  pub leaves : unresolved own ≡ codes "__imp_bar" ∷ codes "__imp_queue" ∷ []
  pub takes : IsSearchOf Coff Second (archive_of_both both) (expanded_in AMD64) own taken
  pub linked_for : AreLinkedFor AMD64 OfMember both own taken both bases objects
  pub bar_entry : definitions_of (codes "__imp_bar") linked
      ≡ record { name = codes "__imp_bar"; address = Some 0x2060 } ∷ []
  pub queue_entry : definitions_of (codes "__imp_queue") linked
      ≡ record { name = codes "__imp_queue"; address = Some 0x2070 } ∷ []
  pub arrive : (linked_codes : List LinkedCode)
      × ((targets : LinkedCode → ℕ → ℕ)
      × ((map placed_code linked_codes ≡ placed)
      × (AreBeside AMD64 0x1_4000_0000 bases objects linked_codes targets
      × ((n : ℕ) (written : List Range) →
      ReadsAndWrites (image_of AMD64 bases linked) 8 (given_on AMD64) n bases.descriptors written →
      (n ≡ 2)
      × AllLead AMD64 0x1_4000_0000 linked linked_codes
      (written ++ (image_of AMD64 bases linked ++ ranges_of_codes linked_codes)) (codes "__imp_bar")
      (0x30 ∷ 0 ∷ 0 ∷ 0x10 ∷ 0 ∷ 0 ∷ 0 ∷ 0 ∷ [])
      × AllLead AMD64 0x1_4000_0000 linked linked_codes
      (written ++ (image_of AMD64 bases linked ++ ranges_of_codes linked_codes))
      (codes "__imp_queue") (0x50 ∷ 0 ∷ 0 ∷ 0x10 ∷ 0 ∷ 0 ∷ 0 ∷ 0 ∷ [])))))

-- The way for lld by hand: foo.dll, which exports `bar` and `baz`, on AMD64; and a program that
-- lld-link 14.0.6 and 19.1.7 wrote, whose code calls `bar` through its entry and by its name. The
-- library's bytes are those of the archive of its members for Microsoft's linker.

abbrev pub lld_library : Library
lld_library =
    msvc_library
    (of_dll (codes "foo.dll") (plain_export (codes "bar") ∷ plain_export (codes "baz") ∷ []))

abbrev pub lld_libraries : List Library
lld_libraries = lld_library ∷ []

-- `call [rip + __imp_bar]`, `call bar`, `ret`
abbrev pub two_calls : ObjectSection
two_calls = section text_name (cnt_code + align_16bytes + mem_execute_read)
    (0xFF ∷ 0x15 ∷ 0 ∷ 0 ∷ 0 ∷ 0 ∷ 0xE8 ∷ 0 ∷ 0 ∷ 0 ∷ 0 ∷ 0xC3 ∷ [])
    (record { offset = 2; symbol = 1; kind = amd64_rel32 }
    ∷ record { offset = 7; symbol = 2; kind = amd64_rel32 } ∷ [])

abbrev pub calling_twice : Object
calling_twice = object_with 0 (two_calls ∷ []) (
    symbol_of_class (codes "main") 1 class_external
    ∷ symbol_of_class (codes "__imp_bar") 0 class_external
    ∷ symbol_of_class (codes "bar") 0 class_external
    ∷ [])

abbrev pub lld_own : List Object
lld_own = calling_twice ∷ []

-- what lld takes: the short import alone
abbrev pub lld_taken : List MemberView
lld_taken = short_named (codes "foo.dll") (codes "bar") ∷ []

abbrev pub bar_short : ShortImport
bar_short = short_of_export AMD64 lld_library (plain_export (codes "bar"))

-- whether a short import is live: here each is
abbrev pub is_live : ShortImport → Bool
is_live r = true

abbrev pub live_shorts : List ShortImport
live_shorts = filter is_live (shorts_in AMD64 lld_taken)

-- the section `.rdata`, from 0x2000 on
abbrev pub lld_tables : List ℕ
lld_tables =
    0x28 ∷ 0x20 ∷ 0 ∷ 0 ∷ 0 ∷ 0 ∷ 0 ∷ 0 ∷ 0 ∷ 0 ∷ 0 ∷ 0 ∷ 0x4E ∷ 0x20 ∷ 0 ∷ 0 ∷ 0x38 ∷ 0x20 ∷ 0 ∷ 0 ∷ 0 ∷ 0 ∷ 0 ∷
    0 ∷ 0 ∷ 0 ∷ 0 ∷ 0 ∷ 0 ∷ 0 ∷ 0 ∷ 0 ∷ 0 ∷ 0 ∷ 0 ∷ 0 ∷ 0 ∷ 0 ∷ 0 ∷ 0 ∷ 0x48 ∷ 0x20 ∷ 0 ∷ 0 ∷ 0 ∷ 0 ∷ 0 ∷ 0 ∷ 0 ∷ 0 ∷
    0 ∷ 0 ∷ 0 ∷ 0 ∷ 0 ∷ 0 ∷ 0x48 ∷ 0x20 ∷ 0 ∷ 0 ∷ 0 ∷ 0 ∷ 0 ∷ 0 ∷ 0 ∷ 0 ∷ 0 ∷ 0 ∷ 0 ∷ 0 ∷ 0 ∷ 0 ∷ 0 ∷ 0 ∷ 0x62 ∷
    0x61 ∷ 0x72 ∷ 0 ∷ 0x66 ∷ 0x6F ∷ 0x6F ∷ 0x2E ∷ 0x64 ∷ 0x6C ∷ 0x6C ∷ 0 ∷ []

abbrev pub lld_image : List Range
lld_image = record { start = 0x2000; bytes = lld_tables } ∷ []

abbrev pub placed_calls : Placed
placed_calls = record { object = calling_twice; section_addresses = Unplaced ∷ [] }

abbrev pub lld_linked : List Placed
lld_linked =
    placed_calls ∷ placed_by_lld AMD64 0x2038 live_shorts ∷ placed_thunk AMD64 bar_short ∷ []

-- the code at 0x1000 and the thunk of `bar` at 0x1010, as lld wrote them
abbrev pub calls_linked : LinkedCode
calls_linked = record {
  from = placed_calls;
  number = 1;
  code = two_calls;
  position = 0x1000;
  bytes = 0xFF ∷ 0x15 ∷ 0x32 ∷ 0x10 ∷ 0 ∷ 0 ∷ 0xE8 ∷ 5 ∷ 0 ∷ 0 ∷ 0 ∷ 0xC3 ∷ [];
}

abbrev pub thunk_linked : LinkedCode
thunk_linked = record {
  from = placed_thunk AMD64 bar_short;
  number = 1;
  code = thunk_section AMD64;
  position = 0x1010;
  bytes = 0xFF ∷ 0x25 ∷ 0x22 ∷ 0x10 ∷ 0 ∷ 0 ∷ [];
}

abbrev pub lld_codes : List LinkedCode
lld_codes = calls_linked ∷ thunk_linked ∷ []

abbrev pub lld_targets : LinkedCode → ℕ → ℕ
lld_targets c index =
    taken_address (λ name. 0x1010) lld_linked c.from (slice_get c.from.object.entries index)

abbrev pub lld_memory : List Range
lld_memory = lld_image ++ ranges_of_codes lld_codes

-- what foo.dll gives for `bar`
abbrev pub bar_address : List ℕ
bar_address = 0x30 ∷ 0 ∷ 0 ∷ 0x10 ∷ 0 ∷ 0 ∷ 0 ∷ 0 ∷ []

-- All premises are met, for the base that it was linked for and for another: the archive has the
-- members; lld takes for the object, in the bytes, the short import of `bar` alone; and what it
-- wrote of it is memory with its code. By the law a loader stops after one descriptor, the call at
-- 0x1000 reads what foo.dll gives for `bar`, 0x1000_0030, and the call at 0x1006 arrives there by
-- the thunk.
pub record WorkedLldWay : Type 0 where
  pub archive : IsMsvcArchive AMD64 lld_libraries
  pub alike : AreCalledAlike lld_libraries
  pub ready : HaveArchive Coff Second (archive_of lld_libraries)
  pub takes : IsSearchOf Coff Second (archive_of lld_libraries)
      (read_by_lld AMD64) lld_own lld_taken
  pub wanted : IsWantedBy AMD64 lld_libraries lld_own lld_taken lld_library
      (plain_export (codes "bar"))
  pub read : shorts_in AMD64 lld_taken ≡ bar_short ∷ []
  pub built : IsBuiltByLld AMD64 0x2000 0x2038 live_shorts lld_image lld_linked
  pub steady : AreSteady AMD64 lld_linked
  pub at : AreInMemory AMD64 0x1_4000_0000 lld_image lld_linked lld_codes lld_targets lld_memory
  pub moved : AreInMemory AMD64 0x7FF6_1234_0000 lld_image lld_linked lld_codes lld_targets
      lld_memory
  pub thunk : IsThunk AMD64 thunk_linked bar_short
  pub call : HasInstruction AMD64 calls_linked 0 (0xFF ∷ 0x15 ∷ []) [] (codes "__imp_bar")
  pub branch : HasBranch AMD64 calls_linked 7 0 (codes "bar")
  pub leads : (n : ℕ) (written : List Range) →
      ReadsAndWrites lld_memory 8 (given_on AMD64) n 0x2000 written →
      (n ≡ 1)
      × AllLead AMD64 0x1_4000_0000 lld_linked lld_codes (written ++ lld_memory) (codes "__imp_bar")
      bar_address
  pub leads_moved : (n : ℕ) (written : List Range) →
      ReadsAndWrites lld_memory 8 (given_on AMD64) n 0x2000 written →
      AllLead AMD64 0x7FF6_1234_0000 lld_linked lld_codes (written ++ lld_memory)
      (codes "__imp_bar") bar_address
  pub calls : (n : ℕ) (written : List Range) →
      ReadsAndWrites lld_memory 8 (given_on AMD64) n 0x2000 written →
      BranchArrivesByThunk AMD64 0x1_4000_0000 (written ++ lld_memory) 0x1007 0 bar_address
