-- Command lines of an object, the library of kernel32.dll and an archive of one object, which
-- leaves `ExitProcess` to others. The objects are of gcc 12 (mingw-w64), of `void start(void) {
-- quit(); }` and `void quit(void) { ExitProcess(0); }`.
-- GNU ld 2.40 says of the library in front of the archive "undefined reference to `ExitProcess'",
-- and links them in the other order, in a group, and with the library a second time behind; ld.lld
-- and lld-link 14.0.6 link them in any order.
use Rattle.std.specs.Prelude.{ℕ, Bool, List, [], ◌∷◌, ◌++◌, bytes_eq, codes, map, ◌<◌, Some, length}
use Rattle.std.specs.List.{IsDistinct}
use Rattle.implib.specs.declared.flavor.Flavor.TheVariants.{Gnu, Msvc}
use Rattle.implib.specs.declared.machine.MachineType.{MachineType}
use Rattle.implib.specs.declared.machine.MachineType.TheVariants.{AMD64, I386}
use Rattle.implib.specs.Formats.Object.{Object, object_in}
use Rattle.implib.specs.Members.MemberSpec.{MemberView, member_of}
use Rattle.implib.specs.Members.Members.{member_specs}
use Rattle.implib.specs.Renaming.{renamed}
use Rattle.implib.specs.Worked.Members.{of_dll}
use Rattle.implib.specs.Worked.Statements.{plain_export}
use Rattle.implib_link.specs.Flavors.Program.{HaveSame}
use Rattle.implib_link.specs.Flavors.Expansion.{expanded_in}
use Rattle.implib_link.specs.Search.Search.{Library, listed_in, objects_as, TakesIntoAs, unresolved}
use Rattle.implib_link.specs.Search.Search.{members_at}
use Rattle.implib_link.specs.Search.Libraries.{AreGiven, FlavorLibrary, IsFlavorArchive}
use Rattle.implib_link.specs.Search.Libraries.{archive_of_both, TakesIntoFor, msvc_among}
use Rattle.implib_link.specs.Search.Libraries.{short_inputs}
use Rattle.implib_link.specs.Search.CommandLines.{AnObject, Archives, AreListedWhole, Input}
use Rattle.implib_link.specs.Search.CommandLines.{IsOrdered, SearchesCommandLine, SearchesFlavors}
use Rattle.implib_link.specs.Search.CommandLines.{given_with, others_of}
use Rattle.implib_link.specs.Archives.InBytes.{HaveArchive, Second}
use Rattle.implib_archive.specs.declared.kind.Kind.TheVariants.{Coff}
use Rattle.implib.specs.Definition.{ExportView}

abbrev pub wants_bytes : List ℕ
wants_bytes =
    0x64 ∷ 0x86 ∷ 3 ∷ 0 ∷ 0 ∷ 0 ∷ 0 ∷ 0 ∷ 0xA6 ∷ 0 ∷ 0 ∷ 0 ∷ 0x0B ∷ 0 ∷ 0 ∷ 0 ∷ 0 ∷ 0 ∷ 4 ∷ 0 ∷ 0x2E ∷ 0x74 ∷ 0x65 ∷
    0x78 ∷ 0x74 ∷ 0 ∷ 0 ∷ 0 ∷ 0 ∷ 0 ∷ 0 ∷ 0 ∷ 0 ∷ 0 ∷ 0 ∷ 0 ∷ 0x10 ∷ 0 ∷ 0 ∷ 0 ∷ 0x8C ∷ 0 ∷ 0 ∷ 0 ∷ 0x9C ∷ 0 ∷ 0 ∷ 0 ∷
    0 ∷ 0 ∷ 0 ∷ 0 ∷ 1 ∷ 0 ∷ 0 ∷ 0 ∷ 0x20 ∷ 0 ∷ 0x50 ∷ 0x60 ∷ 0x2E ∷ 0x64 ∷ 0x61 ∷ 0x74 ∷ 0x61 ∷ 0 ∷ 0 ∷ 0 ∷ 0 ∷ 0 ∷ 0 ∷
    0 ∷ 0 ∷ 0 ∷ 0 ∷ 0 ∷ 0 ∷ 0 ∷ 0 ∷ 0 ∷ 0 ∷ 0 ∷ 0 ∷ 0 ∷ 0 ∷ 0 ∷ 0 ∷ 0 ∷ 0 ∷ 0 ∷ 0 ∷ 0 ∷ 0 ∷ 0 ∷ 0 ∷ 0 ∷ 0x40 ∷ 0 ∷
    0x50 ∷ 0xC0 ∷ 0x2E ∷ 0x62 ∷ 0x73 ∷ 0x73 ∷ 0 ∷ 0 ∷ 0 ∷ 0 ∷ 0 ∷ 0 ∷ 0 ∷ 0 ∷ 0 ∷ 0 ∷ 0 ∷ 0 ∷ 0 ∷ 0 ∷ 0 ∷ 0 ∷ 0 ∷ 0 ∷
    0 ∷ 0 ∷ 0 ∷ 0 ∷ 0 ∷ 0 ∷ 0 ∷ 0 ∷ 0 ∷ 0 ∷ 0 ∷ 0 ∷ 0 ∷ 0 ∷ 0x80 ∷ 0 ∷ 0x50 ∷ 0xC0 ∷ 0x48 ∷ 0x83 ∷ 0xEC ∷ 0x28 ∷ 0xE8 ∷
    0 ∷ 0 ∷ 0 ∷ 0 ∷ 0x48 ∷ 0x83 ∷ 0xC4 ∷ 0x28 ∷ 0xC3 ∷ 0x90 ∷ 0x90 ∷ 5 ∷ 0 ∷ 0 ∷ 0 ∷ 0x0A ∷ 0 ∷ 0 ∷ 0 ∷ 4 ∷ 0 ∷ 0x2E ∷
    0x66 ∷ 0x69 ∷ 0x6C ∷ 0x65 ∷ 0 ∷ 0 ∷ 0 ∷ 0 ∷ 0 ∷ 0 ∷ 0 ∷ 0xFE ∷ 0xFF ∷ 0 ∷ 0 ∷ 0x67 ∷ 1 ∷ 0x77 ∷ 0x61 ∷ 0x6E ∷
    0x74 ∷ 0x73 ∷ 0x2E ∷ 0x63 ∷ 0 ∷ 0 ∷ 0 ∷ 0 ∷ 0 ∷ 0 ∷ 0 ∷ 0 ∷ 0 ∷ 0 ∷ 0 ∷ 0x73 ∷ 0x74 ∷ 0x61 ∷ 0x72 ∷ 0x74 ∷ 0 ∷ 0 ∷
    0 ∷ 0 ∷ 0 ∷ 0 ∷ 0 ∷ 1 ∷ 0 ∷ 0x20 ∷ 0 ∷ 2 ∷ 1 ∷ 0 ∷ 0 ∷ 0 ∷ 0 ∷ 0 ∷ 0 ∷ 0 ∷ 0 ∷ 0 ∷ 0 ∷ 0 ∷ 0 ∷ 0 ∷ 0 ∷ 0 ∷ 0 ∷ 0 ∷
    0 ∷ 0x2E ∷ 0x74 ∷ 0x65 ∷ 0x78 ∷ 0x74 ∷ 0 ∷ 0 ∷ 0 ∷ 0 ∷ 0 ∷ 0 ∷ 0 ∷ 1 ∷ 0 ∷ 0 ∷ 0 ∷ 3 ∷ 1 ∷ 0x0E ∷ 0 ∷ 0 ∷ 0 ∷ 1 ∷
    0 ∷ 0 ∷ 0 ∷ 0 ∷ 0 ∷ 0 ∷ 0 ∷ 0 ∷ 0 ∷ 0 ∷ 0 ∷ 0 ∷ 0 ∷ 0x2E ∷ 0x64 ∷ 0x61 ∷ 0x74 ∷ 0x61 ∷ 0 ∷ 0 ∷ 0 ∷ 0 ∷ 0 ∷ 0 ∷ 0 ∷
    2 ∷ 0 ∷ 0 ∷ 0 ∷ 3 ∷ 1 ∷ 0 ∷ 0 ∷ 0 ∷ 0 ∷ 0 ∷ 0 ∷ 0 ∷ 0 ∷ 0 ∷ 0 ∷ 0 ∷ 0 ∷ 0 ∷ 0 ∷ 0 ∷ 0 ∷ 0 ∷ 0 ∷ 0x2E ∷ 0x62 ∷
    0x73 ∷ 0x73 ∷ 0 ∷ 0 ∷ 0 ∷ 0 ∷ 0 ∷ 0 ∷ 0 ∷ 0 ∷ 3 ∷ 0 ∷ 0 ∷ 0 ∷ 3 ∷ 1 ∷ 0 ∷ 0 ∷ 0 ∷ 0 ∷ 0 ∷ 0 ∷ 0 ∷ 0 ∷ 0 ∷ 0 ∷ 0 ∷
    0 ∷ 0 ∷ 0 ∷ 0 ∷ 0 ∷ 0 ∷ 0 ∷ 0x71 ∷ 0x75 ∷ 0x69 ∷ 0x74 ∷ 0 ∷ 0 ∷ 0 ∷ 0 ∷ 0 ∷ 0 ∷ 0 ∷ 0 ∷ 0 ∷ 0 ∷ 0x20 ∷ 0 ∷ 2 ∷ 0 ∷
    4 ∷ 0 ∷ 0 ∷ 0 ∷ []

abbrev pub quit_bytes : List ℕ
quit_bytes =
    0x64 ∷ 0x86 ∷ 3 ∷ 0 ∷ 0 ∷ 0 ∷ 0 ∷ 0 ∷ 0xB6 ∷ 0 ∷ 0 ∷ 0 ∷ 0x0B ∷ 0 ∷ 0 ∷ 0 ∷ 0 ∷ 0 ∷ 4 ∷ 0 ∷ 0x2E ∷ 0x74 ∷ 0x65 ∷
    0x78 ∷ 0x74 ∷ 0 ∷ 0 ∷ 0 ∷ 0 ∷ 0 ∷ 0 ∷ 0 ∷ 0 ∷ 0 ∷ 0 ∷ 0 ∷ 0x20 ∷ 0 ∷ 0 ∷ 0 ∷ 0x8C ∷ 0 ∷ 0 ∷ 0 ∷ 0xAC ∷ 0 ∷ 0 ∷ 0 ∷
    0 ∷ 0 ∷ 0 ∷ 0 ∷ 1 ∷ 0 ∷ 0 ∷ 0 ∷ 0x20 ∷ 0 ∷ 0x50 ∷ 0x60 ∷ 0x2E ∷ 0x64 ∷ 0x61 ∷ 0x74 ∷ 0x61 ∷ 0 ∷ 0 ∷ 0 ∷ 0 ∷ 0 ∷ 0 ∷
    0 ∷ 0 ∷ 0 ∷ 0 ∷ 0 ∷ 0 ∷ 0 ∷ 0 ∷ 0 ∷ 0 ∷ 0 ∷ 0 ∷ 0 ∷ 0 ∷ 0 ∷ 0 ∷ 0 ∷ 0 ∷ 0 ∷ 0 ∷ 0 ∷ 0 ∷ 0 ∷ 0 ∷ 0 ∷ 0x40 ∷ 0 ∷
    0x50 ∷ 0xC0 ∷ 0x2E ∷ 0x62 ∷ 0x73 ∷ 0x73 ∷ 0 ∷ 0 ∷ 0 ∷ 0 ∷ 0 ∷ 0 ∷ 0 ∷ 0 ∷ 0 ∷ 0 ∷ 0 ∷ 0 ∷ 0 ∷ 0 ∷ 0 ∷ 0 ∷ 0 ∷ 0 ∷
    0 ∷ 0 ∷ 0 ∷ 0 ∷ 0 ∷ 0 ∷ 0 ∷ 0 ∷ 0 ∷ 0 ∷ 0 ∷ 0 ∷ 0 ∷ 0 ∷ 0x80 ∷ 0 ∷ 0x50 ∷ 0xC0 ∷ 0x48 ∷ 0x83 ∷ 0xEC ∷ 0x28 ∷ 0xB9 ∷
    0 ∷ 0 ∷ 0 ∷ 0 ∷ 0xE8 ∷ 0 ∷ 0 ∷ 0 ∷ 0 ∷ 0x48 ∷ 0x83 ∷ 0xC4 ∷ 0x28 ∷ 0xC3 ∷ 0x90 ∷ 0x90 ∷ 0x90 ∷ 0x90 ∷ 0x90 ∷ 0x90 ∷
    0x90 ∷ 0x90 ∷ 0x90 ∷ 0x90 ∷ 0x90 ∷ 0x90 ∷ 0x90 ∷ 0x0A ∷ 0 ∷ 0 ∷ 0 ∷ 0x0A ∷ 0 ∷ 0 ∷ 0 ∷ 4 ∷ 0 ∷ 0x2E ∷ 0x66 ∷ 0x69 ∷
    0x6C ∷ 0x65 ∷ 0 ∷ 0 ∷ 0 ∷ 0 ∷ 0 ∷ 0 ∷ 0 ∷ 0xFE ∷ 0xFF ∷ 0 ∷ 0 ∷ 0x67 ∷ 1 ∷ 0x71 ∷ 0x75 ∷ 0x69 ∷ 0x74 ∷ 0x2E ∷
    0x63 ∷ 0 ∷ 0 ∷ 0 ∷ 0 ∷ 0 ∷ 0 ∷ 0 ∷ 0 ∷ 0 ∷ 0 ∷ 0 ∷ 0 ∷ 0x71 ∷ 0x75 ∷ 0x69 ∷ 0x74 ∷ 0 ∷ 0 ∷ 0 ∷ 0 ∷ 0 ∷ 0 ∷ 0 ∷ 0 ∷
    1 ∷ 0 ∷ 0x20 ∷ 0 ∷ 2 ∷ 1 ∷ 0 ∷ 0 ∷ 0 ∷ 0 ∷ 0 ∷ 0 ∷ 0 ∷ 0 ∷ 0 ∷ 0 ∷ 0 ∷ 0 ∷ 0 ∷ 0 ∷ 0 ∷ 0 ∷ 0 ∷ 0 ∷ 0x2E ∷ 0x74 ∷
    0x65 ∷ 0x78 ∷ 0x74 ∷ 0 ∷ 0 ∷ 0 ∷ 0 ∷ 0 ∷ 0 ∷ 0 ∷ 1 ∷ 0 ∷ 0 ∷ 0 ∷ 3 ∷ 1 ∷ 0x13 ∷ 0 ∷ 0 ∷ 0 ∷ 1 ∷ 0 ∷ 0 ∷ 0 ∷ 0 ∷ 0 ∷
    0 ∷ 0 ∷ 0 ∷ 0 ∷ 0 ∷ 0 ∷ 0 ∷ 0 ∷ 0x2E ∷ 0x64 ∷ 0x61 ∷ 0x74 ∷ 0x61 ∷ 0 ∷ 0 ∷ 0 ∷ 0 ∷ 0 ∷ 0 ∷ 0 ∷ 2 ∷ 0 ∷ 0 ∷ 0 ∷ 3 ∷
    1 ∷ 0 ∷ 0 ∷ 0 ∷ 0 ∷ 0 ∷ 0 ∷ 0 ∷ 0 ∷ 0 ∷ 0 ∷ 0 ∷ 0 ∷ 0 ∷ 0 ∷ 0 ∷ 0 ∷ 0 ∷ 0 ∷ 0x2E ∷ 0x62 ∷ 0x73 ∷ 0x73 ∷ 0 ∷ 0 ∷ 0 ∷
    0 ∷ 0 ∷ 0 ∷ 0 ∷ 0 ∷ 3 ∷ 0 ∷ 0 ∷ 0 ∷ 3 ∷ 1 ∷ 0 ∷ 0 ∷ 0 ∷ 0 ∷ 0 ∷ 0 ∷ 0 ∷ 0 ∷ 0 ∷ 0 ∷ 0 ∷ 0 ∷ 0 ∷ 0 ∷ 0 ∷ 0 ∷ 0 ∷ 0 ∷
    0 ∷ 0 ∷ 0 ∷ 0 ∷ 4 ∷ 0 ∷ 0 ∷ 0 ∷ 0 ∷ 0 ∷ 0 ∷ 0 ∷ 0 ∷ 0 ∷ 0x20 ∷ 0 ∷ 2 ∷ 0 ∷ 0x10 ∷ 0 ∷ 0 ∷ 0 ∷ 0x45 ∷ 0x78 ∷ 0x69 ∷
    0x74 ∷ 0x50 ∷ 0x72 ∷ 0x6F ∷ 0x63 ∷ 0x65 ∷ 0x73 ∷ 0x73 ∷ 0 ∷ []

abbrev pub i386_wants_bytes : List ℕ
i386_wants_bytes =
    0x4C ∷ 1 ∷ 3 ∷ 0 ∷ 0 ∷ 0 ∷ 0 ∷ 0 ∷ 0xA2 ∷ 0 ∷ 0 ∷ 0 ∷ 0x0B ∷ 0 ∷ 0 ∷ 0 ∷ 0 ∷ 0 ∷ 4 ∷ 1 ∷ 0x2E ∷ 0x74 ∷ 0x65 ∷
    0x78 ∷ 0x74 ∷ 0 ∷ 0 ∷ 0 ∷ 0 ∷ 0 ∷ 0 ∷ 0 ∷ 0 ∷ 0 ∷ 0 ∷ 0 ∷ 0x0C ∷ 0 ∷ 0 ∷ 0 ∷ 0x8C ∷ 0 ∷ 0 ∷ 0 ∷ 0x98 ∷ 0 ∷ 0 ∷ 0 ∷
    0 ∷ 0 ∷ 0 ∷ 0 ∷ 1 ∷ 0 ∷ 0 ∷ 0 ∷ 0x20 ∷ 0 ∷ 0x30 ∷ 0x60 ∷ 0x2E ∷ 0x64 ∷ 0x61 ∷ 0x74 ∷ 0x61 ∷ 0 ∷ 0 ∷ 0 ∷ 0 ∷ 0 ∷ 0 ∷
    0 ∷ 0 ∷ 0 ∷ 0 ∷ 0 ∷ 0 ∷ 0 ∷ 0 ∷ 0 ∷ 0 ∷ 0 ∷ 0 ∷ 0 ∷ 0 ∷ 0 ∷ 0 ∷ 0 ∷ 0 ∷ 0 ∷ 0 ∷ 0 ∷ 0 ∷ 0 ∷ 0 ∷ 0 ∷ 0x40 ∷ 0 ∷
    0x30 ∷ 0xC0 ∷ 0x2E ∷ 0x62 ∷ 0x73 ∷ 0x73 ∷ 0 ∷ 0 ∷ 0 ∷ 0 ∷ 0 ∷ 0 ∷ 0 ∷ 0 ∷ 0 ∷ 0 ∷ 0 ∷ 0 ∷ 0 ∷ 0 ∷ 0 ∷ 0 ∷ 0 ∷ 0 ∷
    0 ∷ 0 ∷ 0 ∷ 0 ∷ 0 ∷ 0 ∷ 0 ∷ 0 ∷ 0 ∷ 0 ∷ 0 ∷ 0 ∷ 0 ∷ 0 ∷ 0x80 ∷ 0 ∷ 0x30 ∷ 0xC0 ∷ 0x83 ∷ 0xEC ∷ 0x0C ∷ 0xE8 ∷ 0 ∷
    0 ∷ 0 ∷ 0 ∷ 0x83 ∷ 0xC4 ∷ 0x0C ∷ 0xC3 ∷ 4 ∷ 0 ∷ 0 ∷ 0 ∷ 0x0A ∷ 0 ∷ 0 ∷ 0 ∷ 0x14 ∷ 0 ∷ 0x2E ∷ 0x66 ∷ 0x69 ∷ 0x6C ∷
    0x65 ∷ 0 ∷ 0 ∷ 0 ∷ 0 ∷ 0 ∷ 0 ∷ 0 ∷ 0xFE ∷ 0xFF ∷ 0 ∷ 0 ∷ 0x67 ∷ 1 ∷ 0x77 ∷ 0x61 ∷ 0x6E ∷ 0x74 ∷ 0x73 ∷ 0x2E ∷
    0x63 ∷ 0 ∷ 0 ∷ 0 ∷ 0 ∷ 0 ∷ 0 ∷ 0 ∷ 0 ∷ 0 ∷ 0 ∷ 0 ∷ 0x5F ∷ 0x73 ∷ 0x74 ∷ 0x61 ∷ 0x72 ∷ 0x74 ∷ 0 ∷ 0 ∷ 0 ∷ 0 ∷ 0 ∷
    0 ∷ 1 ∷ 0 ∷ 0x20 ∷ 0 ∷ 2 ∷ 1 ∷ 0 ∷ 0 ∷ 0 ∷ 0 ∷ 0 ∷ 0 ∷ 0 ∷ 0 ∷ 0 ∷ 0 ∷ 0 ∷ 0 ∷ 0 ∷ 0 ∷ 0 ∷ 0 ∷ 0 ∷ 0 ∷ 0x2E ∷
    0x74 ∷ 0x65 ∷ 0x78 ∷ 0x74 ∷ 0 ∷ 0 ∷ 0 ∷ 0 ∷ 0 ∷ 0 ∷ 0 ∷ 1 ∷ 0 ∷ 0 ∷ 0 ∷ 3 ∷ 1 ∷ 0x0C ∷ 0 ∷ 0 ∷ 0 ∷ 1 ∷ 0 ∷ 0 ∷ 0 ∷
    0 ∷ 0 ∷ 0 ∷ 0 ∷ 0 ∷ 0 ∷ 0 ∷ 0 ∷ 0 ∷ 0 ∷ 0x2E ∷ 0x64 ∷ 0x61 ∷ 0x74 ∷ 0x61 ∷ 0 ∷ 0 ∷ 0 ∷ 0 ∷ 0 ∷ 0 ∷ 0 ∷ 2 ∷ 0 ∷ 0 ∷
    0 ∷ 3 ∷ 1 ∷ 0 ∷ 0 ∷ 0 ∷ 0 ∷ 0 ∷ 0 ∷ 0 ∷ 0 ∷ 0 ∷ 0 ∷ 0 ∷ 0 ∷ 0 ∷ 0 ∷ 0 ∷ 0 ∷ 0 ∷ 0 ∷ 0x2E ∷ 0x62 ∷ 0x73 ∷ 0x73 ∷ 0 ∷
    0 ∷ 0 ∷ 0 ∷ 0 ∷ 0 ∷ 0 ∷ 0 ∷ 3 ∷ 0 ∷ 0 ∷ 0 ∷ 3 ∷ 1 ∷ 0 ∷ 0 ∷ 0 ∷ 0 ∷ 0 ∷ 0 ∷ 0 ∷ 0 ∷ 0 ∷ 0 ∷ 0 ∷ 0 ∷ 0 ∷ 0 ∷ 0 ∷ 0 ∷
    0 ∷ 0 ∷ 0x5F ∷ 0x71 ∷ 0x75 ∷ 0x69 ∷ 0x74 ∷ 0 ∷ 0 ∷ 0 ∷ 0 ∷ 0 ∷ 0 ∷ 0 ∷ 0 ∷ 0 ∷ 0x20 ∷ 0 ∷ 2 ∷ 0 ∷ 4 ∷ 0 ∷ 0 ∷ 0 ∷ []

abbrev pub i386_quit_bytes : List ℕ
i386_quit_bytes =
    0x4C ∷ 1 ∷ 3 ∷ 0 ∷ 0 ∷ 0 ∷ 0 ∷ 0 ∷ 0xAE ∷ 0 ∷ 0 ∷ 0 ∷ 0x0B ∷ 0 ∷ 0 ∷ 0 ∷ 0 ∷ 0 ∷ 4 ∷ 1 ∷ 0x2E ∷ 0x74 ∷ 0x65 ∷
    0x78 ∷ 0x74 ∷ 0 ∷ 0 ∷ 0 ∷ 0 ∷ 0 ∷ 0 ∷ 0 ∷ 0 ∷ 0 ∷ 0 ∷ 0 ∷ 0x18 ∷ 0 ∷ 0 ∷ 0 ∷ 0x8C ∷ 0 ∷ 0 ∷ 0 ∷ 0xA4 ∷ 0 ∷ 0 ∷ 0 ∷
    0 ∷ 0 ∷ 0 ∷ 0 ∷ 1 ∷ 0 ∷ 0 ∷ 0 ∷ 0x20 ∷ 0 ∷ 0x30 ∷ 0x60 ∷ 0x2E ∷ 0x64 ∷ 0x61 ∷ 0x74 ∷ 0x61 ∷ 0 ∷ 0 ∷ 0 ∷ 0 ∷ 0 ∷ 0 ∷
    0 ∷ 0 ∷ 0 ∷ 0 ∷ 0 ∷ 0 ∷ 0 ∷ 0 ∷ 0 ∷ 0 ∷ 0 ∷ 0 ∷ 0 ∷ 0 ∷ 0 ∷ 0 ∷ 0 ∷ 0 ∷ 0 ∷ 0 ∷ 0 ∷ 0 ∷ 0 ∷ 0 ∷ 0 ∷ 0x40 ∷ 0 ∷
    0x30 ∷ 0xC0 ∷ 0x2E ∷ 0x62 ∷ 0x73 ∷ 0x73 ∷ 0 ∷ 0 ∷ 0 ∷ 0 ∷ 0 ∷ 0 ∷ 0 ∷ 0 ∷ 0 ∷ 0 ∷ 0 ∷ 0 ∷ 0 ∷ 0 ∷ 0 ∷ 0 ∷ 0 ∷ 0 ∷
    0 ∷ 0 ∷ 0 ∷ 0 ∷ 0 ∷ 0 ∷ 0 ∷ 0 ∷ 0 ∷ 0 ∷ 0 ∷ 0 ∷ 0 ∷ 0 ∷ 0x80 ∷ 0 ∷ 0x30 ∷ 0xC0 ∷ 0x83 ∷ 0xEC ∷ 0x1C ∷ 0xC7 ∷ 4 ∷
    0x24 ∷ 0 ∷ 0 ∷ 0 ∷ 0 ∷ 0xE8 ∷ 0 ∷ 0 ∷ 0 ∷ 0 ∷ 0x83 ∷ 0xEC ∷ 4 ∷ 0x83 ∷ 0xC4 ∷ 0x1C ∷ 0xC3 ∷ 0x90 ∷ 0x90 ∷ 0x0B ∷
    0 ∷ 0 ∷ 0 ∷ 0x0A ∷ 0 ∷ 0 ∷ 0 ∷ 0x14 ∷ 0 ∷ 0x2E ∷ 0x66 ∷ 0x69 ∷ 0x6C ∷ 0x65 ∷ 0 ∷ 0 ∷ 0 ∷ 0 ∷ 0 ∷ 0 ∷ 0 ∷ 0xFE ∷
    0xFF ∷ 0 ∷ 0 ∷ 0x67 ∷ 1 ∷ 0x71 ∷ 0x75 ∷ 0x69 ∷ 0x74 ∷ 0x2E ∷ 0x63 ∷ 0 ∷ 0 ∷ 0 ∷ 0 ∷ 0 ∷ 0 ∷ 0 ∷ 0 ∷ 0 ∷ 0 ∷ 0 ∷ 0 ∷
    0x5F ∷ 0x71 ∷ 0x75 ∷ 0x69 ∷ 0x74 ∷ 0 ∷ 0 ∷ 0 ∷ 0 ∷ 0 ∷ 0 ∷ 0 ∷ 1 ∷ 0 ∷ 0x20 ∷ 0 ∷ 2 ∷ 1 ∷ 0 ∷ 0 ∷ 0 ∷ 0 ∷ 0 ∷ 0 ∷
    0 ∷ 0 ∷ 0 ∷ 0 ∷ 0 ∷ 0 ∷ 0 ∷ 0 ∷ 0 ∷ 0 ∷ 0 ∷ 0 ∷ 0x2E ∷ 0x74 ∷ 0x65 ∷ 0x78 ∷ 0x74 ∷ 0 ∷ 0 ∷ 0 ∷ 0 ∷ 0 ∷ 0 ∷ 0 ∷ 1 ∷
    0 ∷ 0 ∷ 0 ∷ 3 ∷ 1 ∷ 0x16 ∷ 0 ∷ 0 ∷ 0 ∷ 1 ∷ 0 ∷ 0 ∷ 0 ∷ 0 ∷ 0 ∷ 0 ∷ 0 ∷ 0 ∷ 0 ∷ 0 ∷ 0 ∷ 0 ∷ 0 ∷ 0x2E ∷ 0x64 ∷ 0x61 ∷
    0x74 ∷ 0x61 ∷ 0 ∷ 0 ∷ 0 ∷ 0 ∷ 0 ∷ 0 ∷ 0 ∷ 2 ∷ 0 ∷ 0 ∷ 0 ∷ 3 ∷ 1 ∷ 0 ∷ 0 ∷ 0 ∷ 0 ∷ 0 ∷ 0 ∷ 0 ∷ 0 ∷ 0 ∷ 0 ∷ 0 ∷ 0 ∷
    0 ∷ 0 ∷ 0 ∷ 0 ∷ 0 ∷ 0 ∷ 0x2E ∷ 0x62 ∷ 0x73 ∷ 0x73 ∷ 0 ∷ 0 ∷ 0 ∷ 0 ∷ 0 ∷ 0 ∷ 0 ∷ 0 ∷ 3 ∷ 0 ∷ 0 ∷ 0 ∷ 3 ∷ 1 ∷ 0 ∷ 0 ∷
    0 ∷ 0 ∷ 0 ∷ 0 ∷ 0 ∷ 0 ∷ 0 ∷ 0 ∷ 0 ∷ 0 ∷ 0 ∷ 0 ∷ 0 ∷ 0 ∷ 0 ∷ 0 ∷ 0 ∷ 0 ∷ 0 ∷ 0 ∷ 4 ∷ 0 ∷ 0 ∷ 0 ∷ 0 ∷ 0 ∷ 0 ∷ 0 ∷ 0 ∷
    0 ∷ 0x20 ∷ 0 ∷ 2 ∷ 0 ∷ 0x13 ∷ 0 ∷ 0 ∷ 0 ∷ 0x5F ∷ 0x45 ∷ 0x78 ∷ 0x69 ∷ 0x74 ∷ 0x50 ∷ 0x72 ∷ 0x6F ∷ 0x63 ∷ 0x65 ∷
    0x73 ∷ 0x73 ∷ 0x40 ∷ 0x34 ∷ 0 ∷ []

-- the objects that are read in bytes
abbrev pub read_or_none : List ℕ → List Object
read_or_none bytes = objects_as object_in (record { name = []; bytes = bytes; symbols = [] } ∷ [])

-- the library of kernel32.dll with one function
abbrev pub kernel_on : MachineType → List ℕ → Library
kernel_on machine symbol =
    let d = of_dll (codes "kernel32.dll") (plain_export symbol ∷ []) in
    record { definition = d; members = map member_of (member_specs (renamed d) machine Gnu) }

-- the member of the other archive, which is listed for `quit`
abbrev pub quit_member : List ℕ → List ℕ → MemberView
quit_member symbol bytes = record { name = codes "quit.o"; bytes = bytes; symbols = symbol ∷ [] }

abbrev pub is_quit : MemberView → Bool
is_quit m = bytes_eq m.name (codes "quit.o")

-- The members: of the library 0, 1 and 2, and that of the archive, 3.
abbrev pub members_on : MachineType → List ℕ → List ℕ → List ℕ → List MemberView
members_on machine symbol quit bytes =
    (kernel_on machine symbol).members ++ quit_member quit bytes ∷ []

abbrev pub amd64_members : List MemberView
amd64_members = members_on AMD64 (codes "ExitProcess") (codes "quit") quit_bytes

abbrev pub i386_members : List MemberView
i386_members = members_on I386 (codes "_ExitProcess@4") (codes "_quit") i386_quit_bytes

abbrev pub of_kernel : List ℕ
of_kernel = 0 ∷ 1 ∷ 2 ∷ []

abbrev pub of_quit : List ℕ
of_quit = 3 ∷ []

-- inputs that are objects
abbrev pub inputs_of : List Object → List Input
inputs_of objects = map AnObject objects

-- the command lines, behind the object: the library last; and both in a group
abbrev pub library_last : List Object → List Input
library_last own = inputs_of own ++ Archives (of_quit ∷ []) ∷ Archives (of_kernel ∷ []) ∷ []

abbrev pub in_group : List Object → List Input
in_group own = inputs_of own ++ Archives (of_kernel ∷ of_quit ∷ []) ∷ []

-- what is taken of all, the last one first
abbrev pub all_taken : List ℕ
all_taken = 0 ∷ 1 ∷ 2 ∷ 3 ∷ []

-- On one machine, where `own` is the object:
-- `first`, `ordered`, `takes`: with the library last GNU ld takes all, and by the law as one search
-- of all does;
-- `group`: so it does in a group;
-- `alike`: by the law another search takes the same as GNU ld of the group.
pub record WorkedCommandLine (machine : MachineType) (members : List MemberView)
    (own : List Object) : Type 0 where
  pub distinct : IsDistinct bytes_eq (listed_in members)
  pub whole : AreListedWhole (expanded_in machine) members
  pub first : SearchesCommandLine (expanded_in machine) members (library_last own) all_taken
  pub ordered : IsOrdered (expanded_in machine) members (library_last own)
  pub takes : TakesIntoFor machine members own (members_at members all_taken)
  pub group : SearchesCommandLine (expanded_in machine) members (in_group own) all_taken
  pub alike : (other : List MemberView) → TakesIntoFor machine members own other →
      HaveSame (members_at members all_taken) other

pub record WorkedCommandLines : Type 0 where
  pub amd64 : WorkedCommandLine AMD64 amd64_members (read_or_none wants_bytes)
  pub i386 : WorkedCommandLine I386 i386_members (read_or_none i386_wants_bytes)

-- Command lines of an object, an archive and a library for Microsoft's linker, for GNU `ld`, which
-- expands short imports.

-- the library of kernel32.dll for Microsoft's linker, with one function
abbrev pub kernels_on : MachineType → ExportView → List FlavorLibrary
kernels_on machine export =
    let d = of_dll (codes "kernel32.dll") (export ∷ []) in
    record {
      flavor = Msvc;
      library = record {
        definition = d;
        members = map member_of (member_specs (renamed d) machine Msvc);
      };
    } ∷ []

abbrev pub amd64_kernels : List FlavorLibrary
amd64_kernels = kernels_on AMD64 (plain_export (codes "ExitProcess"))

abbrev pub i386_kernels : List FlavorLibrary
i386_kernels = kernels_on I386
    (record (plain_export (codes "_ExitProcess@4")) { asked_name = Some (codes "ExitProcess@4") })

-- The members: the import descriptor 0, the null descriptor 1, the null thunk 2, the short import
-- 3, and that of the archive, 4.
abbrev pub amd64_shorts : List MemberView
amd64_shorts = archive_of_both amd64_kernels ++ quit_member (codes "quit") quit_bytes ∷ []

abbrev pub i386_shorts : List MemberView
i386_shorts = archive_of_both i386_kernels ++ quit_member (codes "_quit") i386_quit_bytes ∷ []

-- the command lines: the object, the archive and the library; and both in a group, the library
-- first
abbrev pub shorts_last : List Object → List Input
shorts_last own = inputs_of own ++ Archives ((4 ∷ []) ∷ []) ∷ Archives ((0 ∷ 1 ∷ 2 ∷ 3 ∷ []) ∷ []) ∷ []

abbrev pub shorts_grouped : List Object → List Input
shorts_grouped own = inputs_of own ++ Archives ((0 ∷ 1 ∷ 2 ∷ 3 ∷ []) ∷ (4 ∷ []) ∷ []) ∷ []

-- what is taken, the last one first: the short import leaves the descriptor, and this the two
-- others
abbrev pub shorts_taken : List ℕ
shorts_taken = 2 ∷ 1 ∷ 0 ∷ 3 ∷ 4 ∷ []

-- the given objects, and the archive's
abbrev pub with_quit : MachineType → List MemberView → List Object → List Object
with_quit machine members own =
    given_with (expanded_in machine) is_quit own (members_at members shorts_taken)

-- On one machine: the premises of the whole way, of this command line; and by the law what is taken
-- of the library, for the given objects and the archive's.
pub record WorkedFlavorLine (machine : MachineType) (libraries : List FlavorLibrary)
    (members : List MemberView) (own : List Object) (inputs : List Input) : Type 0 where
  pub archive : IsFlavorArchive machine libraries
  pub ready : HaveArchive Coff Second (archive_of_both libraries)
  pub searches : SearchesFlavors machine libraries members inputs is_quit shorts_taken
  pub given : AreGiven machine libraries (with_quit machine members own)
  pub some : 0
      < length (short_inputs (msvc_among libraries) (unresolved (with_quit machine members own)))
  pub takes : TakesIntoAs (expanded_in machine) (archive_of_both libraries)
      (with_quit machine members own)
      (others_of is_quit (members_at members shorts_taken))

pub record WorkedFlavorLines : Type 0 where
  pub amd64 : WorkedFlavorLine AMD64 amd64_kernels amd64_shorts (read_or_none wants_bytes)
      (shorts_last (read_or_none wants_bytes))
  pub i386 : WorkedFlavorLine I386 i386_kernels i386_shorts (read_or_none i386_wants_bytes)
      (shorts_grouped (read_or_none i386_wants_bytes))
