-- Archives of one object each, as GNU `ar` 2.40 wrote them (`ar rcsD`), and a library of
-- llvm-dlltool 19, read by hand: the members in the bytes.
use Rattle.std.specs.Prelude.{List, [], codes, ℕ, ◌++◌, ◌∷◌, ◌≡◌}
use Rattle.implib.specs.Worked.Digits.{hex}
use Rattle.implib_archive.specs.declared.kind.Kind.TheVariants.{Coff, Gnu}
use Rattle.implib_link.specs.Archives.Files.{ArchiveFile, HasMembers, HasMembersAs}
use Rattle.implib_link.specs.Archives.Files.{members_in_files}
use Rattle.implib_link.specs.Search.Libraries.{FlavorLibrary, archive_of_both, msvc_among}
use Rattle.implib_link.specs.Search.Libraries.{IsMsvcArchive}
use Rattle.implib_link_instances.specs.Worked.CommandLines.{i386_quit_bytes, i386_wants_bytes}
use Rattle.implib_link_instances.specs.Worked.CommandLines.{is_quit, quit_bytes, quit_member}
use Rattle.implib_link_instances.specs.Worked.CommandLines.{read_or_none, wants_bytes}
use Rattle.implib_link_instances.specs.Worked.CommandLines.{amd64_kernels, amd64_shorts}
use Rattle.implib_link_instances.specs.Worked.CommandLines.{i386_kernels, i386_shorts}
use Rattle.implib_link_instances.specs.Worked.CommandLines.{shorts_grouped, shorts_last}
use Rattle.implib_link_instances.specs.Worked.CommandLines.{shorts_taken}
use Rattle.implib.specs.declared.machine.MachineType.{MachineType}
use Rattle.implib.specs.declared.machine.MachineType.TheVariants.{AMD64, I386}
use Rattle.implib.specs.Formats.Object.{Object}
use Rattle.implib.specs.Members.MemberSpec.{MemberView}
use Rattle.implib_link.specs.Archives.Ways.{SearchesByLld, AreCalledAlike, LldArrives, read_by_lld}
use Rattle.implib_link.specs.Search.CommandLines.{Input, SearchesFlavors, given_with, others_of}
use Rattle.implib_link.specs.Search.Search.{members_at, archive_of}
use Rattle.implib_link.specs.Archives.InBytes.{HaveArchive, Second}

abbrev pub libquit : List ℕ
libquit =
    codes "!<arch>\n/               0           0     0     0       14        `\n"
    ++ (0 ∷ 0 ∷ 0 ∷ 1 ∷ 0 ∷ 0 ∷ 0 ∷ 82 ∷ [])
    ++ codes "quit" ++ (0 ∷ 0 ∷ [])
    ++ codes "quit.o/         0           0     0     644     396       `\n" ++ quit_bytes

abbrev pub i386_libquit : List ℕ
i386_libquit =
    codes "!<arch>\n/               0           0     0     0       14        `\n"
    ++ (0 ∷ 0 ∷ 0 ∷ 1 ∷ 0 ∷ 0 ∷ 0 ∷ 82 ∷ [])
    ++ codes "_quit" ++ (0 ∷ [])
    ++ codes "quit.o/         0           0     0     644     391       `\n" ++ i386_quit_bytes
    ++ (10 ∷ [])

-- A library for Microsoft's linker, as llvm-dlltool 19 wrote it (`-m i386:x86-64`): of
-- kernel32.dll, with ExitProcess.
abbrev pub kernel_lib : List ℕ
kernel_lib =
    hex "21 3c 61 72 63 68 3e 0a 2f 20 20 20 20 20 20 20 20 20 20 20 20 20 20 20 30 20 20 20 20 20 20 20 20 20 20 20"
    ++ hex "30 20 20 20 20 20 30 20 20 20 20 20 30 20 20 20 20 20 20 20 31 33 34 20 20 20 20 20 20 20 60 0a 00 00 00 05"
    ++ hex "00 00 01 96 00 00 03 48 00 00 04 04 00 00 04 e4 00 00 04 e4 5f 5f 49 4d 50 4f 52 54 5f 44 45 53 43 52 49 50"
    ++ hex "54 4f 52 5f 6b 65 72 6e 65 6c 33 32 00 5f 5f 4e 55 4c 4c 5f 49 4d 50 4f 52 54 5f 44 45 53 43 52 49 50 54 4f"
    ++ hex "52 00 7f 6b 65 72 6e 65 6c 33 32 5f 4e 55 4c 4c 5f 54 48 55 4e 4b 5f 44 41 54 41 00 5f 5f 69 6d 70 5f 45 78"
    ++ hex "69 74 50 72 6f 63 65 73 73 00 45 78 69 74 50 72 6f 63 65 73 73 00 2f 20 20 20 20 20 20 20 20 20 20 20 20 20"
    ++ hex "20 20 30 20 20 20 20 20 20 20 20 20 20 20 30 20 20 20 20 20 30 20 20 20 20 20 30 20 20 20 20 20 20 20 31 34"
    ++ hex "34 20 20 20 20 20 20 20 60 0a 04 00 00 00 96 01 00 00 48 03 00 00 04 04 00 00 e4 04 00 00 05 00 00 00 04 00"
    ++ hex "01 00 02 00 04 00 03 00 45 78 69 74 50 72 6f 63 65 73 73 00 5f 5f 49 4d 50 4f 52 54 5f 44 45 53 43 52 49 50"
    ++ hex "54 4f 52 5f 6b 65 72 6e 65 6c 33 32 00 5f 5f 4e 55 4c 4c 5f 49 4d 50 4f 52 54 5f 44 45 53 43 52 49 50 54 4f"
    ++ hex "52 00 5f 5f 69 6d 70 5f 45 78 69 74 50 72 6f 63 65 73 73 00 7f 6b 65 72 6e 65 6c 33 32 5f 4e 55 4c 4c 5f 54"
    ++ hex "48 55 4e 4b 5f 44 41 54 41 00 6b 65 72 6e 65 6c 33 32 2e 64 6c 6c 2f 20 20 20 30 20 20 20 20 20 20 20 20 20"
    ++ hex "20 20 30 20 20 20 20 20 30 20 20 20 20 20 36 34 34 20 20 20 20 20 33 37 33 20 20 20 20 20 20 20 60 0a 64 86"
    ++ hex "02 00 00 00 00 00 a3 00 00 00 07 00 00 00 00 00 00 00 2e 69 64 61 74 61 24 32 00 00 00 00 00 00 00 00 14 00"
    ++ hex "00 00 64 00 00 00 78 00 00 00 00 00 00 00 03 00 00 00 40 00 30 c0 2e 69 64 61 74 61 24 36 00 00 00 00 00 00"
    ++ hex "00 00 0d 00 00 00 96 00 00 00 00 00 00 00 00 00 00 00 00 00 00 00 40 00 20 c0 00 00 00 00 00 00 00 00 00 00"
    ++ hex "00 00 00 00 00 00 00 00 00 00 0c 00 00 00 02 00 00 00 03 00 00 00 00 00 03 00 00 00 03 00 10 00 00 00 04 00"
    ++ hex "00 00 03 00 6b 65 72 6e 65 6c 33 32 2e 64 6c 6c 00 00 00 00 00 04 00 00 00 00 00 00 00 01 00 00 00 02 00 2e"
    ++ hex "69 64 61 74 61 24 32 00 00 00 00 01 00 00 00 68 00 2e 69 64 61 74 61 24 36 00 00 00 00 02 00 00 00 03 00 2e"
    ++ hex "69 64 61 74 61 24 34 00 00 00 00 00 00 00 00 68 00 2e 69 64 61 74 61 24 35 00 00 00 00 00 00 00 00 68 00 00"
    ++ hex "00 00 00 21 00 00 00 00 00 00 00 00 00 00 00 02 00 00 00 00 00 3a 00 00 00 00 00 00 00 00 00 00 00 02 00 54"
    ++ hex "00 00 00 5f 5f 49 4d 50 4f 52 54 5f 44 45 53 43 52 49 50 54 4f 52 5f 6b 65 72 6e 65 6c 33 32 00 5f 5f 4e 55"
    ++ hex "4c 4c 5f 49 4d 50 4f 52 54 5f 44 45 53 43 52 49 50 54 4f 52 00 7f 6b 65 72 6e 65 6c 33 32 5f 4e 55 4c 4c 5f"
    ++ hex "54 48 55 4e 4b 5f 44 41 54 41 00 0a 6b 65 72 6e 65 6c 33 32 2e 64 6c 6c 2f 20 20 20 30 20 20 20 20 20 20 20"
    ++ hex "20 20 20 20 30 20 20 20 20 20 30 20 20 20 20 20 36 34 34 20 20 20 20 20 31 32 37 20 20 20 20 20 20 20 60 0a"
    ++ hex "64 86 01 00 00 00 00 00 50 00 00 00 01 00 00 00 00 00 00 00 2e 69 64 61 74 61 24 33 00 00 00 00 00 00 00 00"
    ++ hex "14 00 00 00 3c 00 00 00 00 00 00 00 00 00 00 00 00 00 00 00 40 00 30 c0 00 00 00 00 00 00 00 00 00 00 00 00"
    ++ hex "00 00 00 00 00 00 00 00 00 00 00 00 04 00 00 00 00 00 00 00 01 00 00 00 02 00 1d 00 00 00 5f 5f 4e 55 4c 4c"
    ++ hex "5f 49 4d 50 4f 52 54 5f 44 45 53 43 52 49 50 54 4f 52 00 0a 6b 65 72 6e 65 6c 33 32 2e 64 6c 6c 2f 20 20 20"
    ++ hex "30 20 20 20 20 20 20 20 20 20 20 20 30 20 20 20 20 20 30 20 20 20 20 20 36 34 34 20 20 20 20 20 31 36 34 20"
    ++ hex "20 20 20 20 20 20 60 0a 64 86 02 00 00 00 00 00 74 00 00 00 01 00 00 00 00 00 00 00 2e 69 64 61 74 61 24 35"
    ++ hex "00 00 00 00 00 00 00 00 08 00 00 00 64 00 00 00 00 00 00 00 00 00 00 00 00 00 00 00 40 00 40 c0 2e 69 64 61"
    ++ hex "74 61 24 34 00 00 00 00 00 00 00 00 08 00 00 00 6c 00 00 00 00 00 00 00 00 00 00 00 00 00 00 00 40 00 40 c0"
    ++ hex "00 00 00 00 00 00 00 00 00 00 00 00 00 00 00 00 00 00 00 00 04 00 00 00 00 00 00 00 01 00 00 00 02 00 1e 00"
    ++ hex "00 00 7f 6b 65 72 6e 65 6c 33 32 5f 4e 55 4c 4c 5f 54 48 55 4e 4b 5f 44 41 54 41 00 6b 65 72 6e 65 6c 33 32"
    ++ hex "2e 64 6c 6c 2f 20 20 20 30 20 20 20 20 20 20 20 20 20 20 20 30 20 20 20 20 20 30 20 20 20 20 20 36 34 34 20"
    ++ hex "20 20 20 20 34 35 20 20 20 20 20 20 20 20 60 0a 00 00 ff ff 00 00 64 86 00 00 00 00 19 00 00 00 00 00 04 00"
    ++ hex "45 78 69 74 50 72 6f 63 65 73 73 00 6b 65 72 6e 65 6c 33 32 2e 64 6c 6c 00 0a"

-- the same for I386 (`-m i386`), with ExitProcess@4
abbrev pub i386_kernel_lib : List ℕ
i386_kernel_lib =
    hex "21 3c 61 72 63 68 3e 0a 2f 20 20 20 20 20 20 20 20 20 20 20 20 20 20 20 30 20 20 20 20 20 20 20 20 20 20 20"
    ++ hex "30 20 20 20 20 20 30 20 20 20 20 20 30 20 20 20 20 20 20 20 31 34 30 20 20 20 20 20 20 20 60 0a 00 00 00 05"
    ++ hex "00 00 01 a2 00 00 03 54 00 00 04 10 00 00 04 e8 00 00 04 e8 5f 5f 49 4d 50 4f 52 54 5f 44 45 53 43 52 49 50"
    ++ hex "54 4f 52 5f 6b 65 72 6e 65 6c 33 32 00 5f 5f 4e 55 4c 4c 5f 49 4d 50 4f 52 54 5f 44 45 53 43 52 49 50 54 4f"
    ++ hex "52 00 7f 6b 65 72 6e 65 6c 33 32 5f 4e 55 4c 4c 5f 54 48 55 4e 4b 5f 44 41 54 41 00 5f 5f 69 6d 70 5f 5f 45"
    ++ hex "78 69 74 50 72 6f 63 65 73 73 40 34 00 5f 45 78 69 74 50 72 6f 63 65 73 73 40 34 00 2f 20 20 20 20 20 20 20"
    ++ hex "20 20 20 20 20 20 20 20 30 20 20 20 20 20 20 20 20 20 20 20 30 20 20 20 20 20 30 20 20 20 20 20 30 20 20 20"
    ++ hex "20 20 20 20 31 35 30 20 20 20 20 20 20 20 60 0a 04 00 00 00 a2 01 00 00 54 03 00 00 10 04 00 00 e8 04 00 00"
    ++ hex "05 00 00 00 04 00 01 00 02 00 04 00 03 00 5f 45 78 69 74 50 72 6f 63 65 73 73 40 34 00 5f 5f 49 4d 50 4f 52"
    ++ hex "54 5f 44 45 53 43 52 49 50 54 4f 52 5f 6b 65 72 6e 65 6c 33 32 00 5f 5f 4e 55 4c 4c 5f 49 4d 50 4f 52 54 5f"
    ++ hex "44 45 53 43 52 49 50 54 4f 52 00 5f 5f 69 6d 70 5f 5f 45 78 69 74 50 72 6f 63 65 73 73 40 34 00 7f 6b 65 72"
    ++ hex "6e 65 6c 33 32 5f 4e 55 4c 4c 5f 54 48 55 4e 4b 5f 44 41 54 41 00 6b 65 72 6e 65 6c 33 32 2e 64 6c 6c 2f 20"
    ++ hex "20 20 30 20 20 20 20 20 20 20 20 20 20 20 30 20 20 20 20 20 30 20 20 20 20 20 36 34 34 20 20 20 20 20 33 37"
    ++ hex "33 20 20 20 20 20 20 20 60 0a 4c 01 02 00 00 00 00 00 a3 00 00 00 07 00 00 00 00 00 00 01 2e 69 64 61 74 61"
    ++ hex "24 32 00 00 00 00 00 00 00 00 14 00 00 00 64 00 00 00 78 00 00 00 00 00 00 00 03 00 00 00 40 00 30 c0 2e 69"
    ++ hex "64 61 74 61 24 36 00 00 00 00 00 00 00 00 0d 00 00 00 96 00 00 00 00 00 00 00 00 00 00 00 00 00 00 00 40 00"
    ++ hex "20 c0 00 00 00 00 00 00 00 00 00 00 00 00 00 00 00 00 00 00 00 00 0c 00 00 00 02 00 00 00 07 00 00 00 00 00"
    ++ hex "03 00 00 00 07 00 10 00 00 00 04 00 00 00 07 00 6b 65 72 6e 65 6c 33 32 2e 64 6c 6c 00 00 00 00 00 04 00 00"
    ++ hex "00 00 00 00 00 01 00 00 00 02 00 2e 69 64 61 74 61 24 32 00 00 00 00 01 00 00 00 68 00 2e 69 64 61 74 61 24"
    ++ hex "36 00 00 00 00 02 00 00 00 03 00 2e 69 64 61 74 61 24 34 00 00 00 00 00 00 00 00 68 00 2e 69 64 61 74 61 24"
    ++ hex "35 00 00 00 00 00 00 00 00 68 00 00 00 00 00 21 00 00 00 00 00 00 00 00 00 00 00 02 00 00 00 00 00 3a 00 00"
    ++ hex "00 00 00 00 00 00 00 00 00 02 00 54 00 00 00 5f 5f 49 4d 50 4f 52 54 5f 44 45 53 43 52 49 50 54 4f 52 5f 6b"
    ++ hex "65 72 6e 65 6c 33 32 00 5f 5f 4e 55 4c 4c 5f 49 4d 50 4f 52 54 5f 44 45 53 43 52 49 50 54 4f 52 00 7f 6b 65"
    ++ hex "72 6e 65 6c 33 32 5f 4e 55 4c 4c 5f 54 48 55 4e 4b 5f 44 41 54 41 00 0a 6b 65 72 6e 65 6c 33 32 2e 64 6c 6c"
    ++ hex "2f 20 20 20 30 20 20 20 20 20 20 20 20 20 20 20 30 20 20 20 20 20 30 20 20 20 20 20 36 34 34 20 20 20 20 20"
    ++ hex "31 32 37 20 20 20 20 20 20 20 60 0a 4c 01 01 00 00 00 00 00 50 00 00 00 01 00 00 00 00 00 00 01 2e 69 64 61"
    ++ hex "74 61 24 33 00 00 00 00 00 00 00 00 14 00 00 00 3c 00 00 00 00 00 00 00 00 00 00 00 00 00 00 00 40 00 30 c0"
    ++ hex "00 00 00 00 00 00 00 00 00 00 00 00 00 00 00 00 00 00 00 00 00 00 00 00 04 00 00 00 00 00 00 00 01 00 00 00"
    ++ hex "02 00 1d 00 00 00 5f 5f 4e 55 4c 4c 5f 49 4d 50 4f 52 54 5f 44 45 53 43 52 49 50 54 4f 52 00 0a 6b 65 72 6e"
    ++ hex "65 6c 33 32 2e 64 6c 6c 2f 20 20 20 30 20 20 20 20 20 20 20 20 20 20 20 30 20 20 20 20 20 30 20 20 20 20 20"
    ++ hex "36 34 34 20 20 20 20 20 31 35 36 20 20 20 20 20 20 20 60 0a 4c 01 02 00 00 00 00 00 6c 00 00 00 01 00 00 00"
    ++ hex "00 00 00 01 2e 69 64 61 74 61 24 35 00 00 00 00 00 00 00 00 04 00 00 00 64 00 00 00 00 00 00 00 00 00 00 00"
    ++ hex "00 00 00 00 40 00 30 c0 2e 69 64 61 74 61 24 34 00 00 00 00 00 00 00 00 04 00 00 00 68 00 00 00 00 00 00 00"
    ++ hex "00 00 00 00 00 00 00 00 40 00 30 c0 00 00 00 00 00 00 00 00 00 00 00 00 04 00 00 00 00 00 00 00 01 00 00 00"
    ++ hex "02 00 1e 00 00 00 7f 6b 65 72 6e 65 6c 33 32 5f 4e 55 4c 4c 5f 54 48 55 4e 4b 5f 44 41 54 41 00 6b 65 72 6e"
    ++ hex "65 6c 33 32 2e 64 6c 6c 2f 20 20 20 30 20 20 20 20 20 20 20 20 20 20 20 30 20 20 20 20 20 30 20 20 20 20 20"
    ++ hex "36 34 34 20 20 20 20 20 34 38 20 20 20 20 20 20 20 20 60 0a 00 00 ff ff 00 00 4c 01 00 00 00 00 1c 00 00 00"
    ++ hex "00 00 08 00 5f 45 78 69 74 50 72 6f 63 65 73 73 40 34 00 6b 65 72 6e 65 6c 33 32 2e 64 6c 6c 00"

-- the archive's object on each machine, listed for its function; and the library's members, which
-- are ours
pub record WorkedFiles : Type 0 where
  pub amd64 : HasMembers libquit (quit_member (codes "quit") quit_bytes ∷ [])
  pub i386 : HasMembers i386_libquit (quit_member (codes "_quit") i386_quit_bytes ∷ [])
  pub coff : HasMembersAs Coff kernel_lib (archive_of_both amd64_kernels)
  pub i386_coff : HasMembersAs Coff i386_kernel_lib (archive_of_both i386_kernels)

-- the library and the archive on each machine
abbrev pub amd64_files : List ArchiveFile
amd64_files =
    record { kind = Coff; bytes = kernel_lib } ∷ record { kind = Gnu; bytes = libquit } ∷ []

abbrev pub i386_files : List ArchiveFile
i386_files = record { kind = Coff; bytes = i386_kernel_lib }
    ∷ record { kind = Gnu; bytes = i386_libquit } ∷ []

-- what lld takes, the last one first: the archive's member, and the short import that it wants
abbrev pub lld_taken : List MemberView → List MemberView
lld_taken members = members_at members (3 ∷ 4 ∷ [])

-- On one machine, where these are the members and the object: the members are in the files; lld
-- takes the short import, and so its program arrives; GNU `ld` takes it in an order of its.
pub record WorkedFileLine (machine : MachineType) (libraries : List FlavorLibrary)
    (files : List ArchiveFile)
    (members : List MemberView) (own : List Object) (inputs : List Input) : Type 0 where
  pub members_are : members_in_files files ≡ members
  pub archive : IsMsvcArchive machine (msvc_among libraries)
  pub ready : HaveArchive Coff Second (archive_of (msvc_among libraries))
  pub alike : AreCalledAlike (msvc_among libraries)
  pub lld : SearchesByLld machine (msvc_among libraries) (members_in_files files) own is_quit
      (lld_taken members)
  pub arrives : LldArrives machine (msvc_among libraries)
      (given_with (read_by_lld machine) is_quit own (lld_taken members))
      (others_of is_quit (lld_taken members))
  pub flavors : SearchesFlavors machine libraries (members_in_files files) inputs is_quit
      shorts_taken

pub record WorkedFileLines : Type 0 where
  pub amd64 : WorkedFileLine AMD64 amd64_kernels amd64_files amd64_shorts (read_or_none wants_bytes)
      (shorts_last (read_or_none wants_bytes))
  pub i386 : WorkedFileLine I386 i386_kernels i386_files i386_shorts (read_or_none i386_wants_bytes)
      (shorts_grouped (read_or_none i386_wants_bytes))
