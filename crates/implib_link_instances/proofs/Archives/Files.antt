-- The archives that were read by hand, by computing.
use Rattle.std.proofs.Common.{arith, List, [], ap, codes, refl, subst, sym, ◌++◌, ◌∙◌, ◌∷◌, ◌≡◌, ℕ}
use Rattle.implib_archive.specs.Leads.{headers_among, headers_in, with_header}
use Rattle.implib_archive.specs.Reader.{data_at, first_in, linker_data, linker_in, long_name, long_name_at, long_names_in, long_names_or, member_at, name_in, number_in, numbers_in, paired, read_as, stored_at, stored_from, stored_in, texts_in, trimmed}
use Rattle.implib_link.specs.Archives.Files.{ArchiveFile, HasMembersAs, entries_by, entries_in, member_after, members_in_files, members_read, members_read_as, symbols_at}
use Rattle.implib.specs.Worked.Digits.{bytes_of_digits}
use Rattle.implib_archive.specs.declared.kind.Kind.TheVariants.{Coff}
use Rattle.implib_link.specs.Search.Libraries.{FlavorLibrary, archive_of_both, msvc_among, IsMsvcArchive, symbols_of_shorts}
use Rattle.implib_link_instances.specs.Archives.Files.{WorkedFileLine, WorkedFileLines, WorkedFiles, amd64_files, i386_files, i386_kernel_lib, i386_libquit, kernel_lib, libquit, lld_taken}
use Rattle.implib_link_instances.specs.Worked.CommandLines.{amd64_kernels, i386_kernels, shorts_taken, is_quit}
use Rattle.implib_link_instances.proofs.Worked.Search.{searched, archived}
use Rattle.std.specs.Prelude.{bytes_eq, drop, if◌then◌else◌, slice_get}
use Rattle.std.specs.List.{IsDistinct, flat_map}
use Rattle.implib.specs.declared.machine.MachineType.{MachineType}
use Rattle.implib.specs.declared.machine.MachineType.TheVariants.{AMD64, ARM64, ARMNT, I386}
use Rattle.implib.specs.Machine.{is_32bit}
use Rattle.implib.specs.Definition.{empty_definition}
use Rattle.implib.specs.Members.MsvcObjects.{null_descriptor_symbol}
use Rattle.implib_link.specs.Archives.Ways.{SearchesByLld, AreCalledAlike, read_by_lld}
use Rattle.implib_link.proofs.Archives.Ways.{files_lead_to_lld}
use Rattle.implib_link.specs.Search.Search.{Library, AreTakenIntoAs, TakesIntoAs, listed_in}
use Rattle.implib_link.specs.Search.CommandLines.{AreListedWhole, SearchesFlavors, names_left}
use Rattle.implib_link.proofs.Search.CommandLines.{are_first_of_distinct, taken_are}
use Rattle.implib_link_instances.proofs.Worked.CommandLines.{ended_by, exit, member_or_none, object_at, own, pulls_by, whole_by}
use Rattle.implib_link_instances.proofs.Worked.FlavorLines.{kernels, line, shorts, worked}
use Rattle.implib_link_instances.proofs.Worked.Lemmas.{IsX86}
use Rattle.implib_link_instances.proofs.Worked.Programs.{claims_none_by, distinct_by}

-- what the computing has to open
unfoldable pub opened_files : Unit {0}
unfolding headers_among headers_in with_header data_at first_in linker_data linker_in long_name long_name_at long_names_in long_names_or member_at name_in number_in numbers_in paired read_as stored_at stored_from stored_in texts_in trimmed entries_by entries_in member_after members_read_as symbols_at
opened_files = tt

pub kernel : HasMembersAs Coff kernel_lib (archive_of_both amd64_kernels)
unfolding opened_files searched bytes_of_digits
kernel = record { headers = 406 ∷ 840 ∷ 1028 ∷ 1252 ∷ []; located = refl; read = refl; ordered = refl }

pub i386_kernel : HasMembersAs Coff i386_kernel_lib (archive_of_both i386_kernels)
unfolding opened_files searched bytes_of_digits
i386_kernel = record { headers = 418 ∷ 852 ∷ 1040 ∷ 1256 ∷ []; located = refl; read = refl; ordered = refl }

pub worked_files : WorkedFiles
unfolding opened_files
worked_files = record {
  amd64 = record { headers = 82 ∷ []; located = refl; read = refl; ordered = refl };
  i386 = record { headers = 82 ∷ []; located = refl; read = refl; ordered = refl };
  coff = kernel;
  i386_coff = i386_kernel;
}

one_alike : (l : Library) → AreCalledAlike (l ∷ [])
one_alike l first second held also same = grind arith

-- the library of kernel32.dll
abbrev kernel_of : List FlavorLibrary → Library
kernel_of [] = record { definition = empty_definition; members = [] }
kernel_of (l ∷ libraries) = l.library

-- what the archive's object defines, and the files
abbrev quit : MachineType → List ℕ
quit machine = if is_32bit machine then codes "_quit" else codes "quit"

abbrev files : MachineType → List ArchiveFile
files machine = if is_32bit machine then i386_files else amd64_files

members_are : (machine : MachineType) → IsX86 machine → members_in_files (files machine) ≡ shorts machine
unfolding searched
members_are I386 _ = ap (λ ms. ms ++ (members_read i386_libquit ++ [])) i386_kernel.read ∙ ap (λ ms. archive_of_both i386_kernels ++ (ms ++ [])) worked_files.i386.read
members_are AMD64 _ = ap (λ ms. ms ++ (members_read libquit ++ [])) kernel.read ∙ ap (λ ms. archive_of_both amd64_kernels ++ (ms ++ [])) worked_files.amd64.read
members_are _ none = absurd none

worked_line : (machine : MachineType) → IsX86 machine → WorkedFileLine machine (kernels machine) (files machine) (shorts machine) (own machine) (line machine)
unfolding searched read_by_lld AreTakenIntoAs archived
worked_line ARMNT none = absurd none
worked_line ARM64 none = absurd none
worked_line machine is = record {
  members_are = members_are machine is;
  archive = archive;
  ready = record { accepted = refl; has = tt };
  alike = alike;
  lld = lld;
  arrives = files_lead_to_lld machine (msvc_among (kernels machine)) (files machine) (own machine) is_quit (lld_taken (shorts machine)) lld archive alike;
  flavors = subst (λ ms. SearchesFlavors machine (kernels machine) ms (line machine) is_quit shorts_taken) (sym (members_are machine is)) (worked machine is).searches;
}
  where
    alike : AreCalledAlike (msvc_among (kernels machine))
    alike = one_alike (kernel_of (kernels machine))

    lld_whole : AreListedWhole (read_by_lld machine) (shorts machine)
    lld_whole = whole_by (read_by_lld machine) (shorts machine) (refl, (refl, (refl, (refl, (refl, tt)))))

    by_lld : TakesIntoAs (read_by_lld machine) (shorts machine) (own machine) (lld_taken (shorts machine))
    by_lld = record {
      in_turn = (
        (exit machine, pulls_by (read_by_lld machine) (shorts machine) (own machine) (drop 1 (lld_taken (shorts machine))) (exit machine) (member_or_none (slice_get (shorts machine) 3)) refl refl refl),
        ((quit machine, pulls_by (read_by_lld machine) (shorts machine) (own machine) [] (quit machine) (member_or_none (slice_get (shorts machine) 4)) refl refl refl), tt),
      );
      ended = ended_by (read_by_lld machine) (shorts machine) (own machine) (lld_taken (shorts machine)) refl;
    }

    archive : IsMsvcArchive machine (msvc_among (kernels machine))
    archive = record {
      made = (record { accepted = refl; made = refl; ordinals = refl }, tt);
      distinct = distinct_by (null_descriptor_symbol ∷ flat_map symbols_of_shorts (msvc_among (kernels machine))) refl;
      found = (refl, tt);
    }

    lld_distinct : IsDistinct bytes_eq (listed_in (shorts machine))
    lld_distinct = distinct_by (listed_in (shorts machine)) refl

    searches_by_lld : SearchesByLld machine (msvc_among (kernels machine)) (shorts machine) (own machine) is_quit (lld_taken (shorts machine))
    searches_by_lld = record {
      libraries_are = refl;
      first = are_first_of_distinct (shorts machine) (names_left (read_by_lld machine) (own machine) (lld_taken (shorts machine))) (lld_taken (shorts machine)) lld_distinct (taken_are (read_by_lld machine) (shorts machine) (own machine) lld_whole (lld_taken (shorts machine)) by_lld.in_turn);
      whole = lld_whole;
      unclaimed = (claims_none_by (listed_in (lld_taken (shorts machine))) (object_at (own machine) 0) refl, tt);
      searches = by_lld;
    }

    lld : SearchesByLld machine (msvc_among (kernels machine)) (members_in_files (files machine)) (own machine) is_quit (lld_taken (shorts machine))
    lld = subst (λ ms. SearchesByLld machine (msvc_among (kernels machine)) ms (own machine) is_quit (lld_taken (shorts machine))) (sym (members_are machine is)) searches_by_lld

pub worked_file_lines : WorkedFileLines
worked_file_lines = record { amd64 = worked_line AMD64 tt; i386 = worked_line I386 tt }
