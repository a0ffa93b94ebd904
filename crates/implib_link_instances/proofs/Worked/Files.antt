-- Files that linkers wrote, by computing.
use Rattle.std.proofs.Common.{Bool, List, [], arith, refl, true, ℕ, ◌++◌, ◌∷◌, ◌≡◌}
use Rattle.std.specs.List.{AllByRecursion, list_all}
use Rattle.std.proofs.lemmas.Bool.{and_parts}
use Rattle.implib.specs.declared.machine.MachineType.{MachineType}
use Rattle.implib.specs.declared.machine.MachineType.TheVariants.{AMD64, ARM64, ARMNT, I386}
use Rattle.implib.specs.Machine.{is_32bit}
use Rattle.std.specs.Prelude.{if◌then◌else◌}
use Rattle.implib.specs.Link.Image.{Range}
use Rattle.implib.specs.Link.Load.{BytesAt}
use Rattle.implib_dll.specs.Bytes.{bytes_at, u16_at, u32_at}
use Rattle.implib_dll.specs.Digits.{bytes_of_digits}
use Rattle.implib_dll.specs.Headers.{entry_in, header_at, header_for, header_with, signature_in}
use Rattle.implib_dll.specs.Outcome.{each_from}
use Rattle.implib_dll.specs.Sections.{contents_at, section_at}
use Rattle.implib_link.specs.Image.Files.{mapped_file}
use Rattle.implib_link.specs.Gnu.Fields.{ranges_of_codes}
use Rattle.implib_link_instances.specs.Worked.Files.{WorkedFile, WorkedFiles, WorkedHeaders, amd64_headers, arm64_headers, file_on, gnu_data, gnu_file, gnu_headers, gnu_idata, gnu_mapped, gnu_reloc, gnu_text, i386_headers, mapped_on}
use Rattle.implib_link_instances.specs.Worked.Programs.{addresses_on, lld_image_on, shorts_on}
use Rattle.implib_link_instances.specs.Worked.Stored.{holding_codes, holding_placed}
use Rattle.implib_link.proofs.Tables.{lld_tables}
use Rattle.implib_link_instances.proofs.Worked.Programs.{lld_opened}
use Rattle.implib_link_instances.proofs.Worked.Stored.{holding_beside, holding_further, holding_program}
use Rattle.implib_link_instances.proofs.Worked.Lemmas.{IsX86, NotThumb, are_located, differ, is_each_located}
use Rattle.implib.specs.Import.{Ask}
use Rattle.implib_dll.specs.WorkedFiles.{worked_pe32}

-- what the computing has to open
unfoldable pub file_opened : Unit {0}
unfolding bytes_at bytes_of_digits contents_at each_from entry_in header_at header_for header_with section_at signature_in u16_at u32_at mapped_file file_on i386_headers amd64_headers arm64_headers gnu_file gnu_headers gnu_text gnu_data gnu_idata gnu_reloc
file_opened = tt

-- whether memory has the bytes of a range
abbrev is_held : List Range → Range → Bool
is_held memory r = is_each_located memory r.start r.bytes

pub holds_by : (memory ranges : List Range) → list_all (is_held memory) ranges ≡ true → AllByRecursion (λ (r : Range). BytesAt memory r.start r.bytes) ranges
holds_by memory [] test = tt
holds_by memory (r ∷ ranges) test = grind (arith, holds_by memory ranges, and_parts, are_located)

file : (machine : MachineType) → IsX86 machine → NotThumb machine → WorkedFile machine (addresses_on machine) (if is_32bit machine then 0x14 else 0x28)
unfolding lld_opened file_opened
file ARMNT none _ = absurd none
file ARM64 none _ = absurd none
file machine _ is = record {
  is = record { mapped = refl; made_for = refl; width = refl; directory = refl; holds = holds_by (mapped_on machine).image (lld_image_on machine ++ ranges_of_codes (holding_codes machine)) refl };
  beside = holding_beside machine is;
  further = holding_further machine is;
  tables = lld_tables machine 0x2000 (addresses_on machine) (shorts_on machine) (lld_image_on machine) (holding_placed machine) (holding_program machine is);
  addresses = refl;
  inside = ((omega arith, omega arith), ((omega arith, omega arith), tt));
  exact = refl;
}

pub worked_files : WorkedFiles
unfolding file_opened
worked_files = record {
  i386 = file I386 tt tt;
  amd64 = file AMD64 tt tt;
  gnu = record { mapped = refl; made_for = refl; width = refl; directory = refl; holds = holds_by gnu_mapped.image (record { start = 0x3000; bytes = gnu_idata } ∷ []) refl };
}

-- the files have their tables in memory

pub worked_headers : (gives : List ℕ → Ask → List ℕ) → WorkedHeaders gives
unfolding lld_opened file_opened worked_pe32
worked_headers gives = grind (arith, differ)
