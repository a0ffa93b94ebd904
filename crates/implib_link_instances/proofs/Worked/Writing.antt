-- A loader that writes as it goes, by hand, by computing and by the law.
use Rattle.implib.specs.Link.LinkedMembers.{IsMade}
use Rattle.std.specs.List.{AllByRecursion}
use Rattle.implib.specs.Link.Placement.{Bases}
use Rattle.implib_link_instances.specs.Worked.Operands.{moved_memory, passing_codes, passing_objects, passing_targets, given_on}
use Rattle.implib_link_instances.proofs.Worked.Programs.{worked_operands, opened, worked_programs}
use Rattle.std.proofs.Common.{◌≡◌, ℕ, List, ◌++◌, length, map, refl, ◌∙◌, subst}
use Rattle.implib.specs.declared.machine.MachineType.{MachineType}
use Rattle.implib.specs.declared.machine.MachineType.TheVariants.{I386, AMD64}
use Rattle.implib.specs.Formats.Layout.{encoded_size}
use Rattle.implib.specs.Import.{Ask}
use Rattle.implib.specs.Link.Image.{Range}
use Rattle.implib.specs.Members.GnuMembers.{alias_specs}
use Rattle.implib.specs.Members.ImportTables.{thunk_width}
use Rattle.implib.specs.Members.WeakExternal.{weak_object}
use Rattle.implib_link.specs.Directory.{Imported, imported}
use Rattle.implib_link.specs.Flavors.Program.{has_tables, IsProgram, OfLinker, gnu_input}
use Rattle.implib_link.specs.Gnu.Writing.{WritesAsItGoes}
use Rattle.implib_link_instances.specs.Worked.Files.{gives_by_hand, WorkedWriting, WorkedWritings, left_4, left_8}
use Rattle.implib_link_instances.specs.Worked.Programs.{both_inputs, program_image, program_objects, touching_4, touching_8}
use Rattle.implib_link.proofs.Gnu.Filling.{all_filled, table_filled}
use Rattle.implib_link.proofs.Gnu.Loaded.{Keeps}
use Rattle.implib_link.proofs.Flavors.Steady.{run_can, run_once, program_beside, program_long, writer_ends, writer_loads}
use Rattle.implib_link_instances.proofs.Worked.Calls.{wide}
use Rattle.implib_link_instances.proofs.Worked.Loads.{given}

keeps_itself : (image : List Range) → Keeps image image
unfolding Keeps
keeps_itself image a byte is = is

abbrev imports : MachineType → List Imported
imports machine = map (imported machine) (both_inputs machine)

-- what is worked of a program, and what is left by computing
worked : (machine : MachineType) (bases : Bases) (left : List Range) → AllByRecursion (IsMade machine) (both_inputs machine) → IsProgram machine bases (both_inputs machine) (program_objects machine) →
    ((dll : List ℕ) (ask : Ask) → length (gives_by_hand machine dll ask) ≡ thunk_width machine) →
    all_filled (thunk_width machine) (gives_by_hand machine) bases.addresses (imports machine) (program_image machine bases) ≡ left ++ program_image machine bases → WorkedWriting machine bases left
worked machine bases left made program given is =
    let long = program_long machine OfLinker bases (map gnu_input (both_inputs machine)) (program_objects machine) made program in
    let beside = program_beside machine OfLinker bases (map gnu_input (both_inputs machine)) (program_objects machine) made program in
    let image : List Range = program_image machine bases in
    record {
      runs = subst (WritesAsItGoes (thunk_width machine) (gives_by_hand machine) bases.descriptors image (imports machine)) is
          (run_can machine bases (program_objects machine) program.admissible (imports machine) long beside (gives_by_hand machine) given image (keeps_itself image));
      once = λ found after runs.
          let same = run_once machine bases (program_objects machine) program.admissible (imports machine) long beside (gives_by_hand machine) given image (keeps_itself image) found after runs in
          (same.0, same.1 ∙ is);
    }

amd64_left : all_filled 8 (gives_by_hand AMD64) 120 (imports AMD64) (program_image AMD64 touching_8) ≡ left_8 AMD64 ++ program_image AMD64 touching_8
unfolding opened alias_specs encoded_size weak_object has_tables all_filled table_filled
amd64_left = refl

amd64 : WorkedWriting AMD64 touching_8 (left_8 AMD64)
amd64 = worked AMD64 touching_8 (left_8 AMD64) worked_programs.amd64.made worked_programs.amd64.program (given AMD64) amd64_left

i386_left : all_filled 4 (gives_by_hand I386) 92 (imports I386) (program_image I386 touching_4) ≡ left_4 I386 ++ program_image I386 touching_4
unfolding opened alias_specs encoded_size weak_object has_tables all_filled table_filled
i386_left = refl

i386 : WorkedWriting I386 touching_4 (left_4 I386)
i386 = worked I386 touching_4 (left_4 I386) worked_programs.i386.made worked_programs.i386.program (given I386) i386_left

pub worked_writings : WorkedWritings
worked_writings = record {
  amd64 = amd64;
  i386 = i386;
  moved = writer_loads I386 OfLinker 0x1000_0000 touching_4 (map gnu_input (both_inputs I386)) (passing_objects I386) (passing_codes I386 touching_4) (passing_targets I386 touching_4) (moved_memory I386 touching_4) (given_on I386)
      worked_programs.i386.made worked_operands.i386_moved.program worked_operands.i386_moved.at (wide I386);
  moved_end = writer_ends I386 OfLinker 0x1000_0000 touching_4 (map gnu_input (both_inputs I386)) (passing_objects I386) (passing_codes I386 touching_4) (passing_targets I386 touching_4) (moved_memory I386 touching_4) (given_on I386)
      worked_programs.i386.made worked_operands.i386_moved.program worked_operands.i386_moved.at (wide I386);
}
