-- The programs by hand, loaded and called, by computing and by the laws.
use Rattle.implib.specs.Link.Image.{IsAdmissible, Range, image_of}
use Rattle.implib.specs.declared.machine.MachineType.{MachineType}
use Rattle.implib.specs.Formats.Object.{Object}
use Rattle.implib.specs.Link.LinkedMembers.{IsMade, all_linked, objects_in}
use Rattle.implib.proofs.Link.LinkedInputs.{gnu_inputs_link}
use Rattle.implib.specs.Link.Placement.{Bases, placed_from}
use Rattle.std.specs.List.{AllByRecursion}
use Rattle.std.proofs.Common.{◌≡◌, ℕ, List, [], ◌∷◌, length, map, refl, subst, sym, ◌∙◌}
use Rattle.implib.specs.declared.machine.MachineType.TheVariants.{AMD64, I386}
use Rattle.implib.specs.Import.{Ask, Name, Ordinal}
use Rattle.implib.specs.Members.GnuMembers.{alias_specs}
use Rattle.implib.specs.Members.ImportTables.{thunk_width}
use Rattle.implib.specs.Members.WeakExternal.{weak_object}
use Rattle.implib.specs.Formats.Layout.{encoded_size}
use Rattle.implib_link.specs.Directory.{imported}
use Rattle.implib_link.specs.Gnu.Writing.{Writes, entries_written}
use Rattle.implib_link.specs.Flavors.Program.{has_tables, IsProgram, Ending, FlavorInput, IsMadeFor, IsProgramOf, OfLinker, gnu_input, imported_in}
use Rattle.implib_link.proofs.Tables.{packed_imports, tables_load, inputs_blocks, program_tables}
use Rattle.implib_link.specs.Tables.{AreTablesLoaded, block_of_flavor, tables_at}
use Rattle.implib_link_instances.specs.Worked.Files.{WorkedLoad, WorkedLoads, gives_by_hand, written_4, written_8}
use Rattle.implib_link_instances.specs.Worked.Programs.{both_inputs, program_image, program_objects, touching_4, touching_8}
use Rattle.implib_link.proofs.Gnu.Loaded.{directory_walk}
use Rattle.implib_link.proofs.Flavors.Program.{program_links}
use Rattle.implib_link_instances.proofs.Worked.Programs.{admissible_by, opened, worked_programs}
use Rattle.implib_link_instances.proofs.Worked.Lemmas.{number}

-- a loader that is handed the imports loads the tables
pub program_loaded : (machine : MachineType) (ending : Ending) (bases : Bases) (inputs : List FlavorInput) (objects : List Object) (gives : List ℕ → Ask → List ℕ) (written : List Range) →
    AllByRecursion (IsMadeFor machine) inputs → IsProgramOf machine ending bases inputs objects → ((dll : List ℕ) (ask : Ask) → length (gives dll ask) ≡ thunk_width machine) →
    Writes (image_of machine bases (placed_from bases objects)) (thunk_width machine) gives bases.descriptors (map (imported_in machine) inputs) written →
    AreTablesLoaded machine (tables_at machine bases objects (map (block_of_flavor machine) inputs)) gives written
program_loaded machine ending bases inputs objects gives written made program wide writes =
    tables_load machine gives wide (tables_at machine bases objects (map (block_of_flavor machine) inputs)) written (program_tables machine ending bases inputs objects made program)
    (subst (λ is. Writes (image_of machine bases (placed_from bases objects)) (thunk_width machine) gives bases.descriptors is written)
    (sym (packed_imports (thunk_width machine) (map (block_of_flavor machine) inputs) bases.addresses ∙ inputs_blocks machine inputs)) writes)

-- what is worked of a program, where its own writes are computed
worked : (machine : MachineType) (bases : Bases) (written : List Range) → AllByRecursion (IsMade machine) (both_inputs machine) → IsProgram machine bases (both_inputs machine) (program_objects machine) →
    IsAdmissible machine bases (objects_in (all_linked machine (both_inputs machine))) →
    ((dll : List ℕ) (ask : Ask) → length (gives_by_hand machine dll ask) ≡ thunk_width machine) →
    Writes (program_image machine bases) (thunk_width machine) (gives_by_hand machine) bases.descriptors (map (imported machine) (both_inputs machine)) written → WorkedLoad machine bases written
worked machine bases written made program admissible given writes =
    let links = program_links machine OfLinker bases (map gnu_input (both_inputs machine)) (program_objects machine) made program in
    record {
      links = links;
      any_order = gnu_inputs_link machine bases (both_inputs machine) made program.held.distinct admissible;
      walk = directory_walk (program_image machine bases) (thunk_width machine) bases.descriptors (map (imported machine) (both_inputs machine)) links.directory;
      given = given;
      writes = writes;
      loaded = program_loaded machine OfLinker bases (map gnu_input (both_inputs machine)) (program_objects machine) (gives_by_hand machine) written made program given writes;
    }

pub given : (machine : MachineType) (dll : List ℕ) (ask : Ask) → length (gives_by_hand machine dll ask) ≡ thunk_width machine
given I386 dll (Ordinal n) = refl
given machine dll (Ordinal n) = refl
given I386 dll (Name text hint) = refl
given machine dll (Name text hint) = refl

amd64_writes : Writes (program_image AMD64 touching_8) (thunk_width AMD64) (gives_by_hand AMD64) touching_8.descriptors (map (imported AMD64) (both_inputs AMD64)) (written_8 AMD64)
unfolding opened alias_specs encoded_size weak_object has_tables Writes entries_written
amd64_writes = (
  120,
  (number (program_image AMD64 touching_8) 4 20 120 (120 ∷ 0 ∷ 0 ∷ 0 ∷ []) refl refl refl, (_, (refl, (160, (number (program_image AMD64 touching_8) 4 40 160 (160 ∷ 0 ∷ 0 ∷ 0 ∷ []) refl refl refl, ([], (refl, refl))))))),
)

i386_writes : Writes (program_image I386 touching_4) (thunk_width I386) (gives_by_hand I386) touching_4.descriptors (map (imported I386) (both_inputs I386)) (written_4 I386)
unfolding opened alias_specs encoded_size weak_object has_tables Writes entries_written
i386_writes = (
  92,
  (number (program_image I386 touching_4) 4 20 92 (92 ∷ 0 ∷ 0 ∷ 0 ∷ []) refl refl refl, (_, (refl, (112, (number (program_image I386 touching_4) 4 40 112 (112 ∷ 0 ∷ 0 ∷ 0 ∷ []) refl refl refl, ([], (refl, refl))))))),
)

amd64_admissible : IsAdmissible AMD64 touching_8 (objects_in (all_linked AMD64 (both_inputs AMD64)))
unfolding opened alias_specs encoded_size weak_object
amd64_admissible = admissible_by refl refl

i386_admissible : IsAdmissible I386 touching_4 (objects_in (all_linked I386 (both_inputs I386)))
unfolding opened alias_specs encoded_size weak_object
i386_admissible = admissible_by refl refl

pub worked_loads : WorkedLoads
worked_loads = record {
  amd64 = worked AMD64 touching_8 (written_8 AMD64) worked_programs.amd64.made worked_programs.amd64.program amd64_admissible (given AMD64) amd64_writes;
  i386 = worked I386 touching_4 (written_4 I386) worked_programs.i386.made worked_programs.i386.program i386_admissible (given I386) i386_writes;
}
