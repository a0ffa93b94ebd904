-- Data and code that name `open` by its bare name, by computing.
use Rattle.std.proofs.Common.{◌^◌, refl, inl, arith}
use Rattle.implib.specs.declared.machine.MachineType.{MachineType}
use Rattle.implib.specs.declared.machine.MachineType.TheVariants.{AMD64, ARM64, ARMNT, I386}
use Rattle.implib.specs.Formats.Constants.{class_external}
use Rattle.implib.specs.Formats.Layout.{encoded_size}
use Rattle.implib.specs.Members.GnuMembers.{alias_specs}
use Rattle.implib.specs.Members.Members.{refusal, renamed_refusal}
use Rattle.implib.specs.Members.WeakExternal.{weak_object}
use Rattle.implib.proofs.Link.Ranges.{apart_as_they_rise}
use Rattle.implib_link.specs.Gnu.Fields.{Names}
use Rattle.implib_link.specs.Flavors.Program.{has_tables}
use Rattle.implib_link_instances.specs.Worked.Operands.{open_on}
use Rattle.implib_link_instances.specs.Worked.Programs.{both_inputs, symbol_of_class, touching_8}
use Rattle.implib_link_instances.specs.Worked.Stored.{WorkedRegistered, WorkedRegistering, registered_stub_at, registering_at, registering_codes, registering_memory, registering_placed, registering_targets}
use Rattle.implib_link_instances.proofs.Worked.Programs.{relocated_by, relocated_test, takes_by, admissible_by, opened, program_by}
use Rattle.implib_link_instances.proofs.Worked.Stored.{further_by, further_test}
use Rattle.implib_link_instances.proofs.Worked.Lemmas.{IsWide, based_type, whole_type}

-- what names `open` as the symbol 1
names : (machine : MachineType) → Names (registering_at machine).from 1 (open_on machine)
names machine = record { symbol = symbol_of_class (open_on machine) 0 class_external; target = refl; undefined = refl; named = refl }

worked : (machine : MachineType) → IsWide machine → WorkedRegistered machine 0x1_8000_0000 touching_8 (registering_memory machine touching_8) 0x80 16
unfolding opened refusal renamed_refusal alias_specs encoded_size weak_object has_tables relocated_test further_test
worked I386 none = absurd none
worked ARMNT none = absurd none
worked machine _ = record {
  program = program_by (both_inputs machine) refl refl refl (admissible_by refl refl);
  at = inl (
    record {
      held = ((3, omega arith, refl), ((0, omega arith, refl), tt));
      sections = (refl, (refl, tt));
      ends = (omega arith, (omega arith, tt));
      apart = apart_as_they_rise (2 ^ 31) (registering_memory machine touching_8) refl;
      relocated = (relocated_by machine 0x1_8000_0000 ((registering_targets machine touching_8) (registered_stub_at machine touching_8)) 0x1040 (registered_stub_at machine touching_8).code (registered_stub_at machine touching_8).bytes refl, (relocated_by machine 0x1_8000_0000 ((registering_targets machine touching_8) (registering_at machine)) 0x2010 (registering_at machine).code (registering_at machine).bytes refl, tt));
      resolved = takes_by machine (registering_placed machine touching_8) (registering_codes machine touching_8) refl refl;
    },
    (further_by machine 0x1_8000_0000 (registering_codes machine touching_8) (registering_targets machine touching_8) refl, refl),
  );
  stub = record { bytes = refl; relocations = refl; begins = refl; symbol = _; held = refl; placed = refl };
  defines = record { held = (1, omega arith, refl); external = refl; here = refl };
  pointer = grind (arith, whole_type machine, names machine);
  relative = grind (arith, based_type machine, names machine);
}

pub worked_registering : WorkedRegistering
worked_registering = record {
  amd64 = worked AMD64 tt;
  arm64 = worked ARM64 tt;
  arm64_page = record { field = record { symbol = 1; alone = refl; inside = omega arith; names = names ARM64 }; empty = refl };
  arm64_add = record { field = record { symbol = 1; alone = refl; inside = omega arith; names = names ARM64 }; adds = refl; empty = refl };
}
