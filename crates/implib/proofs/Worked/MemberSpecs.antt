-- The worked specifications, by computing.
use Rattle.std.proofs.Common.{refl}
use Rattle.implib.specs.declared.machine.MachineType.{MachineType}
use Rattle.implib.specs.declared.machine.MachineType.TheVariants.{I386, ARMNT, AMD64, ARM64}
use Rattle.implib.specs.Members.Gnu.{head_name, numbered_name, tail_name}
use Rattle.implib.specs.Members.GnuMembers.{alias_specs, export_spec, head_spec, tail_spec}
use Rattle.implib.specs.Members.MsvcMembers.{descriptor_spec, header_specs, null_descriptor_spec, null_thunk_spec, weak_specs}
use Rattle.implib.specs.Worked.MemberSpecs.{WorkedLists, WorkedMemberSpecs}
use Rattle.implib.proofs.Worked.Tables.{opened}

pub worked_member_specs : (machine : MachineType) → WorkedMemberSpecs machine
unfolding opened head_name numbered_name tail_name alias_specs descriptor_spec export_spec head_spec header_specs null_descriptor_spec null_thunk_spec tail_spec weak_specs
worked_member_specs I386 = record { for_microsoft = refl; for_gnu = refl }
worked_member_specs ARMNT = record { for_microsoft = refl; for_gnu = refl }
worked_member_specs AMD64 = record { for_microsoft = refl; for_gnu = refl }
worked_member_specs ARM64 = record { for_microsoft = refl; for_gnu = refl }

pub worked_lists : (machine : MachineType) → WorkedLists machine
unfolding opened descriptor_spec header_specs null_descriptor_spec null_thunk_spec weak_specs
worked_lists I386 = record { header = refl; imports = refl; aliases = refl }
worked_lists ARMNT = record { header = refl; imports = refl; aliases = refl }
worked_lists AMD64 = record { header = refl; imports = refl; aliases = refl }
worked_lists ARM64 = record { header = refl; imports = refl; aliases = refl }
