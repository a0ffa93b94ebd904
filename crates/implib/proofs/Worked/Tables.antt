-- The worked tables, by computing.
use Rattle.std.proofs.Common.{arith, refl}
use Rattle.std.specs.Fmt.{digits}
use Rattle.implib.specs.declared.machine.MachineType.{MachineType}
use Rattle.implib.specs.declared.machine.MachineType.TheVariants.{I386, ARMNT, AMD64, ARM64}
use Rattle.implib.specs.Formats.Bytes.{u16_bytes, u32_bytes}
use Rattle.implib.specs.Members.Gnu.{export_object, five_digits, head_name, head_object, head_symbol, hint_name, iname_symbol, relocations_of_stub, relocations_of_thunk, mangled_name, numbered_name, stub, tail_name, tail_object, thunk}
use Rattle.implib.specs.Members.MsvcObjects.{base_name, descriptor, descriptor_symbol, null_descriptor, null_descriptor_symbol, null_thunk, null_thunk_symbol}
use Rattle.implib.specs.Members.WeakExternal.{weak_object}
use Rattle.implib.specs.Formats.Writer.{long_names, name_location, layout_of, symbol_written, with_long_name, with_name}
use Rattle.implib.specs.Worked.Digits.{bytes_of_digits}
use Rattle.implib.specs.Worked.Objects as worked
use Rattle.implib.specs.Worked.Tables.{WorkedMsvcTables, WorkedGnuTables, WorkedGnuNames, WorkedNames, WorkedRecords, WorkedNameTypes, WorkedAskedNames}

-- what the computing has to open
unfoldable pub opened : Unit {0}
unfolding bytes_of_digits base_name descriptor_symbol null_descriptor_symbol null_thunk_symbol descriptor null_descriptor null_thunk weak_object export_object head_object tail_object head_symbol iname_symbol mangled_name stub relocations_of_stub thunk relocations_of_thunk hint_name five_digits head_name tail_name numbered_name digits long_names name_location layout_of symbol_written with_long_name with_name u16_bytes u32_bytes worked.descriptor worked.null_descriptor worked.null_thunk worked.weak worked.head worked.tail worked.function worked.function_asking worked.function_by_ordinal worked.variable worked.variable_by_ordinal
opened = tt

pub worked_msvc_tables : (machine : MachineType) → WorkedMsvcTables machine
unfolding opened
worked_msvc_tables I386 = record { descriptor = refl; null_descriptor = refl; null_thunk = refl; weak = refl }
worked_msvc_tables ARMNT = record { descriptor = refl; null_descriptor = refl; null_thunk = refl; weak = refl }
worked_msvc_tables AMD64 = record { descriptor = refl; null_descriptor = refl; null_thunk = refl; weak = refl }
worked_msvc_tables ARM64 = record { descriptor = refl; null_descriptor = refl; null_thunk = refl; weak = refl }

pub worked_gnu_tables : (machine : MachineType) → WorkedGnuTables machine
unfolding opened
worked_gnu_tables I386 = record { head = refl; tail = refl; function = refl; function_by_ordinal = refl; variable = refl; variable_by_ordinal = refl }
worked_gnu_tables ARMNT = record { head = refl; tail = refl; function = refl; function_by_ordinal = refl; variable = refl; variable_by_ordinal = refl }
worked_gnu_tables AMD64 = record { head = refl; tail = refl; function = refl; function_by_ordinal = refl; variable = refl; variable_by_ordinal = refl }
worked_gnu_tables ARM64 = record { head = refl; tail = refl; function = refl; function_by_ordinal = refl; variable = refl; variable_by_ordinal = refl }

pub worked_gnu_names : WorkedGnuNames
unfolding opened
worked_gnu_names = grind arith

pub worked_names : WorkedNames
unfolding opened
worked_names = grind arith

pub worked_records : WorkedRecords
unfolding opened
worked_records = grind arith

pub worked_name_types : WorkedNameTypes
unfolding opened
worked_name_types = grind arith

pub worked_asked_names : WorkedAskedNames
unfolding opened
worked_asked_names = grind arith
