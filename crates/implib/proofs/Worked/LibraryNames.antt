-- The worked members of libraries with a name of their own, by computing.
use Rattle.std.proofs.Common.{arith}
use Rattle.implib.specs.Members.MsvcMembers.{descriptor_spec, header_specs, null_descriptor_spec, null_thunk_spec, weak_specs}
use Rattle.implib.specs.Members.MsvcObjects.{base_name, descriptor, descriptor_symbol, null_descriptor, null_descriptor_symbol, null_thunk, null_thunk_symbol}
use Rattle.implib.specs.Worked.LibraryNames.{WorkedGnuNames, WorkedLibraryNames, WorkedMsvcNames, WorkedNameRefusals}
use Rattle.implib.proofs.Worked.Gnu.{opened as gnu_opened}

-- what the computing has to open
abbrev opened : Unit {0}
unfolding gnu_opened descriptor_spec header_specs null_descriptor_spec null_thunk_spec weak_specs base_name descriptor descriptor_symbol null_descriptor null_descriptor_symbol null_thunk null_thunk_symbol
opened = tt

gnu : WorkedGnuNames
unfolding opened
gnu = grind arith

msvc : WorkedMsvcNames
unfolding opened
msvc = grind arith

refusals : WorkedNameRefusals
unfolding opened
refusals = grind arith

pub worked_library_names : WorkedLibraryNames
worked_library_names = record { gnu = gnu; msvc = msvc; refusals = refusals }
