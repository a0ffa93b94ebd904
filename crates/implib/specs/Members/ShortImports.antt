-- Short imports of one DLL for one machine, which the program keeps and makes when they are wanted.
use Rattle.std.specs.Prelude.{List}
use Rattle.implib.specs.declared.machine.MachineType.{MachineType}
use Rattle.implib.specs.LibraryName.{NamesOfDll}
use Rattle.implib.specs.Members.MemberSpec.{MemberView}

-- what they show: what they are for, and the members, in order
pub record ShortImportsView : Type 0 where
  pub machine : MachineType
  pub dll : NamesOfDll
  pub members : List MemberView
