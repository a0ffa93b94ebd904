-- The objects of exports for GNU's linker, of one library and for one machine, which the program
-- keeps and makes when they are wanted.
use Rattle.std.specs.Prelude.{ℕ, List}
use Rattle.implib.specs.declared.machine.MachineType.{MachineType}
use Rattle.implib.specs.Members.MemberSpec.{MemberView}

-- what they show: what they are for, and the members, in order
pub record ExportObjectsView : Type 0 where
  pub machine : MachineType
  pub linked : List ℕ
  pub members : List MemberView
