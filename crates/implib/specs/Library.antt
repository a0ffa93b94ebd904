-- What an import library holds, and what a member shows.
use Rattle.std.specs.Prelude.{◌≡◌, ℕ, List, map}
use Rattle.std.specs.String.{string_bytes}
use Rattle.implib.specs.declared.def.definition.ModuleDef.{ModuleDef}
use Rattle.implib.specs.declared.flavor.Flavor.{Flavor}
use Rattle.implib.specs.declared.member.Member.{Member}
use Rattle.implib.specs.declared.machine.MachineType.{MachineType}
use Rattle.implib.specs.Definition.{DefinitionView, definition_view}
use Rattle.implib.specs.Members.MemberSpec.{MemberView}
use Rattle.implib.specs.Renaming.{renamed}
use Rattle.implib.specs.Text.Parses.{Parses}

-- a definition, and what its members are made for
pub record LibraryView : Type 0 where
  pub definition : DefinitionView
  pub machine : MachineType
  pub flavor : Flavor

-- what a library of the program holds
abbrev pub library_view : ModuleDef → MachineType → Flavor → LibraryView
library_view def machine flavor = record {
  definition = definition_view def;
  machine = machine;
  flavor = flavor;
}

-- what a member of the program shows
abbrev pub member_view : Member → MemberView
member_view m = record {
  name = string_bytes m.name;
  bytes = m.bytes.items;
  symbols = map string_bytes m.symbols.items;
}

-- The library holds what the text means, renamed. For example, of `foo = bar` an export of the name
-- foo.
pub record LibraryOf (text : List ℕ) (machine : MachineType) (flavor : Flavor)
    (library : LibraryView) : Type 0 where
  pub parsed : DefinitionView
  pub parses : Parses text machine parsed
  pub held : library ≡ record { definition = renamed parsed; machine = machine; flavor = flavor }
