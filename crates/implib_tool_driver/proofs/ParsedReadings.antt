-- The members of a text are read as the imports and the aliases that it means.
use Rattle.std.proofs.Common.{arith, ◌≡◌, ℕ, List}
use Rattle.implib.specs.declared.flavor.Flavor.{Flavor}
use Rattle.implib.specs.declared.machine.MachineType.{MachineType}
use Rattle.implib.specs.Definition.{DefinitionView}
use Rattle.implib.specs.Library.{LibraryOf, LibraryView}
use Rattle.implib.specs.Members.Members.{AreMembersOf}
use Rattle.implib.specs.Members.MemberSpec.{MemberView}
use Rattle.implib.specs.Members.ReadBack.{ReadBack}
use Rattle.implib.specs.Renaming.{renamed}
use Rattle.implib.proofs.Members.Renaming.{renamed_twice}
use Rattle.implib.proofs.Text.SymbolNames.{parsed_lacks}
use Rattle.implib.specs.Text.SymbolNames.{LacksSymbolNames}
use Rattle.implib_tool_driver.specs.Run.{MembersOfDocument, ReadAsParsed}

-- in each flavour, where the definition has no symbol names and renaming it twice is renaming it once
read_in : (parsed : DefinitionView) (machine : MachineType) (flavor : Flavor) (members : List MemberView) → LacksSymbolNames parsed → renamed (renamed parsed) ≡ renamed parsed
    → ReadBack (renamed parsed) machine flavor members → ReadAsParsed parsed machine flavor members
read_in parsed machine flavor members lacks once reads = grind arith

-- what a library of a text gives are the members of that text
pub members_of : (text : List ℕ) (machine : MachineType) (flavor : Flavor) (library : LibraryView) (members : List MemberView) → LibraryOf text machine flavor library
    → AreMembersOf library.definition library.machine library.flavor members → ReadBack library.definition library.machine library.flavor members → MembersOfDocument text machine flavor members
members_of text machine flavor library members of made reads = record {
  members_of = grind arith;
  read_as_parsed = grind (arith, read_in of.parsed, parsed_lacks text machine of.parsed of.parses, renamed_twice of.parsed);
}
