-- A text has one definition for the same options, and one library.
use Rattle.std.proofs.Common.{◌≡◌, ℕ, List}
use Rattle.std.specs.Str.{IsUtf8}
use Rattle.implib.specs.declared.machine.MachineType.TheVariants.{AMD64}
use Rattle.implib.specs.Definition.{DefinitionView}
use Rattle.implib.specs.Members.MemberSpec.{MemberView}
use Rattle.implib.proofs.Text.HeardNames.{heard_once}
use Rattle.implib.proofs.Text.OneReading.{one_definition}
use Rattle.implib_rules.specs.Library.{DefinitionFor, IsLibrary, MembersFor, definition_text}
use Rattle.implib_rules.specs.Options.{LibraryOptionsView}

pub one_for : (text : List ℕ) (options : LibraryOptionsView) (definition other : DefinitionView) → IsUtf8 text → DefinitionFor text options definition → DefinitionFor text options other → definition ≡ other
one_for text options definition other utf8 first second =
    cc (one_definition text utf8 AMD64 first.parsed second.parsed first.parses second.parses, heard_once text first.heard second.heard utf8 first.is_heard second.is_heard)

pub one_members : (bytes : List ℕ) (options : LibraryOptionsView) (members others : List MemberView) → MembersFor bytes options members → MembersFor bytes options others → members ≡ others
one_members bytes options members others first second = cc (one_for (definition_text bytes) options first.definition second.definition first.utf8 first.of_text second.of_text)

pub one_library : (bytes : List ℕ) (options : LibraryOptionsView) (file other : List ℕ) → IsLibrary bytes options file → IsLibrary bytes options other → file ≡ other
one_library bytes options file other first second = cc (one_members bytes options first.members second.members first.members_for second.members_for)
