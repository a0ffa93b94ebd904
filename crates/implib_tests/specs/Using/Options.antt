-- What is linked of a library by options: of the definition of a text, as `implib_dlltool` takes it
-- under `-p`, `-k`, `-U` or `--export-as`, and with older symbols under `-C`.
use Rattle.std.specs.Prelude.{◌≡◌, Bool, true, ℕ, List}
use Rattle.std.specs.List.{AllByRecursion, Contains, list_all}
use Rattle.implib.specs.Definition.{DefinitionView, ExportView}
use Rattle.implib.specs.Link.LinkedMembers.{LinkInput, linked_members}
use Rattle.implib.specs.Members.MemberSpec.{MemberView}
use Rattle.implib.specs.Renaming.{renamed}
use Rattle.implib_link.specs.Flavors.Program.{IsMadeFor}
use Rattle.implib_link.specs.Parts.{IsPart, older_linked, older_part_of, part_of, stores_none}
use Rattle.implib_rules.specs.Library.{DefinitionFor, definition_text}
use Rattle.implib_rules.specs.Options.{LibraryOptionsView}

-- an input of a link: the definition with its exports under their names to link by, members, and
-- the chosen exports
abbrev pub input_of : DefinitionView → List MemberView → List ℕ → LinkInput
input_of definition members chosen =
    record { definition = renamed definition; members = members; chosen = chosen }

-- The members of a library for GNU's linker: what is linked of them for chosen exports is a part,
-- which stores no address whole.
pub record LinkAsPart (bytes : List ℕ) (options : LibraryOptionsView) (members : List MemberView)
    (chosen : List ℕ) : Type 0 where
  pub definition : DefinitionView
  pub of_text : DefinitionFor (definition_text bytes) options definition
  pub held : AllByRecursion (Contains members)
      (linked_members (renamed definition) options.machine chosen)
  pub part : IsPart options.machine (part_of options.machine (input_of definition members chosen))
  pub stores : list_all (stores_none options.machine)
      (part_of options.machine (input_of definition members chosen)).objects
      ≡ true

-- the same of members with older symbols, each entry by either symbol
pub record LinkAsOlderPart (bytes : List ℕ) (options : LibraryOptionsView)
    (members : List MemberView) (chosen : List ℕ) (older : ExportView → Bool) : Type 0 where
  pub definition : DefinitionView
  pub of_text : DefinitionFor (definition_text bytes) options definition
  pub held : AllByRecursion (Contains members)
      (older_linked (renamed definition) options.machine chosen)
  pub part : IsPart options.machine
      (older_part_of options.machine older (input_of definition members chosen))
  pub stores : list_all (stores_none options.machine)
      (older_part_of options.machine older (input_of definition members chosen)).objects ≡ true

-- The members of a library for either linker, without third texts, are among those of a definition
-- that the laws of programs take.
pub record LinkInPrograms (bytes : List ℕ) (options : LibraryOptionsView)
    (chosen : List ℕ) : Type 0 where
  pub definition : DefinitionView
  pub of_text : DefinitionFor (definition_text bytes) options definition
  pub members : List MemberView
  pub made : IsMadeFor options.machine
      (record { flavor = options.flavor; input = input_of definition members chosen })
