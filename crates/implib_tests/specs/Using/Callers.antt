-- What the callers conclude.
use Rattle.std.specs.Prelude.{◌≡◌, ◌≢◌, ℕ, List, [], ◌∷◌, ◌++◌, map, All, Option, None, Some, codes}
use Rattle.implib.specs.declared.coff.object.Place.TheVariants.{Section}
use Rattle.implib.specs.declared.def.lexer.TokenKind.TheVariants.{KwExports}
use Rattle.implib.specs.declared.def.position.Position.{Position}
use Rattle.implib.specs.declared.machine.MachineType.{MachineType}
use Rattle.implib.specs.Definition.{DefinitionView, empty_definition, empty_export}
use Rattle.implib.specs.Library.{LibraryView}
use Rattle.implib.specs.Members.MemberSpec.{MemberView}
use Rattle.implib.specs.Asked.{exports_of_text}
use Rattle.implib.specs.Link.Image.{image_of}
use Rattle.implib.specs.Members.ImportTables.{thunk_width}
use Rattle.implib.specs.Link.Load.{Loads}
use Rattle.implib.specs.Formats.Object.{Object}
use Rattle.implib.specs.Fault.{Cause}
use Rattle.implib.specs.Text.Parses.{Parses, RefusesAt}
use Rattle.implib.specs.Link.Placement.{Bases, placed_from}
use Rattle.implib.specs.Text.Position.{position_at}
use Rattle.implib.specs.Text.Token.{Lexed, TokenView}
use Rattle.implib.specs.Formats.Writer.{WriterState}
use Rattle.implib_link.specs.Flavors.Program.{IsProgram}
use Rattle.implib_link.specs.Flavors.Texts.{ask_stated, chosen_stated, link_input_of, source_of}

-- the definition of a DLL with one function
abbrev pub one_export : List ℕ → List ℕ → DefinitionView
one_export dll name = record empty_definition {
  import_name = dll;
  exports = record empty_export { name = name } ∷ [];
}

-- an object with bytes in `.data` (flags 0xC0300040) and an external symbol at the first of them
abbrev pub data_object : MachineType → List ℕ → List ℕ → WriterState
data_object machine name bytes = record {
  machine = machine;
  sections =
      record {
        name = codes ".data" ++ 0 ∷ 0 ∷ 0 ∷ [];
        flags = 0xC030_0040;
        bytes = bytes;
        relocations = [];
      } ∷ [];
  symbols = record { name = name; value = 0; place = Section 1; class = 2; aux = None } ∷ [];
}

-- the token is no `EXPORTS`
abbrev pub IsOther : TokenView → Type 0
IsOther token = token.kind ≢ KwExports

-- the first of the text's tokens that is `EXPORTS` is at this offset
pub record HasFirstExportsAt (text : List ℕ) (at : ℕ) : Type 0 where
  pub before : List TokenView
  pub token : TokenView
  pub after : List TokenView
  pub lexed : Lexed text (before ++ token ∷ after)
  pub others_before : All IsOther before
  pub kind : token.kind ≡ KwExports
  pub here : token.at ≡ at

-- None where no token of the text is `EXPORTS`; otherwise the offset of the first that is
abbrev pub IsFirstExports : List ℕ → Option ℕ → Type 0
IsFirstExports text None = (tokens : List TokenView) × Lexed text tokens × All IsOther tokens
IsFirstExports text (Some at) = HasFirstExportsAt text at

-- None where the text means a definition; otherwise the position of the token that its refusal
-- names
abbrev pub IsErrorIn : List ℕ → MachineType → Option Position → Type 0
IsErrorIn text machine None = (d : DefinitionView) × Parses text machine d
IsErrorIn text machine (Some position) =
    (cause : Cause) × RefusesAt text cause position.offset
    × (position ≡ position_at text position.offset)

-- The loader that reads the first import descriptor of an image finds the DLL of the text, and is
-- asked for exactly the words by which the text names the chosen exports (or for their ordinals).
pub record LoadsAsStated (text : List ℕ) (machine : MachineType) (chosen : List ℕ) (bases : Bases)
    (objects : List Object) : Type 0 where
  pub parsed : DefinitionView
  pub parses : Parses text machine parsed
  pub loads : Loads (image_of machine bases (placed_from bases objects)) (thunk_width machine)
      bases.descriptors parsed.import_name
      (map ask_stated (chosen_stated parsed (exports_of_text parses.statements) chosen))

-- Members of a text load so, whichever exports are chosen, at whichever bases, among whichever
-- objects of a program.
pub record ImportsJustThese (text : List ℕ) (machine : MachineType)
    (members : List MemberView) : Type 0 where
  pub library : LibraryView
  pub loads : (chosen : List ℕ) (bases : Bases) (objects : List Object) →
      IsProgram machine bases (link_input_of (source_of text library members chosen) ∷ []) objects →
      LoadsAsStated text machine chosen bases objects
