-- What a word of a command line says, and what is wrong with words.
use Rattle.std.specs.Prelude.{ℕ, ◌==◌, List, [], ◌∷◌, Option, None, Some, if◌then◌else◌}
use Rattle.implib_options.specs.declared.table.Meaning.{Meaning}
use Rattle.implib_options.specs.declared.table.Takes.TheVariants.{Nothing, Refused, Value}
use Rattle.implib_options.specs.declared.words.Fault.{Fault}
use Rattle.implib_options.specs.declared.words.Fault.TheVariants as fault
use Rattle.implib_options.specs.declared.words.Said.{Said}
use Rattle.implib_options.specs.declared.words.Said.TheVariants as said
use Rattle.implib_options.specs.Given.{GivenView, given_view}
use Rattle.implib_options.specs.Table.{Kind}

abbrev pub Text : Type 0
Text = List ℕ

-- what is wrong with words
pub data FaultView : Type 0 where
  -- the option is refused by its name
  IsUnsupported : Text → FaultView
  -- there is no such option, or it takes no value and has one
  IsUnknown : Text → FaultView
  -- the word is no option, where only an option may stand, or names a file of options
  IsFile : Text → FaultView
  -- the last word is an option that lacks its value
  LacksValue : Meaning → FaultView
  -- the option of the word lacks its colon or its value
  LacksValueIn : Text → FaultView
  -- the word names no machine
  NamesNoMachine : Text → FaultView
  -- there is no definition
  WantsDefinition : FaultView
  -- there is no file for the library
  WantsOutput : FaultView
  -- there is no library whose members are listed
  WantsLibrary : FaultView
  -- the word is the file of a further one
  IsFurther : Text → FaultView
  -- members are listed, and there is a definition
  ListsDefinition : FaultView

abbrev pub fault_view : Fault → FaultView
fault_view (fault.Unsupported word) = IsUnsupported word.now
fault_view (fault.Unknown word) = IsUnknown word.now
fault_view (fault.File word) = IsFile word.now
fault_view (fault.NoValue meaning) = LacksValue meaning
fault_view (fault.NoValueIn word) = LacksValueIn word.now
fault_view (fault.NoMachine word) = NamesNoMachine word.now
fault_view fault.NoDefinition = WantsDefinition
fault_view fault.NoOutput = WantsOutput
fault_view fault.NoLibrary = WantsLibrary
fault_view (fault.Further word) = IsFurther word.now
fault_view fault.ListedDefinition = ListsDefinition

-- what a word says
pub data Saying : Type 0 where
  -- an option that is whole, or a file
  Whole : GivenView → Saying
  -- an option whose value is the next word
  Begun : Meaning → Saying
  -- no option follows
  Ends : Saying
  Wrong : FaultView → Saying

abbrev pub said_view : Said → Saying
said_view (said.Whole given) = Whole (given_view given)
said_view (said.Begun meaning) = Begun meaning
said_view said.Ends = Ends
said_view (said.Wrong fault) = Wrong (fault_view fault)

-- what an option says that takes and means this, in a word that may have its value
abbrev pub saying : Text → Option Kind → Option Text → Saying
saying word None value = Wrong (IsUnknown word)
saying word (Some (Refused, meaning)) value = Wrong (IsUnsupported word)
saying word (Some (Nothing, meaning)) None = Whole (meaning, [])
saying word (Some (Nothing, meaning)) (Some value) = Wrong (IsUnknown word)
saying word (Some (Value, meaning)) None = Begun meaning
saying word (Some (Value, meaning)) (Some value) = Whole (meaning, value)

-- what a word says that is none: a file of this meaning, but for `@` (64) and the name of a file of
-- options, as GNU's programs take it
abbrev pub file_saying : Meaning → Text → Saying
file_saying meaning [] = Whole (meaning, [])
file_saying meaning (b ∷ text) =
    if b == 64 then Wrong (IsFile (b ∷ text)) else Whole (meaning, b ∷ text)
