-- Which text is a definition of a library, and why a library has none (this project's choice).
use Rattle.std.specs.Prelude.{◌≡◌, ℕ, Bool, true, false, List}
use Rattle.implib_read.specs.Classes.{MemberRead}
use Rattle.implib_rules.specs.Library.{is_out_of_memory}
use Rattle.implib_rules.specs.Options.{LibraryOptionsView}
use Rattle.implib_compare.specs.declared.compare.Verdict.{Verdict}
use Rattle.implib_compare.specs.declared.compare.Verdict.TheVariants.{Different as TheyDiffer}
use Rattle.implib_check_driver.specs.declared.defining.Undefined.{Undefined}
use Rattle.implib_check_driver.specs.declared.defining.Undefined.TheVariants.{Different, Refused}
use Rattle.implib_check_driver.specs.declared.defining.Undefined.TheVariants.{Unread}
use Rattle.implib_compare.specs.Comparison.{SayTheSame, has_unread}
use Rattle.implib_check_driver.specs.DefinitionText.{definition_text}
use Rattle.implib_compare.specs.Meant.{IsRefusalFor, IsVerdictOn}
use Rattle.implib_check_driver.specs.OwnLibraries.{IsDefinedBy}

-- A text is a definition of a library under these options: by the grammar and by the rules of
-- `implib_dlltool` it means the imports and the aliases of the library, as many times each, in any
-- order.
pub record Defines (text : List ℕ) (options : LibraryOptionsView)
    (members : List MemberRead) : Type 0 where
  -- the members of the library that the text has
  pub meant : List MemberRead
  pub defined : IsDefinedBy text options meant
  pub same : SayTheSame members meant
  -- no member of the library may import what is not read
  pub read : has_unread members ≡ false

-- A text is a definition of a library that has the older symbols of addresses: the library that the
-- text has with them does not differ from it, and no member of it may import what is not read.
pub record DefinesWithOlder (text : List ℕ) (options : LibraryOptionsView)
    (members : List MemberRead) : Type 0 where
  pub verdict : Verdict
  pub on : IsVerdictOn true text options members verdict
  pub same : verdict ≡ TheyDiffer → ⊥
  pub read : has_unread members ≡ false

-- a text is a definition of a library, with the older symbols of addresses or without
abbrev pub DefinesFor : Bool → List ℕ → LibraryOptionsView → List MemberRead → Type 0
DefinesFor true text options members = DefinesWithOlder text options members
DefinesFor false text options members = Defines text options members

-- Why a library has no definition: a member may import what is not read; or the text that says its
-- imports, as far as a text can, is refused, or means others.
abbrev pub IsUndefined : Bool → Bool → LibraryOptionsView → List MemberRead → Undefined → Type 0
IsUndefined hints older options members Unread = has_unread members ≡ true
IsUndefined hints older options members (Refused refusal) =
    IsRefusalFor older (definition_text hints options members) options refusal
    × (is_out_of_memory refusal ≡ false)
IsUndefined hints older options members (Different told) =
    IsVerdictOn older (definition_text hints options members) options members TheyDiffer
