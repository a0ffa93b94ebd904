-- Lemmas on libraries of delayed imports: why there is none.
use Rattle.std.proofs.Common.{arith, ◌≡◌, ℕ, List, Some}
use Rattle.std.specs.Str.{IsUtf8}
use Rattle.implib.specs.Definition.{DefinitionView}
use Rattle.implib.specs.Members.MemberSpec.{MemberView}
use Rattle.implib.specs.Renaming.{renamed}
use Rattle.implib_delay.specs.Members.{AreDelayedMembersOf, delay_refusal}
use Rattle.implib_delay.specs.Reader.{DelayedReadBack}
use Rattle.implib_delay.specs.Refusal.{DelayCause}
use Rattle.implib_libraries.specs.declared.delayed.DelayRefusal.{DelayRefusal}
use Rattle.implib_libraries.specs.declared.delayed.DelayRefusal.TheVariants.{Refused, Undelayed as CannotDelay}
use Rattle.implib_libraries.specs.Delayed.{DelayedMembersFor, IsRefusalOfDelayed, IsRefusalOfDelayedArchive, IsRefusalOfDelayedMembers, IsRefusalPlaced, RefusesDelay, delayed_options, without_data}
use Rattle.implib_rules.specs.declared.library.Refusal.{Refusal}
use Rattle.implib_rules.specs.declared.library.Refusal.TheVariants.{Archive, Members, NoName, NotUtf8, OutOfMemory, Syntax}
use Rattle.implib_rules.specs.Library.{DefinitionFor, definition_text}
use Rattle.implib_rules.specs.Options.{LibraryOptionsView}

-- a definition of the text of bytes that cannot be delayed
pub refuses : (bytes text : List ℕ) (options made : LibraryOptionsView) (definition : DefinitionView) (cause : DelayCause)
    → (text ≡ definition_text bytes) × IsUtf8 (definition_text bytes) → made ≡ delayed_options options → DefinitionFor text made definition
    → delay_refusal (renamed (without_data definition)) options.machine ≡ Some cause → RefusesDelay bytes options cause
refuses bytes text options made definition cause found is of_text refused = grind arith

-- the members of such a definition without its data
pub delayed_for : (bytes text : List ℕ) (options made : LibraryOptionsView) (definition kept : DefinitionView) (members : List MemberView)
    → (text ≡ definition_text bytes) × IsUtf8 (definition_text bytes) → made ≡ delayed_options options → DefinitionFor text made definition → kept ≡ without_data definition
    → AreDelayedMembersOf (renamed kept) options.machine members → DelayedReadBack kept options.machine members → DelayedMembersFor bytes options members
delayed_for bytes text options made definition kept members found is of_text without are reads = grind arith

-- why it cannot is why there are no members
pub undelayed : (bytes text : List ℕ) (options : LibraryOptionsView) (cause : DelayCause) (why : DelayRefusal) → text ≡ definition_text bytes
    → RefusesDelay bytes options cause → IsRefusalPlaced text cause why → IsRefusalOfDelayedMembers bytes options why
undelayed bytes text options cause (Refused (NotUtf8 position)) is refuses placed = absurd placed
undelayed bytes text options cause (Refused (Syntax fault position)) is refuses placed = absurd placed
undelayed bytes text options cause (Refused NoName) is refuses placed = absurd placed
undelayed bytes text options cause (Refused (Members fault position)) is refuses placed = grind (arith, refuses)
undelayed bytes text options cause (Refused (Archive fault)) is refuses placed = absurd placed
undelayed bytes text options cause (Refused OutOfMemory) is refuses placed = tt
undelayed bytes text options cause (CannotDelay why) is refuses placed = grind (arith, refuses)

-- members without an archive are no library
pub no_archive : (bytes : List ℕ) (options : LibraryOptionsView) (members : List MemberView) (refusal : Refusal)
    → DelayedMembersFor bytes options members → IsRefusalOfDelayedArchive members refusal → IsRefusalOfDelayed bytes options (Refused refusal)
no_archive bytes options members (NotUtf8 position) made refused = absurd refused
no_archive bytes options members (Syntax fault position) made refused = absurd refused
no_archive bytes options members NoName made refused = absurd refused
no_archive bytes options members (Members fault position) made refused = absurd refused
no_archive bytes options members (Archive fault) made refused = record { members = members; members_for = made; refused = refused }
no_archive bytes options members OutOfMemory made refused = tt
