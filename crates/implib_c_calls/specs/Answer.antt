-- What `implib_members` answers.
use Rattle.std.specs.Prelude.{◌≡◌, ℕ, ◌==◌, List, Option, None, Some, if◌then◌else◌}
use Rattle.std.specs.Option.{IsSome}
use Rattle.std.specs.Str.{IsUtf8}
use Rattle.std.specs.Str.Lossy.{utf8_valid_len}
use Rattle.implib.specs.declared.machine.MachineType.{MachineType}
use Rattle.implib.specs.declared.flavor.Flavor.{Flavor}
use Rattle.implib.specs.declared.flavor.Flavor.TheVariants.{Msvc, Gnu}
use Rattle.implib.specs.Conversions.{machine_numbered}
use Rattle.implib.specs.Fault.{cause_of}
use Rattle.implib.specs.Members.MemberSpec.{MemberView}
use Rattle.implib.specs.Text.Parses.{RefusesAt}
use Rattle.implib.specs.Members.OfText.{HasNoMembers, MembersOf}
use Rattle.implib_c_calls.specs.declared.outcome.Failure.{Failure}
use Rattle.implib_c_calls.specs.declared.outcome.Failure.TheVariants.{NotUtf8, OutOfMemory}
use Rattle.implib_c_calls.specs.declared.outcome.Failure.TheVariants.{Refused, SyntaxError}
use Rattle.implib_c_calls.specs.declared.outcome.Failure.TheVariants.{UnknownFlavor}
use Rattle.implib_c_calls.specs.declared.outcome.Failure.TheVariants.{UnknownMachine}
use Rattle.implib_c_calls.specs.Encoding.{encoded_members, members_in}
use Rattle.implib_c_calls.specs.Given.{Encodes, Leaves}

-- the flavour with a number
abbrev pub flavor_numbered : ℕ → Option Flavor
flavor_numbered number = if number == 0 then Some Msvc else if number == 1 then Some Gnu else None

-- the numbers are those of a machine and of a flavour, the text is UTF-8, and with the three this
-- holds
pub record WithInput (text : List ℕ) (machine flavor : ℕ) (P : MachineType → Flavor → Type 0)
    : Type 0 where
  pub machine_found : MachineType
  pub flavor_found : Flavor
  pub machine_is : machine_numbered machine ≡ Some machine_found
  pub flavor_is : flavor_numbered flavor ≡ Some flavor_found
  pub utf8 : IsUtf8 text
  pub holds : P machine_found flavor_found

-- there are no members: the first of these, or memory was refused. A text that is not UTF-8 is that
-- up to an offset, and a syntax error is at the offset of a token.
abbrev pub LacksMembers : List ℕ → ℕ → ℕ → Failure → Type 0
LacksMembers text machine flavor UnknownMachine = machine_numbered machine ≡ None
LacksMembers text machine flavor UnknownFlavor =
    IsSome (machine_numbered machine) × (flavor_numbered flavor ≡ None)
LacksMembers text machine flavor (NotUtf8 offset) =
    IsSome (machine_numbered machine) × IsSome (flavor_numbered flavor) × ¬ (IsUtf8 text)
    × (offset ≡ utf8_valid_len text)
LacksMembers text machine flavor (SyntaxError fault offset) =
    WithInput text machine flavor (λ m f. RefusesAt text (cause_of fault) offset)
LacksMembers text machine flavor (Refused fault) =
    WithInput text machine flavor (λ m f. HasNoMembers text m f (cause_of fault))
LacksMembers text machine flavor OutOfMemory = WithInput text machine flavor (λ m f. Unit {0})
LacksMembers text machine flavor _ = ⊥

-- what a call leaves: the encoding of the members, or why there are none
abbrev pub Answers : List ℕ → ℕ → ℕ → List ℕ → List ℕ → ℕ → ℕ → ℕ → Type 0
Answers text machine flavor =
    Leaves
    (Encodes encoded_members members_in
    (λ members. WithInput text machine flavor (λ m f. MembersOf text m f members)))
    (LacksMembers text machine flavor)

-- Views: what the functions below `implib_members` give each other. No promise cites them.

-- the text is refused, or memory was
abbrev pub OnTextFault : List ℕ → MachineType → Flavor → Failure → Type 0
OnTextFault text machine flavor OutOfMemory = Unit {0}
OnTextFault text machine flavor (SyntaxError fault offset) = RefusesAt text (cause_of fault) offset
OnTextFault text machine flavor (Refused fault) = HasNoMembers text machine flavor (cause_of fault)
OnTextFault text machine flavor _ = ⊥

-- the text has these members for this flavour, by the numbers of a machine and of the flavour
abbrev pub HasMembers : List ℕ → ℕ → ℕ → Flavor → List MemberView → Type 0
HasMembers text machine flavor found members =
    WithInput text machine flavor (λ m f. (f ≡ found) × MembersOf text m f members)
