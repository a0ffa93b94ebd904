-- A text whose library is no other than the library it was made from is a definition of it.
use Rattle.std.proofs.Common.{◌≡◌, ◌∙◌, ℕ, Bool, true, false, ◌||◌, List, ap, inl, inr, sym}
use Rattle.std.proofs.lemmas.Bool.{true≢false}
use Rattle.implib_read.specs.Classes.{MemberRead}
use Rattle.implib_rules.specs.Options.{LibraryOptionsView}
use Rattle.implib_compare.specs.declared.compare.Verdict.{Verdict}
use Rattle.implib_compare.specs.declared.compare.Verdict.TheVariants.{Different, NotDecided, Same}
use Rattle.implib_compare.specs.Comparison.{Means, SayTheSame, has_unread}
use Rattle.implib_check_driver.specs.Defining.{Defines, DefinesFor}
use Rattle.implib_compare.specs.Meant.{IsVerdictOn}
use Rattle.implib_check_driver.specs.OwnLibraries.{MeantIsDefined}

-- a text whose library has been read says what is defined, and nothing that leaves a comparison open
defines : MeantIsDefined → (text : List ℕ) (options : LibraryOptionsView) → options.naming.exports_as ≡ false → (members : List MemberRead) (v : Verdict) (on : IsVerdictOn false text options members v)
    → (has_unread on.meant ≡ false → SayTheSame members on.meant) → has_unread members ≡ false → Defines text options members
defines law text options off members v on same read =
    let defined = law text options on.file on.meant off on.is_library on.read in
    record {
      meant = on.meant;
      defined = defined;
      same = same defined.says.read;
      read = read;
    }

-- with the older symbols of addresses the verdict is that on the text
with_older : (text : List ℕ) (options : LibraryOptionsView) (members : List MemberRead) (v : Verdict) → IsVerdictOn true text options members v
    → (v ≡ Different → ⊥) → has_unread members ≡ false → DefinesFor true text options members
with_older text options members v on same read = record { verdict = v; on = on; same = same; read = read }

-- the library is that of the text
pub defines_same : MeantIsDefined → (older : Bool) (text : List ℕ) (options : LibraryOptionsView) → options.naming.exports_as ≡ false → (members : List MemberRead)
    → IsVerdictOn older text options members Same → has_unread members ≡ false → DefinesFor older text options members
defines_same law true text options off members on read = with_older text options members Same on (λ e. cc) read
defines_same law false text options off members on read = defines law text options off members Same on (λ whole. on.means.facts) read

-- or they say the same, beside other objects
open_alone : (left right : List MemberRead) → Means NotDecided left right → has_unread left ≡ false → has_unread right ≡ false → SayTheSame left right
open_alone left right (inl unread) read whole = absurd (true≢false (sym unread ∙ ap (λ b. b || has_unread right) read ∙ whole))
open_alone left right (inr means) read whole = means.0

pub defines_open : MeantIsDefined → (older : Bool) (text : List ℕ) (options : LibraryOptionsView) → options.naming.exports_as ≡ false → (members : List MemberRead)
    → IsVerdictOn older text options members NotDecided → has_unread members ≡ false → DefinesFor older text options members
defines_open law true text options off members on read = with_older text options members NotDecided on (λ e. cc) read
defines_open law false text options off members on read =
    defines law text options off members NotDecided on (open_alone members on.meant on.means read) read
