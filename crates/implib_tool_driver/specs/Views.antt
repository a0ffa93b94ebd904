-- Views of the code's state: what its own functions promise each other. No promise cites them.
use Rattle.std.specs.Prelude.{◌≡◌, ◌≢◌, ◌⊎◌, ℕ, ◌+◌, ◌<◌, ◌≤◌, Bool, false, true, List, [], ◌++◌}
use Rattle.std.specs.Prelude.{map, Option, None, Some, IfSome, length, slice_index}
use Rattle.std.specs.declared.vec.Vec.{Vec}
use Rattle.std.specs.Borrow.{Bor}
use Rattle.std.specs.Io.KnownBytes.{Appends, Keeps}
use Rattle.std.specs.Str.{IsUtf8}
use Rattle.implib.specs.declared.flavor.Flavor.{Flavor}
use Rattle.implib.specs.declared.machine.MachineType.{MachineType}
use Rattle.implib.specs.Fault.{Cause, cause_of}
use Rattle.implib.specs.Members.MemberSpec.{MemberView}
use Rattle.implib_tool_driver.specs.declared.run.RunError.{RunError}
use Rattle.implib_tool_driver.specs.declared.run.RunError.TheVariants.{Refused, NotUtf8, Read}
use Rattle.implib_tool_driver.specs.declared.run.RunError.TheVariants.{Write, OutOfMemory}
use Rattle.implib.specs.Library.{member_view}
use Rattle.implib.specs.declared.member.Member.{Member}
use Rattle.implib.specs.Beginning.{AppendsBeginning}
use Rattle.implib_tool_driver.specs.Documents.{Documents}
use Rattle.implib_tool_driver.specs.Run.{EachMade, FirstRefused, IsRefused}

-- a line of the text from start to end, and where the next one begins: past the line end, or at the
-- text's end
pub record IsLineAt (text : List ℕ) (start end next : ℕ) : Type 0 where
  pub after : start ≤ end
  pub within : end ≤ length text
  pub line : (k : ℕ) → start ≤ k → k < end → slice_index text k ≢ 10
  pub ends : ((end ≡ length text) × (next ≡ end))
      ⊎ ((end < length text) × (slice_index text end ≡ 10) × (next ≡ end + 1))

-- a writer with the bytes that wait for it: what it has, where that is known, and whether it has
-- failed
pub record Buffered : Type 0 where
  pub contents : Option (List ℕ)
  pub failed : Bool
  pub waiting : List ℕ

abbrev pub buffered : Option (List ℕ) → Bool → List ℕ → Buffered
buffered contents failed waiting =
    record { contents = contents; failed = failed; waiting = waiting }

-- bytes follow those that waited: unless it fails the writer takes a beginning of both, and the
-- rest waits; one that keeps what it has in a write that fails has such a beginning in any case; a
-- writer that had failed takes none
pub record Passes (keeps : Bool) (old new : Buffered) (bytes : List ℕ) : Type 0 where
  pub taken : List ℕ
  pub left : List ℕ
  pub whole : old.waiting ++ bytes ≡ taken ++ left
  pub written : (new.failed ≡ false) ⊎ (keeps ≡ true) → Appends old.contents new.contents taken
  pub waits : new.failed ≡ false → left ≡ new.waiting
  pub sound : new.failed ≡ false → old.failed ≡ false
  pub stopped : old.failed ≡ true → Keeps old.contents new.contents

-- the members of each document
abbrev pub member_views : {A : Type 0} → List (Vec Member A) → List (List MemberView)
member_views lists = map (λ members. map member_view members.items) lists

-- the members of each document of the text, in order
pub record MembersOfDocuments (text : List ℕ) (machine : MachineType) (flavor : Flavor)
    (lists : List (List MemberView)) : Type 0 where
  pub documents : List (List ℕ)
  pub divided : Documents text documents
  pub made : EachMade machine flavor documents lists

-- the reader failed, or memory was refused and it has not
abbrev pub OnReadFault : Bool → Bool → RunError → Type 0
OnReadFault before after (Refused fault) = ⊥
OnReadFault before after NotUtf8 = ⊥
OnReadFault before after Read = after ≡ true
OnReadFault before after Write = ⊥
OnReadFault before after OutOfMemory = after ≡ before

-- the text is refused, or memory was
abbrev pub OnDocumentFault : List ℕ → MachineType → Flavor → RunError → Type 0
OnDocumentFault text machine flavor (Refused fault) = IsRefused text machine flavor (cause_of fault)
OnDocumentFault text machine flavor NotUtf8 = ⊥
OnDocumentFault text machine flavor Read = ⊥
OnDocumentFault text machine flavor Write = ⊥
OnDocumentFault text machine flavor OutOfMemory = Unit {0}

-- a document of the text is refused, or memory was
abbrev pub OnTextFault : List ℕ → MachineType → Flavor → RunError → Type 0
OnTextFault text machine flavor (Refused fault) = FirstRefused text machine flavor (cause_of fault)
OnTextFault text machine flavor NotUtf8 = ⊥
OnTextFault text machine flavor Read = ⊥
OnTextFault text machine flavor Write = ⊥
OnTextFault text machine flavor OutOfMemory = Unit {0}

-- what the reader had is no UTF-8, or is refused; or the reader failed, or memory was refused
abbrev pub OnInputFault : Option (List ℕ) → Bool → MachineType → Flavor → RunError → Type 0
OnInputFault remaining failed machine flavor (Refused fault) =
    (failed ≡ false) × IfSome remaining IsUtf8
    × IfSome remaining (λ text. FirstRefused text machine flavor (cause_of fault))
OnInputFault remaining failed machine flavor NotUtf8 =
    (failed ≡ false) × IfSome remaining (λ text. ¬ (IsUtf8 text))
OnInputFault remaining failed machine flavor Read = failed ≡ true
OnInputFault remaining failed machine flavor Write = ⊥
OnInputFault remaining failed machine flavor OutOfMemory = failed ≡ false

-- the writer failed, and has a beginning of the listing if it keeps what it has in a write that
-- fails; or memory was refused before it was used
abbrev pub OnWriteFault : Bool → Option (List ℕ) → Option (List ℕ) → Bool → List ℕ → RunError →
    Type 0
OnWriteFault keeps before after failed listing (Refused fault) = ⊥
OnWriteFault keeps before after failed listing NotUtf8 = ⊥
OnWriteFault keeps before after failed listing Read = ⊥
OnWriteFault keeps before after failed listing Write =
    (failed ≡ true) × (keeps ≡ true → AppendsBeginning before after listing)
OnWriteFault keeps before after failed listing OutOfMemory = (failed ≡ false) × Keeps before after

-- the members of what is left of a text, if anything is
abbrev pub MadeLeft : Option (Bor (List ℕ)) → MachineType → Flavor → List (List MemberView) → Type 0
MadeLeft None machine flavor lists = lists ≡ []
MadeLeft (Some rest) machine flavor lists = MembersOfDocuments rest.now machine flavor lists

-- the refusal of what is left of a text, if anything is
abbrev pub RefusedLeft : Option (Bor (List ℕ)) → MachineType → Flavor → Cause → Type 0
RefusedLeft None machine flavor cause = ⊥
RefusedLeft (Some rest) machine flavor cause = FirstRefused rest.now machine flavor cause

-- what is left of a text, in bytes, and one more where it is there
abbrev pub size_left : Option (Bor (List ℕ)) → ℕ
size_left None = 0
size_left (Some rest) = length rest.now + 1

-- what is made, and then the members of what is left, are those of the text; what is left is
-- refused only as the text is
pub record DocumentsLeft (text : List ℕ) (machine : MachineType) (flavor : Flavor)
    (made : List (List MemberView)) (rest : Option (Bor (List ℕ))) : Type 0 where
  pub lists : (more : List (List MemberView)) → MadeLeft rest machine flavor more →
      MembersOfDocuments text machine flavor (made ++ more)
  pub refused : (cause : Cause) → RefusedLeft rest machine flavor cause →
      FirstRefused text machine flavor cause

-- the bytes are some that the writer took, and those that are left
pub record WrittenSoFar (before after : Option (List ℕ)) (bytes rest : List ℕ) : Type 0 where
  pub taken : List ℕ
  pub whole : bytes ≡ taken ++ rest
  pub written : Appends before after taken
