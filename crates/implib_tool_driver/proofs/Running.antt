-- Lemmas on the runs of the program.
use Rattle.std.proofs.Common.{cond, rules, arith, ◌≡◌, ℕ, ◌-◌, Bool, true, List, [], ◌∷◌, ◌++◌, Option, None, Some, IfSome, IsNone, MatchOption, Result, Err, OnOk, OnErr, false, ◌↔◌, inr, length, take, drop, refl, subst, append_assoc, append-nil, take-append-drop}
use Rattle.std.proofs.KnownBytes.{Appends-kept, Appends-nil, Appends-trans, Keeps-refl, Keeps-trans}
use Rattle.std.proofs.lemmas.List.{take_rest}
use Rattle.std.specs.Borrow.{Bor}
use Rattle.std.specs.Io.KnownBytes.{Appends}
use Rattle.implib.specs.declared.flavor.Flavor.{Flavor}
use Rattle.implib.specs.declared.machine.MachineType.{MachineType}
use Rattle.implib.specs.Fault.{Cause}
use Rattle.implib.specs.Members.MemberSpec.{MemberView}
use Rattle.implib_tool_driver.specs.declared.run.RunError.{RunError}
use Rattle.implib_tool_driver.specs.declared.run.RunError.TheVariants.{OutOfMemory}
use Rattle.implib.specs.Beginning.{AppendsBeginning}
use Rattle.implib_tool_driver.specs.Documents.{Divides, Documents, IsUndivided}
use Rattle.implib_tool_driver.specs.Run.{Devices, FirstRefused, IsRefused, MembersOfDocument}
use Rattle.implib_tool_driver.specs.Views.{Buffered, MembersOfDocuments, OnDocumentFault, OnTextFault, DocumentsLeft, Passes, WrittenSoFar, buffered}
use Rattle.implib_tool_driver.specs.Arguments.{Answers, Calls, Performs, TurnsDown, target_named}
use Rattle.implib_tool_driver.proofs.Dividing.{parting, documents_more}

-- more bytes, after some
pub passes_more : {keeps : Bool} (old middle new : Buffered) (bytes more : List ℕ) → Passes keeps old middle bytes → Passes keeps middle new more → Passes keeps old new (bytes ++ more)
passes_more {keeps} old middle new bytes more p q = record {
  taken = p.taken ++ cond middle.failed [] q.taken;
  left = cond middle.failed (p.left ++ more) q.left;
  whole = grind (arith, append_assoc, append-nil);
  written = grind (arith, append-nil, Appends-trans, Appends-kept);
  waits = grind arith;
  sound = grind arith;
  stopped = grind (arith, Keeps-trans);
}

-- the same bytes
pub passes_as : {keeps : Bool} (old new : Buffered) (bytes same : List ℕ) → bytes ≡ same → Passes keeps old new bytes → Passes keeps old new same
passes_as {keeps} old new bytes same e p = subst (Passes keeps old new) e p

-- nothing follows
pub passes_nothing : {keeps : Bool} (old : Buffered) → Passes keeps old old []
passes_nothing old = grind (arith, append-nil, Appends-nil, Keeps-refl)

-- a writer that has failed takes no more
pub passes_failed : {keeps : Bool} (old new : Buffered) (bytes more : List ℕ) → Passes keeps old new bytes → new.failed ≡ true → Passes keeps old new (bytes ++ more)
passes_failed old new bytes more p failed = grind (arith, append_assoc old.waiting bytes more, append_assoc p.taken p.left more)

-- with a writer that takes no byte in a write that fails, a beginning is written in any case
pub beginning_written : {keeps : Bool} (before after : Option (List ℕ)) (failed failed' : Bool) (waiting waiting' bytes : List ℕ) → waiting ≡ [] → Passes keeps (buffered before failed waiting) (buffered after failed' waiting') bytes
    → keeps ≡ true → AppendsBeginning before after bytes
beginning_written before after failed failed' waiting waiting' bytes none p keeping = grind arith

-- what `write_all` answers to a writer that has not failed, and does
pub passes_written : {E : Type 0} (keeps : Bool) (before after : Option (List ℕ)) (failed failed' : Bool) (bytes : List ℕ) (answer : Result (Unit {0}) E) → failed ≡ false → OnOk answer (Appends before after bytes)
    → OnOk answer (failed' ≡ failed) → (keeps ≡ true → OnErr answer (AppendsBeginning before after bytes)) → OnErr answer (failed' ≡ true)
    → Passes keeps (buffered before failed []) (buffered after failed' []) bytes
passes_written keeps before after failed failed' bytes answer good moved sound beginning fault = grind (arith, append-nil)

-- one more write
pub written_more : (before middle after : Option (List ℕ)) (bytes rest : List ℕ) (count : ℕ) → WrittenSoFar before middle bytes rest → Appends middle after (take count rest)
    → WrittenSoFar before after bytes (take (length rest - count) (drop count rest))
written_more before middle after bytes rest count w moved = grind (arith, take-append-drop, append_assoc, take_rest, Appends-trans)

module _ (machine : MachineType) (flavor : Flavor) where
  made_last : (text : List ℕ) (members : List MemberView) → IsUndivided text → MembersOfDocument text machine flavor members → MembersOfDocuments text machine flavor (members ∷ [])
  made_last text members whole made = record { documents = text ∷ []; divided = (refl, whole); made = (made, tt) }

  made_more : (text document rest : List ℕ) (members : List MemberView) (lists : List (List MemberView)) → Divides text document rest → MembersOfDocument document machine flavor members
      → MembersOfDocuments rest machine flavor lists → MembersOfDocuments text machine flavor (members ∷ lists)
  made_more text document rest members lists d made l = record { documents = document ∷ l.documents; divided = documents_more text document rest l.documents d l.divided; made = (made, l.made) }

  refused_here : (text document : List ℕ) (after : List (List ℕ)) (cause : Cause) → Documents text (document ∷ after) → IsRefused document machine flavor cause → FirstRefused text machine flavor cause
  refused_here text document after cause divided refused = record { before = []; document = document; after = after; lists = []; divided = divided; made = tt; refused = refused }

  refused_more : (text document rest : List ℕ) (members : List MemberView) (cause : Cause) → Divides text document rest → MembersOfDocument document machine flavor members → FirstRefused rest machine flavor cause
      → FirstRefused text machine flavor cause
  refused_more text document rest members cause d made r = record {
    before = document ∷ r.before;
    document = r.document;
    after = r.after;
    lists = members ∷ r.lists;
    divided = documents_more text document rest (r.before ++ r.document ∷ r.after) d r.divided;
    made = (made, r.made);
    refused = r.refused;
  }

  -- what `divide` gives of a text
  abbrev pub Divided : List ℕ → List ℕ → Option (Bor (List ℕ)) → Type 0
  Divided text document after = MatchOption after ((document ≡ text) × IsUndivided text) (λ rest. Divides text document rest.now)

  pub document_made : (text : List ℕ) (lists : List (List MemberView)) (members : List MemberView) (left : Bor (List ℕ)) (document : List ℕ) (after : Option (Bor (List ℕ))) → DocumentsLeft text machine flavor lists (Some left)
      → Divided left.now document after → MembersOfDocument document machine flavor members → DocumentsLeft text machine flavor (lists ++ members ∷ []) after
  document_made text lists members left document None l d made = grind (arith, append-nil, made_last)
  document_made text lists members left document (Some rest) l d made = search (rules, l.lists, l.refused, append_assoc, made_more, refused_more)

  document_refused : (text : List ℕ) (lists : List (List MemberView)) (left : Bor (List ℕ)) (document : List ℕ) (after : Option (Bor (List ℕ))) (cause : Cause) → DocumentsLeft text machine flavor lists (Some left) → Divided left.now document after
      → IsRefused document machine flavor cause → FirstRefused text machine flavor cause
  document_refused text lists left document None cause l d refused = grind (arith, refused_here left.now document [] cause)
  document_refused text lists left document (Some rest) cause l d refused =
      let after = parting rest.now in
      l.refused cause (refused_here left.now document after.0 cause (documents_more left.now document rest.now after.0 d after.1) refused)

  -- what `members_of` answers, as an answer of `members_of_documents`
  pub document_fault : (text : List ℕ) (lists : List (List MemberView)) (left : Bor (List ℕ)) (document : List ℕ) (after : Option (Bor (List ℕ))) (error : RunError) → DocumentsLeft text machine flavor lists (Some left)
      → Divided left.now document after → OnDocumentFault document machine flavor error → OnTextFault text machine flavor error
  document_fault text lists left document after error l d h = grind (arith, document_refused)

-- what the program does with words that ask for this, where memory for them is refused
refused : (wanted : Option (MachineType × Flavor)) (before : Devices) → before.reader_failed ≡ false → before.writer_failed ≡ false
    → MatchOption wanted (TurnsDown before before 3) (λ w. Answers w.0 w.1 before before 3)
refused None before reader writer = record { answer = inr refl; untouched = refl }
refused (Some wanted) before reader writer = record { answer = Err OutOfMemory; runs = search (rules, Keeps-refl); is = refl }

-- both, for any words
pub arguments_answered : (arguments : List (List ℕ)) (before after : Devices) (status : ℕ) → ((status ≡ 2) ↔ IsNone (target_named arguments)) → (IsNone (target_named arguments) → after ≡ before)
    → IfSome (target_named arguments) (λ w. Answers w.0 w.1 before after status) → Calls arguments before after status
arguments_answered arguments before after status other untouched run = grind arith

pub arguments_refused : (arguments : List (List ℕ)) (before : Devices) → before.reader_failed ≡ false → before.writer_failed ≡ false → Performs arguments before before 3
arguments_refused arguments before reader writer = record { help = search rules; call = λ other. refused (target_named arguments) before reader writer }
