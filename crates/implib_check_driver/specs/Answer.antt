-- What a call comes to (docs/CHECK.md).
use Rattle.std.specs.Prelude.{◌≡◌, ℕ, Bool, false, true, List, [], ◌++◌, Option, Some, None, codes, map}
use Rattle.std.specs.Fmt.{digits}
use Rattle.std.specs.List.{flat_map}
use Rattle.std.specs.Option.{option_map_or}
use Rattle.implib_read.specs.Archives.{Archive, archive_in, cut_in}
use Rattle.implib_read.specs.ArchiveViews.{archive_view}
use Rattle.implib_read.specs.ClassViews.{member_read_view}
use Rattle.implib_read.specs.Classes.{MemberRead, members_read}
use Rattle.implib_read.specs.declared.library.Library.{Library}
use Rattle.implib_check_driver.specs.Json.{FindingView}
use Rattle.implib_check_driver.specs.Text.{line_in}
use Rattle.implib_check_driver.specs.declared.answer.Answer.{Answer}
use Rattle.implib_check_driver.specs.declared.answer.Halt.{Halt}
use Rattle.implib_check_driver.specs.declared.answer.Halt.TheVariants as halt

-- an exit status, and what is written on standard output and on standard error
pub record AnswerView : Type 0 where
  pub status : ℕ
  pub out : List ℕ
  pub err : List ℕ

-- the view of an answer of the program
abbrev pub answer_view : Answer → AnswerView
answer_view a = record { status = a.status; out = a.out.items; err = a.err.items }

-- a line of standard error, about a file
abbrev pub line_about : List ℕ → List ℕ → List ℕ
line_about path text = path ++ (codes ": " ++ (text ++ codes "\n"))

-- an answer of one line of standard error alone
abbrev pub saying : ℕ → List ℕ → List ℕ → AnswerView
saying status path text = record { status = status; out = []; err = line_about path text }

-- the lines of findings, in order
abbrev pub lines : Bool → List FindingView → List ℕ
lines json findings = flat_map (line_in json) findings

-- A refusal by what a definition, a DLL or an archive has: one line, whose words are those of the
-- refusal.
pub record IsRefusedAs (status : ℕ) (a : AnswerView) : Type 0 where
  pub text : List ℕ
  pub is : a ≡ record { status = status; out = []; err = text ++ codes "\n" }

-- an answer of one line about a file, whatever it says
pub record IsSaid (status : ℕ) (path : List ℕ) (a : AnswerView) : Type 0 where
  pub text : List ℕ
  pub is : a ≡ saying status path text

-- A call that the system fails: a file or a folder cannot be read.
pub record Fails (may_fail : List ℕ → Bool) (a : AnswerView) : Type 0 where
  pub path : List ℕ
  pub may : may_fail path ≡ true
  pub said : IsSaid 3 path a

-- what is said of an answer by which a call ends early, unless it ends for want of memory
abbrev pub IfEnds : Halt → (AnswerView → Type 0) → Type 0
IfEnds (halt.Ends a) so = so (answer_view a)
IfEnds halt.OutOfMemory so = Unit {0}

-- a call ends early: for want of memory, or since the system fails
abbrev pub IsHalt : (List ℕ → Bool) → Halt → Type 0
IsHalt may_fail h = IfEnds h (Fails may_fail)

-- what is said of bytes that are no library: where they are cut off, or that they are none
unfoldable pub no_archive_text : Option ℕ → List ℕ
no_archive_text (Some offset) = codes "the library is cut off: the member at 0x"
    ++ (digits 16 false offset ++ codes " passes the end of the file")
no_archive_text None = codes "not an archive, or a thin one"

abbrev pub no_library : List ℕ → List ℕ → AnswerView
no_library path bytes = saying 1 path (no_archive_text (cut_in bytes))

-- a library is that of these bytes
abbrev pub IsReadAs : List ℕ → Library → Type 0
IsReadAs bytes l = (archive_in bytes ≡ Some (archive_view l.archive))
    × (map member_read_view l.members.items ≡ members_read (archive_view l.archive).members)

-- an answer by the library that bytes are, where they are one
abbrev pub by_library : (Archive → List MemberRead → AnswerView) → List ℕ → List ℕ → AnswerView
by_library of path bytes =
    option_map_or (λ (a : Archive). of a (members_read a.members)) (archive_in bytes)
    (no_library path bytes)
