-- What a call answers with, once its files are read.
use Rattle.std.proofs.Common.{◌≡◌, ◌∙◌, Bool, ℕ, List, None, Option, Some, ap, codes, false, subst, sym, true}
use Rattle.std.proofs.lemmas.Bool.{true≢false}
use Rattle.std.specs.Prelude.{IfSome}
use Rattle.std.specs.Option.{option_map, option_map_or}
use Rattle.implib_read.specs.Archives.{Archive, archive_in}
use Rattle.implib_read.specs.Classes.{MemberRead, library_in, members_read}
use Rattle.implib_check_driver.specs.Against.{is_library}
use Rattle.implib_check_driver.specs.Answer.{AnswerView, by_library, no_library, saying}
use Rattle.implib_check_driver.specs.Calls.{CheckView}
use Rattle.implib_check_driver.specs.Checking.{CheckedAs, IsCheckedBeside, library_text}

-- what is so of bytes is so of the file that has them, if that is known
pub of_file : (So : List ℕ → Type 0) (file : Option (List ℕ)) (bytes : List ℕ) → IfSome file (λ f. bytes ≡ f) → So bytes → IfSome file So
of_file So None bytes is so = tt
of_file So (Some f) bytes is so = subst So is so

-- and the same of two files
pub of_files : (So : List ℕ → List ℕ → Type 0) (left right : Option (List ℕ)) (l r : List ℕ) → IfSome left (λ f. l ≡ f) → IfSome right (λ f. r ≡ f)
    → So l r → IfSome left (λ x. IfSome right (So x))
of_files So None right l r first second so = tt
of_files So (Some f) right l r first second so = of_file (So f) right r second (subst (λ x. So x r) first so)

-- and of three
pub of_three : (So : List ℕ → List ℕ → Option (List ℕ) → Type 0) (first second : Option (List ℕ)) (third : Option (Option (List ℕ))) (f d : List ℕ)
    (n : Option (List ℕ)) → IfSome first (λ x. f ≡ x) → IfSome second (λ x. d ≡ x) → IfSome third (λ x. n ≡ x) → So f d n
    → IfSome first (λ x. IfSome second (λ y. IfSome third (So x y)))
of_three So None second third f d n one two three so = tt
of_three So (Some x) None third f d n one two three so = tt
of_three So (Some x) (Some y) None f d n one two three so = tt
of_three So (Some x) (Some y) (Some z) f d n one two three so =
    subst (λ l. So l y z) one (subst (λ r. So f r z) two (subst (λ o. So f d o) three so))

-- an answer by a library that is read, and where there is none
pub by_read : (of : Archive → List MemberRead → AnswerView) (path bytes : List ℕ) (a : Archive) (members : List MemberRead) (x : AnswerView)
    → archive_in bytes ≡ Some a → members ≡ members_read a.members → x ≡ of a members → x ≡ by_library of path bytes
by_read of path bytes a members x read are is =
    is ∙ (ap (of a) are ∙ sym (ap (λ found. option_map_or (λ (b : Archive). of b (members_read b.members)) found (no_library path bytes)) read))

pub by_none : (of : Archive → List MemberRead → AnswerView) (path bytes : List ℕ) (x : AnswerView)
    → archive_in bytes ≡ None → x ≡ no_library path bytes → x ≡ by_library of path bytes
by_none of path bytes x read is =
    is ∙ sym (ap (λ found. option_map_or (λ (b : Archive). of b (members_read b.members)) found (no_library path bytes)) read)

-- the members of a library that is read
pub members_of_library : (bytes : List ℕ) (a : Archive) (members : List MemberRead) → archive_in bytes ≡ Some a
    → library_in bytes ≡ Some members → members ≡ members_read a.members
unfolding library_in
members_of_library bytes a members is read = same (sym read ∙ ap (option_map (λ (x : Archive). members_read x.members)) is)
  where
    same : {x y : List MemberRead} → Some x ≡ Some y → x ≡ y
    same e = cc

-- bytes of an archive beside a library, and beside definitions
pub checked_library : (json : Bool) (check : CheckView) (library definition : List ℕ) (native : Option (List ℕ)) (a : Archive) (x : AnswerView)
    → archive_in library ≡ Some a → is_library definition ≡ true → x ≡ saying 2 check.definition library_text
    → CheckedAs json check library definition native (archive_in library) x
checked_library json check library definition native a x read like is =
    subst (λ found. CheckedAs json check library definition native found x) (sym read) ((λ yes. is), (λ none. absurd (true≢false (sym like ∙ none))))

pub checked_beside : (json : Bool) (check : CheckView) (library definition : List ℕ) (native : Option (List ℕ)) (a : Archive) (x : AnswerView)
    → archive_in library ≡ Some a → is_library definition ≡ false → IsCheckedBeside json check a definition native x
    → CheckedAs json check library definition native (archive_in library) x
checked_beside json check library definition native a x read unlike is =
    subst (λ found. CheckedAs json check library definition native found x) (sym read) ((λ yes. absurd (true≢false (sym yes ∙ unlike))), (λ here. is))
