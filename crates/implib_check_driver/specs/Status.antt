-- The exit status of the program (this project's choice).
use Rattle.std.specs.Prelude.{ℕ, Bool, ◌==◌, ◌&&◌, ◌||◌, not, if◌then◌else◌}
use Rattle.implib_compare.specs.declared.compare.Verdict.{Verdict}
use Rattle.implib_compare.specs.declared.compare.Verdict.TheVariants.{Different, NotDecided, Same}
use Rattle.implib_compare.specs.declared.working.Working.{Working}
use Rattle.implib_compare.specs.Working.{working_status}

-- of a comparison: 0 the same, 1 different, 4 not decided
abbrev pub verdict_status : Verdict → ℕ
verdict_status Same = 0
verdict_status Different = 1
verdict_status NotDecided = 4

-- of a comparison of libraries that have to work: where they are the same, whether they work
abbrev pub comparison_status : Verdict → Working → ℕ
comparison_status Same working = working_status working
comparison_status Different working = verdict_status Different
comparison_status NotDecided working = verdict_status NotDecided

-- of a list: 4 where a member may import what is not read
abbrev pub list_status : Bool → ℕ
list_status unread = if unread then 4 else 0

-- of the names of a number of DLLs: 4 where a member may import what is not read, and 1 where there
-- is none, or not one alone where one is asked for
abbrev pub identity_status : Bool → ℕ → Bool → ℕ
identity_status unread count is_strict =
    if unread then 4 else if count == 0 || (is_strict && not (count == 1)) then 1 else 0

-- of libraries in one link: 4 where a member may import what is not read, and 1 where two clash
abbrev pub together_status : Bool → Bool → ℕ
together_status unread clash = if unread then 4 else if clash then 1 else 0
