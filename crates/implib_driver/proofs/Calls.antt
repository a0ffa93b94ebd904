-- Lemmas on command lines.
use Rattle.std.proofs.Common.{◌≡◌, ℕ, ◌<◌, Bool, List, [], ◌∷◌, Option, Ok, inl, length, map, arith, subst, sym}
use Rattle.implib_driver.specs.LibWords.{AreRead}
use Rattle.implib_driver.specs.Program.{Devices, DoesOptions, DoesTask, DoesWords, Runs, own_name, subject_of}
use Rattle.implib_options.specs.Given.{GivenView}
use Rattle.implib_driver.specs.Request.{Asked, TaskView, caller_of, request_for, task_of}

-- a command line without arguments
pub runs_without : {A : Type 0} (view : A → List ℕ) (arguments : List A) (known : Bool) (before after : Devices) (printed prints : Option (List ℕ)) (status : ℕ)
    → length arguments < 1
    → DoesWords known own_name (map view arguments) before after printed prints status
    → Runs known (map view arguments) before after printed prints status
runs_without view [] known before after printed prints status none does = does
runs_without view (argument ∷ arguments) known before after printed prints status none does = absurd (omega arith)

module _ (known : Bool) (program : List ℕ) (words : List (List ℕ)) (options : List GivenView) (are : AreRead program words (Ok options))
    (before after : Devices) (printed prints : Option (List ℕ)) (status : ℕ) where
  -- what is done for options is done for the words that spell them
  pub does_options : DoesOptions known program options before after printed prints status → DoesWords known program words before after printed prints status
  does_options does = inl (Ok options, are, does)

  -- what is done for a task is done for the words that ask for it
  pub does_task : (asked : Asked TaskView) → task_of (caller_of program) options ≡ asked → DoesTask known (subject_of program) (request_for (caller_of program) options) asked before after printed prints status
      → DoesWords known program words before after printed prints status
  does_task asked is does = does_options (inl (subst (λ task. DoesTask known (subject_of program) (request_for (caller_of program) options) task before after printed prints status) (sym is) does))
