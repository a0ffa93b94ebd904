-- Lemmas on what is done where a library of delayed imports is asked for, and where none is.
use Rattle.std.proofs.Common.{◌≡◌, ℕ, Bool, List, Option, None, Some, subst, sym}
use Rattle.implib_driver.specs.Disk.{DiskView}
use Rattle.implib_driver.specs.Program.{Finishes, FinishesDelaying, FinishesText}
use Rattle.implib_driver.specs.Reports.{Line}
use Rattle.implib_driver.specs.Request.{RequestView}

-- what is done where no library of delayed imports is asked for, and where one is
pub finishes_alone : (known : Bool) (bytes : List ℕ) (delayed : Option (List ℕ)) (request : RequestView) (disk put : DiskView) (before after : Option (List Line))
    (status : ℕ) → delayed ≡ None → Finishes known bytes request disk put before after status
    → FinishesText known bytes delayed request disk put before after status
finishes_alone known bytes delayed request disk put before after status is done =
    subst (λ d. FinishesText known bytes d request disk put before after status) (sym is) done

pub finishes_delaying : (known : Bool) (bytes path : List ℕ) (delayed : Option (List ℕ)) (request : RequestView) (disk put : DiskView)
    (before after : Option (List Line)) (status : ℕ) → delayed ≡ Some path → FinishesDelaying known bytes path request disk put before after status
    → FinishesText known bytes delayed request disk put before after status
finishes_delaying known bytes path delayed request disk put before after status is done =
    subst (λ d. FinishesText known bytes d request disk put before after status) (sym is) done
