-- What no case can show: a want of memory, whose status would be 1 in code and specs alike if both
-- told it with other refusals; arguments that the system does not give; a new file that could not
-- be removed; and that words which are not LIB's are read as dlltool's, whatever they are.
use Rattle.std.specs.Prelude.{◌≡◌, ℕ, List, [], ◌∷◌, Option, false, None, Err, codes}
use Rattle.std.specs.Str.{bytes_eq}
use Rattle.std.specs.declared.io.ErrorKind.TheVariants.{NotFound}
use Rattle.implib_driver.specs.Arm64ecProgram.{arm64ec_status}
use Rattle.implib_driver.specs.Disk.{DiskView}
use Rattle.implib_driver.specs.LibWords.{AreRead, IsReadBy, is_lib_name}
use Rattle.implib_driver.specs.Placing.{IsUnplaced}
use Rattle.implib_driver.specs.Program.{Devices, IsUncalled, answer_status, delay_status}
use Rattle.implib_libraries.specs.declared.arm64ec.Arm64ecRefusal.TheVariants as refusal
use Rattle.implib_libraries.specs.declared.delayed.DelayRefusal.TheVariants as delay
use Rattle.implib_options.specs.Words.{Reading}
use Rattle.implib_rules.specs.declared.library.LibraryError.TheVariants.{Refused}
use Rattle.implib_rules.specs.declared.library.Refusal.TheVariants.{OutOfMemory}

pub record AnswersTold : Type 0 where
  pub no_memory : answer_status (Err (Refused OutOfMemory)) ≡ 3
  pub no_memory_for_delay : delay_status (delay.Refused OutOfMemory) ≡ 3
  pub no_memory_for_arm64ec : arm64ec_status refusal.OutOfMemory ≡ 3
  pub no_memory_for_native : arm64ec_status (refusal.OfNative OutOfMemory) ≡ 3
  pub no_arguments : (before after : Devices) (printed prints : Option (List ℕ)) (status : ℕ)
      → IsUncalled NotFound [] before after printed prints status → status ≡ 3
  pub nothing_left : (before after : DiskView) → IsUnplaced before after → after.is_stuck ≡ false →
      after.left ≡ None
  pub as_before : (program word : List ℕ) (words : List (List ℕ)) (reading : Reading)
      → is_lib_name program ≡ false → bytes_eq word (codes "--lib") ≡ false
      → AreRead program (word ∷ words) reading → IsReadBy false (word ∷ words) reading
  pub as_before_without_words : (program : List ℕ) (reading : Reading)
      → is_lib_name program ≡ false → AreRead program [] reading → IsReadBy false [] reading
