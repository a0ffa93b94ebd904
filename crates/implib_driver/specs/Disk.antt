-- What is known of where definitions are read from and libraries go (this project's own).
use Rattle.std.specs.Prelude.{◌≡◌, ℕ, Bool, true, false, List, Option, None, Some, IfSome, codes}
use Rattle.std.specs.Prelude.{if◌then◌else◌}
use Rattle.std.specs.Str.{bytes_eq}

-- what is known of a disk
pub record DiskView : Type 0 where
  -- the bytes of the file that a path leads to, where they are known
  pub seen : List ℕ → Option (List ℕ)
  -- whether two paths lead to one file, where that is known; where there is no file yet, to one
  -- place for it
  pub same : List ℕ → List ℕ → Option Bool
  -- the names of what is in the folder that a path leads to, where they are known
  pub listed : List ℕ → Option (List (List ℕ))
  -- the path whose file a new one is to replace, while the new one is there
  pub left : Option (List ℕ)
  -- whether a call has failed, other than a removal
  pub has_failed : Bool
  -- whether a removal has failed
  pub is_stuck : Bool

-- after a call that failed: all else is as it was
abbrev pub failing : DiskView → DiskView
failing disk = record disk { has_failed = true }

-- with a new file for a path
abbrev pub beginning : List ℕ → DiskView → DiskView
beginning path disk = record disk { left = Some path }

-- without the new file
abbrev pub removed : DiskView → DiskView
removed disk = record disk { left = None }

-- after a removal that failed
abbrev pub stuck : DiskView → DiskView
stuck disk = record disk { is_stuck = true }

-- all files are as they were but the one that a path leads to, and paths that lead to different
-- files still do
pub record KeepsOthers (before after : DiskView) (path : List ℕ) : Type 0 where
  pub seen : (other : List ℕ) → before.same path other ≡ Some false →
      after.seen other ≡ before.seen other
  pub apart : (one other : List ℕ) → before.same one other ≡ Some false →
      after.same one other ≡ Some false

-- A new file took the place of the one that its path leads to, where bytes are known. Other files
-- stay; of other paths that lead there, by links, nothing is said.
pub record Replaces (known : Bool) (before after : DiskView) (file : Option (List ℕ)) : Type 0 where
  pub at_path : known ≡ true → IfSome before.left (λ path. after.seen path ≡ file)
  pub others : IfSome before.left (KeepsOthers before after)
  pub none_left : after.left ≡ None
  pub same_failures : after.has_failed ≡ before.has_failed
  pub same_removals : after.is_stuck ≡ before.is_stuck

-- the bytes of the definition: for `-` those that standard input has left, else those of the file
abbrev pub definition_in : Option (List ℕ) → DiskView → List ℕ → Option (List ℕ)
definition_in input disk path = if bytes_eq path (codes "-") then input else disk.seen path

-- all files are as they were, and nothing new is left
pub record KeepsFiles (before after : DiskView) : Type 0 where
  pub seen : after.seen ≡ before.seen
  pub left : after.left ≡ before.left
