use Rattle.std.proofs.Common.{◌≡◌, ℕ, List, take, map}
use Rattle.implib_read.specs.FileViews.{file_view}
use Rattle.implib_read.specs.Files.{definer_among}
use Rattle.implib_read.specs.FollowingViews.{places_of}
use Rattle.implib_read.proofs.definers.definers_of.Given as goal

abbrev pub invariant-loop-file : goal.invariant-loop-file
invariant-loop-file l = (other : List ℕ) → places_of l.places other ≡ definer_among (map file_view (take l.file-index l.files)) other
