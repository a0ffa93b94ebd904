use Rattle.std.proofs.Common.{flat_map, take}
use Rattle.implib_archive.specs.Archive.{place_of}
use Rattle.implib_archive.specs.Parts.{u32_be}
use Rattle.implib_archive.specs.Pushed.{Pushes, shown}
use Rattle.implib_archive.proofs.front.push_entry_places.Given as goal

-- the offsets so far
abbrev pub invariant-loop-entry : goal.invariant-loop-entry
invariant-loop-entry l = Pushes l.fn.out.items l.out.items (flat_map (λ e. u32_be (place_of l.places e.1)) (shown (take l.entry-index l.entries)))
