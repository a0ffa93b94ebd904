use Rattle.std.proofs.Common.{flat_map, take}
use Rattle.implib_archive.specs.Parts.{u32_le}
use Rattle.implib_archive.specs.Pushed.{Pushes}
use Rattle.implib_archive.proofs.front.push_places.Given as goal

-- the offsets so far
abbrev pub invariant-loop-place : goal.invariant-loop-place
invariant-loop-place l = Pushes l.fn.out.items l.out.items (flat_map u32_le (take l.place-index l.places))
