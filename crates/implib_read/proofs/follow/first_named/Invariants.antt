use Rattle.std.proofs.Common.{◌≡◌, bytes_eq, drop, map}
use Rattle.std.specs.List.{find}
use Rattle.implib_read.specs.ObjectViews.{section_view}
use Rattle.implib_read.proofs.follow.first_named.Given as goal

abbrev pub invariant-loop-section : goal.invariant-loop-section
invariant-loop-section l =
    find (λ s. bytes_eq s.name l.name) (map section_view (drop l.section-index l.sections))
    ≡ find (λ s. bytes_eq s.name l.name) (map section_view l.sections)
