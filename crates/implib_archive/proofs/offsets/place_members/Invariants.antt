use Rattle.std.proofs.Common.{◌≡◌, ◌^◌, ◌<◌, ◌++◌, drop, nat_lt}
use Rattle.std.specs.List.{list_all}
use Rattle.implib_archive.specs.Archive.{end_from, places_from}
use Rattle.implib_archive.proofs.offsets.place_members.Given as goal

-- the offsets so far, and those of the members that are left
abbrev pub invariant-loop-index : goal.invariant-loop-index
invariant-loop-index g l = record {
  begins : l.first < 2 ^ 32;
  offsets : l.offsets.items ++ places_from l.place (drop l.index (g.S.Members.members l.source)) ≡ places_from l.first (g.S.Members.members l.source);
  ends : end_from l.place (drop l.index (g.S.Members.members l.source)) ≡ end_from l.first (g.S.Members.members l.source);
  short : list_all (λ p. nat_lt p (2 ^ 32)) (places_from l.place (drop l.index (g.S.Members.members l.source)))
      ≡ list_all (λ p. nat_lt p (2 ^ 32)) (places_from l.first (g.S.Members.members l.source));
}
