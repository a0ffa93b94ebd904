use Rattle.std.proofs.Common.{ap, arith, refl}
use Rattle.implib_archive.specs.Archive.{long_names, names_bytes}
use Rattle.implib_archive.specs.Pushed.{shown}
use Rattle.implib_archive.proofs.Named.{long_names-more}
use Rattle.implib_archive.proofs.long_names.LongNames.of.Goals as goal

pub loop-index-init : goal.loop-index-init
unfolding long_names names_bytes
loop-index-init g c = record { same = λ _. ap shown c.new.ensures.empty; exact = λ _. refl; long = λ far. absurd (omega (arith, far)) }

pub loop-index-preserved : goal.loop-index-preserved
loop-index-preserved g c = grind (arith, long_names-more, c.loop-index-test.true, c.count-index-end.ensures, c.name.ensures, c.in_ok-add.ensures, c.loop-index.invariant)
