use Rattle.std.proofs.Common.{arith, ◌≡◌, ◌∙◌, sym}
use Rattle.std.proofs.lemmas.Result.{IfOk-weaker}
use Rattle.implib_archive.specs.Archive.{entries_of}
use Rattle.implib_archive.specs.declared.kind.Kind.TheVariants.{Coff, Gnu}
use Rattle.implib_archive.proofs.entries.entries_of.Goals as goal

pub returns-in-Gnu-clause-listed : goal.returns-in-Gnu-clause-listed
unfolding entries_of
returns-in-Gnu-clause-listed g c = grind (arith, c.in_ok-listed.ensures, c.in-Gnu.is)

pub returns-in-Gnu-clause-sorted : goal.returns-in-Gnu-clause-sorted
returns-in-Gnu-clause-sorted g c = λ is. let other : Gnu ≡ Coff = sym c.in-Gnu.is ∙ is in absurd (cc)

pub returns-in-Coff-clause-listed : goal.returns-in-Coff-clause-listed
unfolding entries_of
returns-in-Coff-clause-listed g c = grind (arith, c.in-Coff.is, c.in_ok-listed.ensures, c.first_entries.ensures.listed)

pub returns-in-Coff-clause-sorted : goal.returns-in-Coff-clause-sorted
unfolding entries_of
returns-in-Coff-clause-sorted g c = grind (arith, IfOk-weaker, c.in-Coff.is, c.in_ok-listed.ensures, c.first_entries.ensures.sorted)
