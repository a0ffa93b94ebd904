use Rattle.std.proofs.Common.{arith}
use Rattle.std.proofs.lemmas.Bool.{eqb-false, eqb-true}
use Rattle.std.proofs.lemmas.List.{length-map}
use Rattle.implib_archive.proofs.Appended.{pushes_as, pushes_nothing}
use Rattle.implib_archive.proofs.Behind.{begins_as, begins_longer, behind_err, behind_last, behind_pushed, writes_behind_as}
use Rattle.implib_archive.proofs.Sized.{linkers-coff, linkers-gnu, linkers-none}
use Rattle.implib_archive.proofs.front.write_linkers.Goals as goal

pub returns-in_err-write_first_linker-in-Coff : goal.returns-in_err-write_first_linker-in-Coff
returns-in_err-write_first_linker-in-Coff g c = grind (arith, behind_err, begins_as, linkers-coff, begins_longer, c.from_residual.ensures.0, c.in-Coff.is, c.in_err-write_first_linker-in-Coff.ensures)

pub returns-in_ok-write_first_linker-in-Coff : goal.returns-in_ok-write_first_linker-in-Coff
returns-in_ok-write_first_linker-in-Coff g c = grind (arith, writes_behind_as, linkers-coff, behind_last, c.requires.ordered, c.in-Coff.is, c.in_ok-write_first_linker-in-Coff.ensures, c.write_second_linker.ensures)

pub returns-then-is_empty : goal.returns-then-is_empty
returns-then-is_empty g c = grind (arith, length-map, eqb-true, behind_pushed, pushes_as, linkers-none, pushes_nothing, c.is_empty.ensures, c.if-is_empty.true, c.in-Gnu.is)

pub returns-else-is_empty : goal.returns-else-is_empty
returns-else-is_empty g c = grind (arith, length-map, eqb-false, writes_behind_as, linkers-gnu, c.is_empty.ensures, c.if-is_empty.false, c.in-Gnu.is, c.write_first_linker-in-Gnu.ensures)
