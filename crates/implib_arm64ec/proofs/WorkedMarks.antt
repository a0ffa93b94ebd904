-- The marks that were worked out apart from the program, by computing.
use Rattle.std.proofs.Common.{arith}
use Rattle.implib_arm64ec.specs.Reading.{read}
use Rattle.implib_arm64ec.specs.WorkedMarks.{WorkedCraftedNames, WorkedMarks, WorkedNames, WorkedRefusals}

pub worked_marks : WorkedMarks
unfolding read
worked_marks = grind arith

pub worked_names : WorkedNames
unfolding read
worked_names = grind arith

pub worked_crafted_names : WorkedCraftedNames
unfolding read
worked_crafted_names = grind arith

pub worked_refusals : WorkedRefusals
unfolding read
worked_refusals = grind arith
