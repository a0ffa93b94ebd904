use Rattle.implib_c.proofs.exports.implib_imports_nonnull.Goals as goal

pub returns : goal.returns
returns c = rw (c.length_of.ensures, c.number.ensures, c.status_of.ensures) c.imports_into-answer.ensures
