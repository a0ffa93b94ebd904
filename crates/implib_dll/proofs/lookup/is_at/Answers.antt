use Rattle.std.proofs.Common.{sym}
use Rattle.implib_dll.proofs.Searching.{not_at}
use Rattle.implib_dll.proofs.lookup.is_at.Goals as goal

pub returns-then-position-names-clause-found : goal.returns-then-position-names-clause-found
returns-then-position-names-clause-found c = sym (not_at c.args.names.now c.args.position c.args.wanted.now c.if-position-names.true)
