use Rattle.std.proofs.Common.{arith}
use Rattle.implib_arm64ec.proofs.Listed.{import_at, many_listed, native_at}
use Rattle.implib_arm64ec.proofs.listing.Listing.at.Goals as goal

pub returns-then-behind-len-clause-member : goal.returns-then-behind-len-clause-member
returns-then-behind-len-clause-member c = grind (arith, import_at, c.has_imports.ensures, c.if-index-self.false, c.if-behind-len.true, c.len.ensures.count)

pub returns-clause-member : goal.returns-clause-member
returns-clause-member c = grind (arith, native_at, many_listed, c.len-2.ensures.count, c.has_natives.ensures, c.if-index-self.false, c.if-behind-len.false, c.len.ensures.count, c.requires)
