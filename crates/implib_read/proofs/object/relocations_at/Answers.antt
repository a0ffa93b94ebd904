use Rattle.std.proofs.Common.{sym, rules, arith}
use Rattle.implib.specs.Formats.Object.{relocation_at}
use Rattle.implib_read.specs.Objects.{records_in, relocations_of}
use Rattle.implib_read.proofs.Gathering.{each_at-end}
use Rattle.implib_read.proofs.Records.{relocations_at-is, seen}
use Rattle.implib_read.proofs.object.relocations_at.Goals as goal

pub returns-then-count-eq0 : goal.returns-then-count-eq0
unfolding records_in
returns-then-count-eq0 c = sym (each_at-end (relocation_at c.args.bytes.now) c.args.offset 10 c.args.count (search rules))

pub returns-else-count-eq0 : goal.returns-else-count-eq0
returns-else-count-eq0 c = cc (seen relocations_of c.bytes_at.result, relocations_at-is c.args.bytes.now c.args.offset c.args.count (search (rules, arith)), c.bytes_at.ensures.found)
