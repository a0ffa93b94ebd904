use Rattle.std.proofs.Common.{arith}
use Rattle.std.proofs.lemmas.List.{map-append}
use Rattle.implib_archive.proofs.Listed.{inserted_new, listed_key, with_first-listed, with_first-new}
use Rattle.implib_archive.proofs.entries.push_first.Goals as goal

pub returns-then-contains_key-clause-listed : goal.returns-then-contains_key-clause-listed
returns-then-contains_key-clause-listed c = grind (arith, listed_key, with_first-listed, c.contains_key.ensures, c.if-contains_key.true)

pub returns-then-contains_key-clause-firsts : goal.returns-then-contains_key-clause-firsts
returns-then-contains_key-clause-firsts c = grind (arith, listed_key, with_first-listed, c.contains_key.ensures, c.if-contains_key.true, c.requires)

pub returns-clause-listed : goal.returns-clause-listed
returns-clause-listed c = grind (arith, listed_key, inserted_new, with_first-new, c.contains_key.ensures, c.if-contains_key.false, c.in_ok-insert.ensures.entries)

pub returns-clause-firsts : goal.returns-clause-firsts
returns-clause-firsts c = grind (arith, listed_key, map-append, with_first-new, c.contains_key.ensures, c.if-contains_key.false, c.in_ok-push.ensures.items, c.requires)
