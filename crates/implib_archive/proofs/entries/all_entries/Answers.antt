use Rattle.std.proofs.Common.{◌+◌, ◌<◌, ◌∙◌, arith, length}
use Rattle.implib_archive.specs.Pushed.{shown}
use Rattle.implib_archive.specs.Sources.{no_member}
use Rattle.implib_archive.proofs.Listed.{entries_all, entries_more}
use Rattle.implib_archive.proofs.entries.all_entries.Goals as goal

pub loop-index-preserved : goal.loop-index-preserved
loop-index-preserved g c =
    let members = g.S.Members.members c.args.source.now in
    let i = c.loop-index.index in
    let within : i < length members = omega (arith, c.loop-index-test.true, c.count-index-end.ensures) in
    entries_more (shown c.loop-index.entries.items) (shown c.push_entries.new.entries.items) (i + 1) members i no_member within c.in_ok-push_entries.ensures
    ∙ c.loop-index.invariant

pub returns : goal.returns
returns g c = grind (arith, entries_all, c.loop-index-test.false, c.count-index-end.ensures, c.loop-index.invariant)
