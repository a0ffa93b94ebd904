use Rattle.std.proofs.Common.{ap, ◌∙◌}
use Rattle.std.proofs.lemmas.Iterator.{items_from_collect}
use Rattle.std.proofs.lemmas.Iterator.Adapters.{YieldsList-from_skip, YieldsList-from_vec}
use Rattle.std.specs.Iterator.Adapters.{skip_source}
use Rattle.std.specs.Vec.Iter.{into_iter_items, into_iter_len}
use Rattle.implib_tool_driver.proofs.program.but_the_first.Goals as goal

pub returns : goal.returns
returns c =
    let all = YieldsList-from_vec {s = skip_source c.skip.result} (into_iter_items c.args.command_line) (ap into_iter_items c.skip.ensures.source)
    (ap into_iter_len c.skip.ensures.source ∙ c.args.command_line.rest.ok.0) in
    items_from_collect c.collect.result c.collect.ensures.ran (YieldsList-from_skip {s = c.skip.result} 1 all c.skip.ensures.count)
