use Rattle.std.proofs.Common.{◌∙◌, ap}
use Rattle.std.proofs.lemmas.Map.Text.{hash_map_updates_str}
use Rattle.std.specs.HashMap.{get_by}
use Rattle.std.specs.Option.{unwrap_or}
use Rattle.std.specs.Str.{bytes_eq}
use Rattle.implib_compare.proofs.Counting.{one_more}
use Rattle.implib_compare.proofs.partners.note.Goals as goal

pub returns : goal.returns
returns c = λ other.
    ap (λ o. unwrap_or o 0) (hash_map_updates_str c.args.key.now c.args.counts.now c.insert.new.self _ c.in_ok-insert.ensures.updates other)
    ∙ one_more (λ ds. get_by (λ k. bytes_eq ds k.now) c.args.counts.now) c.args.key.now other c.counted-count.result c.counted-count.ensures
