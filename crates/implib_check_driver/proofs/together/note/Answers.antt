use Rattle.std.proofs.Common.{◌≡◌, ◌∙◌, None, bytes_eq, rules}
use Rattle.std.proofs.lemmas.Map.Text.{hash_map_updates_str}
use Rattle.std.specs.HashMap.{get_by}
use Rattle.implib_read.proofs.FirstPlaces.{placed}
use Rattle.implib_check_driver.proofs.together.note.Goals as goal

pub returns-in_ok-insert : goal.returns-in_ok-insert
returns-in_ok-insert c = λ other.
    let none : get_by (λ k. bytes_eq c.args.symbol.now k.now) c.args.firsts.now ≡ None = search rules in
    hash_map_updates_str c.args.symbol.now c.args.firsts.now c.insert.new.self _ c.in_ok-insert.ensures.updates other
    ∙ placed (λ s. get_by (λ k. bytes_eq s k.now) c.args.firsts.now) c.args.symbol.now other c.args.number none
