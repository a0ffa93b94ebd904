use Rattle.std.proofs.Common.{◌≡◌, ◌∙◌, None, bytes_eq, rules}
use Rattle.std.specs.HashMap.{get_by}
use Rattle.std.proofs.lemmas.Map.Text.{hash_map_updates_str}
use Rattle.implib_read.proofs.FirstPlaces.{placed}
use Rattle.implib_read.proofs.definers.note_place.Goals as goal

pub returns-in_ok-insert : goal.returns-in_ok-insert
returns-in_ok-insert c = λ other.
    let none : get_by (λ k. bytes_eq c.args.name.now k.now) c.args.places.now ≡ None = search rules in
    hash_map_updates_str c.args.name.now c.args.places.now c.insert.new.self _ c.in_ok-insert.ensures.updates other
    ∙ placed (λ name. get_by (λ k. bytes_eq name k.now) c.args.places.now) c.args.name.now other c.args.place none
