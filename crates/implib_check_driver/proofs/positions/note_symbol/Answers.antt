use Rattle.std.proofs.Common.{◌≡◌, ◌∙◌, None, Some, ap, bytes_eq, if◌then◌else◌, rules}
use Rattle.std.proofs.lemmas.Map.Text.{hash_map_updates_text}
use Rattle.std.specs.HashMap.{get_by_text}
use Rattle.std.specs.Option.{option_or}
use Rattle.std.specs.String.{string_bytes}
use Rattle.implib_read.proofs.FirstPlaces.{placed}
use Rattle.implib_check_driver.proofs.positions.note_symbol.Goals as goal

pub returns-in_ok-insert : goal.returns-in_ok-insert
returns-in_ok-insert c = λ other.
    let key = string_bytes c.in_ok-clone.field-0 in
    let same : key ≡ string_bytes c.args.symbol.now = search rules in
    let none : get_by_text c.args.by_symbol.now key ≡ None = search rules in
    hash_map_updates_text key c.args.by_symbol.now c.insert.new.self _ c.in_ok-insert.ensures.updates other
    ∙ placed (get_by_text c.args.by_symbol.now) key other c.args.position none
    ∙ ap (λ s. option_or (get_by_text c.args.by_symbol.now other) (if bytes_eq s other then Some c.args.position else None)) same
