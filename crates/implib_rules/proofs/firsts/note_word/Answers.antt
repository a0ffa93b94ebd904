use Rattle.std.proofs.Common.{◌∙◌, ap, bytes_eq, sym}
use Rattle.std.proofs.lemmas.Map.Text.{hash_map_updates_str}
use Rattle.std.specs.HashMap.{get_by}
use Rattle.implib_rules.proofs.FirstExports.{none_of, noted}
use Rattle.implib_rules.proofs.firsts.note_word.Goals as goal

pub returns : goal.returns
returns c = λ other.
    let absent = none_of _ (sym c.contains_key.ensures ∙ c.if-contains_key.false) in
    noted c.args.word.now other c.args.index _ _
    (λ same. ap (λ bs. get_by (λ k. bytes_eq bs k.now) c.args.firsts.now) same ∙ absent)
    (hash_map_updates_str c.args.word.now c.args.firsts.now c.insert.new.self _ c.in_ok-insert.ensures.updates other)
