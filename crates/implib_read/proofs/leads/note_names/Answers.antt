use Rattle.std.proofs.Common.{◌≡◌, ◌∙◌, None, Some, ap, bytes_eq, get_or, if◌then◌else◌, rules}
use Rattle.std.specs.Option.{option_or}
use Rattle.implib_read.specs.LeadViews.{offset_of}
use Rattle.implib_read.proofs.Declarers.{noted-listed}
use Rattle.implib_read.proofs.leads.note_names.Goals as goal

pub loop-name-preserved : goal.loop-name-preserved
loop-name-preserved c = λ other.
    let item : c.deref.result.now ≡ (get_or c.args.names.now c.loop-name.name-index c.name-item.result).items =
    c.deref.ensures.value ∙ ap (λ v. v.items) c.name-item.is in
    noted-listed (λ name. name.items) c.args.names.now c.loop-name.name-index c.name-item.result c.args.offset other _ _ _ (search rules)
    (c.in_ok-note_symbol.ensures other ∙ ap (λ s. option_or (offset_of c.loop-name.declarers other) (if bytes_eq s other then Some c.args.offset else None)) item)
    (c.loop-name.invariant other)
