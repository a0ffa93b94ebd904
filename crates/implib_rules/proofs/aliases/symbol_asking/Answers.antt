use Rattle.std.proofs.Common.{arith, ◌∙◌, Some, ap, length, refl, sym}
use Rattle.std.proofs.lemmas.Option.{slice_get_past, slice_get_read}
use Rattle.implib_rules.specs.Linked.{naming_view}
use Rattle.implib_rules.proofs.Targets.{symbol_at, symbol_of_none, symbol_of_one}
use Rattle.implib_rules.proofs.aliases.symbol_asking.Goals as goal

pub returns-in_default : goal.returns-in_default
returns-in_default c = grind (arith, symbol_at)

pub returns-in_ok-symbol_linked-in-Some-get : goal.returns-in_ok-symbol_linked-in-Some-get
returns-in_ok-symbol_linked-in-Some-get c =
    let look = c.in-Some-get.ensures.lookup in
    ap Some c.in_ok-symbol_linked-in-Some-get.ensures
    ∙ symbol_of_one c.args.lookups.now.machine (naming_view c.args.lookups.now.naming) c.args.lookups.now.exports.now c.args.word.now c.in-Some.index c.in-Some-get.export.now
    (sym c.in-Some.is ∙ c.copied.ensures ∙ c.get.ensures.value ∙ c.args.lookups.now.are_asking c.args.word.now)
    (slice_get_read c.args.lookups.now.exports.now (length c.args.lookups.now.exports.now) c.in-Some.index c.in-Some-get.export.now refl look.3.0 look.1)

pub returns-in-None : goal.returns-in-None
returns-in-None c =
    symbol_of_none c.args.lookups.now.machine (naming_view c.args.lookups.now.naming) c.args.lookups.now.exports.now c.args.word.now c.in-Some.index
    (sym c.in-Some.is ∙ c.copied.ensures ∙ c.get.ensures.value ∙ c.args.lookups.now.are_asking c.args.word.now)
    (slice_get_past c.args.lookups.now.exports.now c.in-Some.index c.in-None.ensures.lookup.3)
