use Rattle.std.proofs.Common.{arith, ◌≡◌, ◌∙◌, ap, length, map, refl, rules, sym, true}
use Rattle.std.proofs.lemmas.Option.{slice_get_past, slice_get_read}
use Rattle.implib.specs.Definition.{export_view}
use Rattle.implib_rules.specs.Firsts.{first_of_word}
use Rattle.implib_rules.specs.Linked.{has_target}
use Rattle.implib_rules.proofs.ByOrdinal.{ordinal_at, ordinal_of_none, ordinal_of_one}
use Rattle.implib_rules.proofs.nameless.ordinal_asked.Goals as goal

pub returns-in_default : goal.returns-in_default
returns-in_default c = grind (arith, ordinal_at)

pub returns-in-Some-get : goal.returns-in-Some-get
returns-in-Some-get c =
    let exports = map export_view c.args.words.now.exports.now in
    let e = export_view c.args.export.now in
    let filled : has_target e ≡ true = search rules in
    let look = c.in-Some-get.ensures.lookup in
    c.nameless.ensures
    ∙ ordinal_of_one c.args.words.now.exports.now e c.in-Some.index c.in-Some-get.first.now filled c.if-export.false
    (sym c.in-Some.is ∙ c.copied.ensures ∙ c.get.ensures.value ∙ c.args.words.now.are_first c.as_str.result.now ∙ ap (λ t. first_of_word t exports) c.as_str.ensures.value)
    (slice_get_read c.args.words.now.exports.now (length c.args.words.now.exports.now) c.in-Some.index c.in-Some-get.first.now refl look.3.0 look.1)

pub returns-in-None : goal.returns-in-None
returns-in-None c =
    let exports = map export_view c.args.words.now.exports.now in
    let e = export_view c.args.export.now in
    let filled : has_target e ≡ true = search rules in
    ordinal_of_none c.args.words.now.exports.now e c.in-Some.index filled c.if-export.false
    (sym c.in-Some.is ∙ c.copied.ensures ∙ c.get.ensures.value ∙ c.args.words.now.are_first c.as_str.result.now ∙ ap (λ t. first_of_word t exports) c.as_str.ensures.value)
    (slice_get_past c.args.words.now.exports.now c.in-Some.index c.in-None.ensures.lookup.3)
