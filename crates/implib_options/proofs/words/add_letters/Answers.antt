use Rattle.std.proofs.Common.{◌∙◌, ◌<◌, Some, None, ap, get_or, drop, map, inl, inr, refl, subst, sym}
use Rattle.std.proofs.lemmas.Str.{IsCharBoundary-after_ascii}
use Rattle.std.proofs.lemmas.List.{map-append}
use Rattle.implib_options.specs.Given.{given_view}
use Rattle.implib_options.proofs.Letters.{at_last, at_switch, empty, some}
use Rattle.implib_options.proofs.words.add_letters.Goals as goal
use Rattle.implib_options.proofs.words.add_letters.Goals.{then-is_empty-via-then-is_empty, then-is_empty-via-else-is_empty+then-not-is_switch}

pub returns-in_default : goal.returns-in_default
returns-in_default c =
    at_last c.args.of c.args.word.now c.args.letters.now _ _ c.letters.text.now c.as_bytes.result.now (drop 1 c.letters.text.now) None _ _ c.letters.invariant.led c.as_bytes.ensures.value c.letters.invariant.some
    (sym c.in_default.is ∙ c.lettered.ensures.kind) refl (inl refl) refl refl

pub range_from-rest-requires : goal.range_from-rest-requires
range_from-rest-requires c = λ below. IsCharBoundary-after_ascii c.letters.text.now 0 c.letters.invariant.utf8 c.letters.invariant.some
    (subst (λ b. get_or b 0 0 < 128) c.as_bytes.ensures.value (c.in-Some.ensures.ascii refl))

pub returns-then-is_empty : goal.returns-then-is_empty
returns-then-is_empty c =
    at_last c.args.of c.args.word.now c.args.letters.now _ _ c.letters.text.now c.as_bytes.result.now c.range_from-rest.result.now (Some (c.in-Some.takes, c.in-Some.meaning)) _ _
    c.letters.invariant.led c.as_bytes.ensures.value c.letters.invariant.some c.in-Some.ensures.kind c.range_from-rest.ensures.value
    (elim c.then-is_empty.branch [ then-is_empty-via-then-is_empty w ↦ inr (empty c.range_from-rest.result.now c.is_empty.result c.is_empty.ensures w.if-is_empty.true) | then-is_empty-via-else-is_empty+then-not-is_switch w ↦ inl (sym w.is_switch.ensures ∙ w.if-not-is_switch.true) ])
    c.unless_empty.ensures c.saying.ensures

pub letters-preserved : goal.letters-preserved
letters-preserved c =
    let more = some c.range_from-rest.result.now c.is_empty.result c.is_empty.ensures c.if-is_empty.false in
    record {
      utf8 = c.range_from-rest.utf8;
      some = more;
      led = rw c.range_from-rest.ensures.value (at_switch c.args.of c.args.word.now c.args.letters.now _ (map given_view c.letters.given.items) (map given_view c.push.new.self.items) c.letters.text.now c.as_bytes.result.now c.in-Some.takes c.in-Some.meaning
          c.letters.invariant.led c.as_bytes.ensures.value c.letters.invariant.some (rw c.range_from-rest.ensures.value at more) c.in-Some.ensures.kind (sym c.is_switch.ensures ∙ c.if-not-is_switch.false)
          (ap (map given_view) c.in_ok-push.ensures.items ∙ map-append given_view _ _));
    }
