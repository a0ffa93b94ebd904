use Rattle.std.proofs.Common.{◌≡◌, Some, ap, inr, refl, rules}
use Rattle.std.specs.Option.{option_map}
use Rattle.implib_rules.specs.Forms.{misplaced_in}
use Rattle.implib_rules.specs.Heard.{misplaced_view}
use Rattle.implib_rules.specs.Options.{library_options_view}
use Rattle.implib_rules.proofs.library.definition_for.Goals as goal

pub returns-in-Err-clause-refused : goal.returns-in-Err-clause-refused
returns-in-Err-clause-refused c = c.in-Err.ensures.open (library_options_view c.args.options.now)

pub returns-in-Some-clause-refused : goal.returns-in-Some-clause-refused
returns-in-Some-clause-refused c =
    let text = c.args.text.now in
    let heard = c.in_ok-def.ensures.heard (record {
      heading = λ none. c.new.ensures.view;
      form = record { text = refl; formed = λ none. c.new-2.ensures.view };
    }) in
    let form = heard.2.form in
    let same : option_map misplaced_view c.in_ok-misplaced.field-0 ≡ Some (misplaced_view c.in-Some.misplaced) = ap (option_map misplaced_view) c.in-Some.is in
    let found : misplaced_in text heard.0 ≡ Some (misplaced_view c.in-Some.misplaced) = search rules in
    inr (inr (record {
      quotes = search rules;
      heard = heard.0;
      is_heard = heard.1;
      misplaced = misplaced_view c.in-Some.misplaced;
      found = found;
      is = c.fault.ensures;
      there = c.at-position.ensures;
    }))
