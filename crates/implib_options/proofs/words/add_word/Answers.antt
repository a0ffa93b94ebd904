use Rattle.std.proofs.Common.{◌∙◌, [], ap, map, subst}
use Rattle.std.proofs.lemmas.List.{map-append}
use Rattle.std.specs.String.{string_bytes}
use Rattle.implib_options.specs.Given.{given_view}
use Rattle.implib_options.specs.Saying.{said_view}
use Rattle.implib_options.specs.Words.{Adds, wrong}
use Rattle.implib_options.proofs.Reading.{on_apart_at, on_end_at, on_lacking, on_past_end, on_whole, words_none, words_split}
use Rattle.implib_options.proofs.words.add_word.Goals as goal

pub returns-in_ok-push-in-Whole-clause-ok : goal.returns-in_ok-push-in-Whole-clause-ok
returns-in_ok-push-in-Whole-clause-ok c =
    let adds = subst (λ s. Adds c.args.of c.args.word.now (map given_view c.args.given.now.items) (map given_view c.add_front.new.given.items) (said_view s)) c.in-Whole.is c.in_ok-option.ensures in
    on_whole c.args.of c.args.word.now _ (map given_view c.add_front.new.given.items) _ _ _ adds (ap (map given_view) c.in_ok-push-in-Whole.ensures.items ∙ map-append given_view c.add_front.new.given.items _)

pub returns-in-empty-clause-refused : goal.returns-in-empty-clause-refused
returns-in-empty-clause-refused c =
    let adds = subst (λ s. Adds c.args.of c.args.word.now (map given_view c.args.given.now.items) (map given_view c.add_front.new.given.items) (said_view s)) c.in-Begun.is c.in_ok-option.ensures in
    on_lacking c.args.of c.args.word.now _ [] _ _ [] _ (words_none string_bytes _ c.in-empty.len_below) adds

pub returns-in_ok-push-in-len1-up-clause-ok : goal.returns-in_ok-push-in-len1-up-clause-ok
returns-in_ok-push-in-len1-up-clause-ok c =
    let adds = subst (λ s. Adds c.args.of c.args.word.now (map given_view c.args.given.now.items) (map given_view c.add_front.new.given.items) (said_view s)) c.in-Begun.is c.in_ok-option.ensures in
    on_apart_at c.args.of c.args.word.now _ (map given_view c.add_front.new.given.items) _ _ _ _ c.as_str.result.now (words_split string_bytes c.args.next.now c.value-item.result _ c.in-len1-up.len_at_least c.value-item.is c.as_str.ensures.value) adds (ap (map given_view) c.in_ok-push-in-len1-up.ensures.items ∙ map-append given_view c.add_front.new.given.items _)

pub returns-in-empty-next-clause-ok : goal.returns-in-empty-next-clause-ok
returns-in-empty-next-clause-ok c =
    let adds = subst (λ s. Adds c.args.of c.args.word.now (map given_view c.args.given.now.items) (map given_view c.add_front.new.given.items) (said_view s)) c.in-Ends.is c.in_ok-option.ensures in
    on_end_at c.args.of c.args.word.now _ [] _ _ [] (words_none string_bytes _ c.in-empty-next.len_below) adds

pub returns-in-len1-up-next-clause-refused : goal.returns-in-len1-up-next-clause-refused
returns-in-len1-up-next-clause-refused c =
    let adds = subst (λ s. Adds c.args.of c.args.word.now (map given_view c.args.given.now.items) (map given_view c.add_front.new.given.items) (said_view s)) c.in-Ends.is c.in_ok-option.ensures in
    on_past_end c.args.of c.args.word.now _ [] _ _ _ _ (words_split string_bytes c.args.next.now c.file-item.result _ c.in-len1-up-next.len_at_least c.file-item.is c.as_str-in-len1-up-next.ensures.value) adds

pub returns-in-Wrong-clause-refused : goal.returns-in-Wrong-clause-refused
returns-in-Wrong-clause-refused c =
    let adds = subst (λ s. Adds c.args.of c.args.word.now (map given_view c.args.given.now.items) (map given_view c.add_front.new.given.items) (said_view s)) c.in-Wrong.is c.in_ok-option.ensures in
    wrong c.args.word.now _ adds.front _ adds.is
