use Rattle.std.proofs.Common.{map, subst}
use Rattle.std.specs.String.{string_bytes}
use Rattle.implib_options.specs.Given.{given_view}
use Rattle.implib_options.specs.Words.{Leads}
use Rattle.implib_options.proofs.Reading.{all_read, refused_on, words_none, words_split}
use Rattle.implib_options.proofs.words.read.Goals as goal

pub loop-left-preserved : goal.loop-left-preserved
loop-left-preserved c =
    let split = words_split string_bytes c.loop-left.left.now c.word-item.result c.as_str.result.now c.in-len1-up.len_at_least c.word-item.is c.as_str.ensures.value in
    c.in-Ok.ensures.ok (map string_bytes c.args.words.now) (subst (Leads c.args.of (map string_bytes c.args.words.now) (map given_view c.loop-left.given.items)) split c.loop-left.invariant)

pub returns-in-Err-clause-refused : goal.returns-in-Err-clause-refused
returns-in-Err-clause-refused c =
    let split = words_split string_bytes c.loop-left.left.now c.word-item.result c.as_str.result.now c.in-len1-up.len_at_least c.word-item.is c.as_str.ensures.value in
    refused_on c.args.of (map string_bytes c.args.words.now) _ (map given_view c.loop-left.given.items) c.in-Err.error
    (subst (Leads c.args.of (map string_bytes c.args.words.now) (map given_view c.loop-left.given.items)) split c.loop-left.invariant) c.in-Err.ensures.refused

pub returns-clause-ok : goal.returns-clause-ok
returns-clause-ok c = all_read c.args.of (map string_bytes c.args.words.now) _ _ c.loop-left.invariant (words_none string_bytes c.loop-left.left.now c.in_default.len_below)
