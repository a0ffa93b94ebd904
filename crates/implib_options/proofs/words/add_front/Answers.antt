use Rattle.std.proofs.Common.{◌∙◌, [], append-nil, subst, sym}
use Rattle.implib_options.specs.Words.{IsSaid, file, lib}
use Rattle.implib_options.proofs.Reading.{at_end, at_letters, at_long, cut_one, cut_two}
use Rattle.implib_options.proofs.words.add_front.Goals as goal

pub returns-then-not-is_option : goal.returns-then-not-is_option
returns-then-not-is_option c = record {
  front = [];
  added = sym (append-nil _);
  is = subst (IsSaid c.args.of c.args.word.now []) (sym c.file_saying.ensures) (file c.args.word.now (sym c.is_lib.ensures ∙ c.if-is_lib.false) (sym c.is_option.ensures.test ∙ c.if-not-is_option.true));
}

pub range_from-requires : goal.range_from-requires
range_from-requires c = λ below. cut_one c.args.word.now c.utf8.word (sym c.is_option.ensures.test ∙ c.if-not-is_option.false)

pub returns-then-bytes-ne45 : goal.returns-then-bytes-ne45
returns-then-bytes-ne45 c =
    at_letters c.args.of _ (sym c.is_lib.ensures ∙ c.if-is_lib.false) _ _ c.args.word.now c.as_bytes-bytes.result.now c.range_from.result.now c.as_bytes-bytes.ensures.value (sym c.is_option.ensures.test ∙ c.if-not-is_option.false)
    c.if-bytes-ne45.true c.range_from.ensures.value c.in_ok-said-2.ensures

pub returns-then-bytes-eq2 : goal.returns-then-bytes-eq2
returns-then-bytes-eq2 c =
    at_end c.args.of _ (sym c.is_lib.ensures ∙ c.if-is_lib.false) c.args.word.now c.as_bytes-bytes.result.now c.as_bytes-bytes.ensures.value (sym c.is_option.ensures.test ∙ c.if-not-is_option.false) c.if-bytes-ne45.false c.if-bytes-eq2.true

pub range_from-requires-2 : goal.range_from-requires-2
range_from-requires-2 c =
    λ below. cut_two c.args.word.now c.as_bytes-bytes.result.now c.as_bytes-bytes.ensures.value c.utf8.word (sym c.is_option.ensures.test ∙ c.if-not-is_option.false) c.if-bytes-ne45.false

pub returns : goal.returns
returns c =
    at_long c.args.of _ (sym c.is_lib.ensures ∙ c.if-is_lib.false) c.args.word.now c.as_bytes-bytes.result.now c.range_from-2.result.now _ c.as_bytes-bytes.ensures.value (sym c.is_option.ensures.test ∙ c.if-not-is_option.false)
    c.if-bytes-ne45.false c.if-bytes-eq2.false c.range_from-2.ensures.value c.long_saying.ensures

pub returns-then-is_lib : goal.returns-then-is_lib
returns-then-is_lib c = record {
  front = [];
  added = sym (append-nil _);
  is = subst (IsSaid c.args.of c.args.word.now []) (sym c.in_ok-said.ensures) (lib c.args.word.now (sym c.is_lib.ensures ∙ c.if-is_lib.true));
}
