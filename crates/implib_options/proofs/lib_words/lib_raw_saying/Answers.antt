use Rattle.std.proofs.Common.{◌<◌, get_or, length, subst}
use Rattle.std.proofs.lemmas.Str.{IsCharBoundary-after_ascii}
use Rattle.std.specs.Bool.{OnTrue}
use Rattle.implib_options.proofs.Letters.{some}
use Rattle.implib_options.proofs.lib_words.lib_raw_saying.Goals as goal

pub range_from-requires : goal.range_from-requires
range_from-requires c =
    let ascii = subst (λ r. OnTrue r (get_or c.as_bytes-bytes.result.now 0 0 < 128)) c.if-not-is_mark.false c.is_mark.ensures.ascii in
    λ below. IsCharBoundary-after_ascii c.args.word.now 0 c.utf8.word
    (subst (λ w. 0 < length w) c.as_bytes-bytes.ensures.value (some c.as_bytes-bytes.result.now c.is_empty.result c.is_empty.ensures c.if-is_empty.false))
    (subst (λ w. get_or w 0 0 < 128) c.as_bytes-bytes.ensures.value ascii)
