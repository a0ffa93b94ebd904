use Rattle.std.proofs.Common.{arith, ◌≡◌, ◌∙◌, ◌++◌, ◌<◌, ◌^◌, All, ap, map, subst}
use Rattle.implib_archive.proofs.Appended.{pushes_as, pushes_then}
use Rattle.implib_dll.specs.Views.{exports_view}
use Rattle.implib_compare.specs.DllCheck.Imports.{asks_in, judgements}
use Rattle.implib_compare.specs.DllCheck.Missing.{missing}
use Rattle.implib_compare.specs.DllCheck.Verdict.{ask_view}
use Rattle.implib_read.specs.ClassViews.{member_read_view}
use Rattle.implib_c_calls.specs.DllCheck.{dll_told, encoded_dll_told, judgement_number, names_given}
use Rattle.implib_c_calls.specs.Encoding.{encoded_list, encoded_number}
use Rattle.implib_c_calls.proofs.DllToldFits.{numbers_fit}
use Rattle.implib_c_calls.proofs.dll_check.encoding_of.Goals as goal

pub returns : goal.returns
unfolding encoded_dll_told
returns c =
    let exports = exports_view c.args.exports.now in
    let members = map member_read_view c.args.members.now in
    let known = names_given c.args.name.now exports in
    let found : c.deref-4.result.now ≡ judgements exports known members = grind (arith, map, c.deref-4.ensures.value, c.in_ok-found.ensures, c.deref.ensures.value, c.in_ok-names.ensures) in
    let asks : map ask_view c.deref-3.result.now ≡ asks_in known members = grind (arith, map, c.deref-3.ensures.value, c.in_ok-asks.ensures, c.deref-2.ensures.value, c.in_ok-names.ensures) in
    let unasked : c.deref-5.result.now ≡ missing exports (asks_in known members) = grind (arith, c.deref-5.ensures.value, c.in_ok-unasked.ensures) in
    let all = pushes_then (pushes_as (ap (λ found. encoded_list encoded_number (map judgement_number found)) found) c.in_ok-push_judgements.ensures)
    (pushes_as (ap (encoded_list encoded_number) unasked) c.in_ok-push_indexes.ensures.appended) in
    record {
      is = all.whole ∙ ap (λ t. t ++ encoded_dll_told (dll_told exports c.args.name.now members)) c.new-bytes.ensures.items;
      fit = record {
        members = numbers_fit (judgements exports known members);
        unasked = subst (All (λ n. n < 2 ^ 64)) unasked c.in_ok-push_indexes.ensures.fit;
      };
    }
