use Rattle.std.proofs.Common.{◌++◌, ◌<◌, ◌^◌, All, ap, map, rules, subst, sym, ◌∙◌}
use Rattle.std.proofs.lemmas.List.Elements.{All-map}
use Rattle.std.proofs.lemmas.Simd.{map-map}
use Rattle.implib.specs.Definition.{definition_view, export_view}
use Rattle.implib_archive.proofs.Appended.{pushes_as, pushes_then}
use Rattle.implib_c_calls.specs.Definition.{encoded_definition, encoded_export, stated, stated_export, stated_of}
use Rattle.implib_c_calls.specs.Encoding.{encoded_list, encoded_number, encoded_text}
use Rattle.implib_c_calls.proofs.definition.encoding_of.Goals as goal

pub returns : goal.returns
unfolding encoded_definition
returns c =
    let said = stated (definition_view c.args.definition.now) in
    let exports = c.args.definition.now.exports.items in
    let same = map-map stated_export export_view exports in
    let last = pushes_as (ap (λ t. encoded_list encoded_export (map stated_of t)) c.as_slice.ensures.value ∙ ap (encoded_list encoded_export) (sym same)) c.in_ok-push_exports.ensures.appended in
    let all =
    pushes_then (pushes_as (ap encoded_text c.as_bytes.ensures.value) c.in_ok-push_text.ensures)
    (pushes_then c.in_ok-push_number.ensures
    (pushes_then c.in_ok-push_number-2.ensures
    (pushes_then c.in_ok-push_number-3.ensures
    (pushes_then c.in_ok-push_number-4.ensures
    (pushes_then c.in_ok-push_number-5.ensures
    (pushes_then (pushes_as (ap encoded_number c.from.ensures) c.in_ok-push_number-6.ensures)
    (pushes_then (pushes_as (ap encoded_number c.from-2.ensures) c.in_ok-push_number-7.ensures) last))))))) in
    record {
      is = all.whole ∙ ap (λ t. t ++ encoded_definition said) c.new-bytes.ensures.items;
      fit = record {
        image_base = search rules;
        stack_reserve = search rules;
        stack_commit = search rules;
        heap_reserve = search rules;
        heap_commit = search rules;
        major_image_version = search rules;
        minor_image_version = search rules;
        ordinals = subst (All (λ e. e.ordinal < 2 ^ 64)) (sym same)
            (All-map (λ e. e.ordinal < 2 ^ 64) stated_of exports (subst (All (λ e. e.ordinal < 2 ^ 64)) c.as_slice.ensures.value c.in_ok-push_exports.ensures.fit));
      };
    }
