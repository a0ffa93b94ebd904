use Rattle.std.proofs.Common.{◌≡◌, inl, inr, refl, subst}
use Rattle.implib_arm64ec.specs.Archive.{ec_archive}
use Rattle.implib_libraries.specs.Arm64ec.{IsLibraryOfTexts, IsRefusalOfTexts}
use Rattle.implib_rules.specs.Options.{library_options_view}
use Rattle.implib_c_calls.specs.Arm64ec.{failure_of_texts, library_held}
use Rattle.implib_c_calls.proofs.Answer.{leaves_lacking, leaves_put}
use Rattle.implib_c_calls.proofs.AnswerArm64ec.{texts_within}
use Rattle.implib_c_calls.proofs.AnswerWith.{with_nothing, with_options}
use Rattle.implib_c_calls.proofs.arm64ec.arm64ec_library_into.Goals as goal

pub failure_of_texts-requires : goal.failure_of_texts-requires
failure_of_texts-requires c = texts_within c.args.text.now _ (library_options_view c.in-Ok.options) c.in-Err-arm64ec_library_for.refusal c.in-Err-arm64ec_library_for.ensures.refused

pub returns-in-Err : goal.returns-in-Err
returns-in-Err c = leaves_lacking c.in-Err.failure (inl c.in-Err.ensures.fault)

pub returns-in-Ok-arm64ec_library_for : goal.returns-in-Ok-arm64ec_library_for
returns-in-Ok-arm64ec_library_for c =
    let options = library_options_view c.in-Ok.options in
    let library = library_held c.in-Ok-arm64ec_library_for.library in
    let made = subst (λ n. IsLibraryOfTexts c.args.text.now n options library) c.native_with-native.ensures c.in-Ok-arm64ec_library_for.ensures.made in
    leaves_put (ec_archive library) (λ accepted short. with_options c.in-Ok.ensures.ok (record { library = library; library_is = made; accepted = accepted; is = refl }))
    (λ why lacks. inr (with_options c.in-Ok.ensures.ok (inr (record { library = library; library_is = made; refused = lacks }))))
    c.pack_library.new.buffer c.pack_library.result c.pack_library.ensures

pub returns-in-Err-arm64ec_library_for : goal.returns-in-Err-arm64ec_library_for
returns-in-Err-arm64ec_library_for c =
    let options = library_options_view c.in-Ok.options in
    let why = c.in-Err-arm64ec_library_for.refusal in
    with_nothing c.in-Ok.ensures.ok c.failure_of_texts.result
    (inl (record {
      cause = why;
      is = subst (λ n. IsRefusalOfTexts c.args.text.now n options why) c.native_with-native.ensures c.in-Err-arm64ec_library_for.ensures.refused;
      told_is = subst (λ n. c.failure_of_texts.result ≡ failure_of_texts c.args.text.now n why) c.native_with-native.ensures c.failure_of_texts.ensures;
    }))
