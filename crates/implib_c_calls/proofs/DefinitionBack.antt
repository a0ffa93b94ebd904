-- An encoded definition reads back.
use Rattle.std.proofs.Common.{◌≡◌, ℕ, ◌<◌, ◌≤◌, ◌^◌, All, Bool, true, false, List, Option, None, Some, length, refl, ap, append_assoc, arith}
use Rattle.std.specs.Option.{option_map}
use Rattle.implib_c_calls.specs.Definition.{NumbersFit, StatedDefinition, StatedExport, definition_in, encoded_definition, encoded_export, encoded_optional, export_in, export_with, flag, flags_of, optional_in}
use Rattle.implib_c_calls.specs.Encoding.{ReadsBack, encoded_list, list_in, then_in}
use Rattle.implib_c_calls.proofs.ReadBack.{front_long, last_back, last_number, list_back_where, number_back, rest_few, text_back, text_long, then_back, then_number, then_text}

optional_back : (text : Option (List ℕ)) (rest : List ℕ) → ReadsBack encoded_optional optional_in (λ text. Unit {0}) text rest
unfolding optional_in then_in
optional_back None rest fit below = rw (number_back 0 rest (omega arith)) refl
optional_back (Some text) rest fit below = grind (arith, append_assoc, number_back, text_back, rest_few)

-- each number of attributes is that of one export

flags_back : (name : List ℕ) (ext_name : Option (List ℕ)) (target : List ℕ) (ordinal : ℕ) (no_name is_data private constant : Bool) →
    let e : StatedExport
    = record { name = name; ext_name = ext_name; alias_target = target; ordinal = ordinal; no_name = no_name; is_data = is_data; private = private; constant = constant } in
    export_with name ext_name target ordinal (flags_of e) ≡ Some e
flags_back name ext_name target ordinal false false false false = refl
flags_back name ext_name target ordinal false false false true = refl
flags_back name ext_name target ordinal false false true false = refl
flags_back name ext_name target ordinal false false true true = refl
flags_back name ext_name target ordinal false true false false = refl
flags_back name ext_name target ordinal false true false true = refl
flags_back name ext_name target ordinal false true true false = refl
flags_back name ext_name target ordinal false true true true = refl
flags_back name ext_name target ordinal true false false false = refl
flags_back name ext_name target ordinal true false false true = refl
flags_back name ext_name target ordinal true false true false = refl
flags_back name ext_name target ordinal true false true true = refl
flags_back name ext_name target ordinal true true false false = refl
flags_back name ext_name target ordinal true true false true = refl
flags_back name ext_name target ordinal true true true false = refl
flags_back name ext_name target ordinal true true true true = refl

flag_most : (is_set : Bool) (number : ℕ) → flag is_set number ≤ number
flag_most true number = omega arith
flag_most false number = omega arith

flags_fit : (e : StatedExport) → flags_of e < 2 ^ 64
flags_fit e = omega (arith, flag_most e.no_name 1, flag_most e.is_data 2, flag_most e.private 8, flag_most e.constant 4)

-- the ordinal has 64 bits
abbrev Fits : StatedExport → Type 0
Fits e = e.ordinal < 2 ^ 64

export_back : (e : StatedExport) (rest : List ℕ) → ReadsBack encoded_export export_in Fits e rest
unfolding export_in encoded_export
export_back e rest fit below =
    then_text _ e.name _ rest below (λ below.
    then_back encoded_optional optional_in (λ text. Unit {0}) optional_back _ e.ext_name _ rest tt below (λ below.
    then_text _ e.alias_target _ rest below (λ below.
    then_number _ e.ordinal _ rest fit below (λ below.
    last_number _ (flags_of e) rest (flags_fit e)
    (ap (option_map (λ e. (e, rest))) (flags_back e.name e.ext_name e.alias_target e.ordinal e.no_name e.is_data e.private e.constant))))))

export_long : (e : StatedExport) → 1 ≤ length (encoded_export e)
unfolding encoded_export
export_long e = front_long _ _ (text_long e.name)

pub definition_back : (d : StatedDefinition) (rest : List ℕ) → ReadsBack encoded_definition definition_in NumbersFit d rest
unfolding definition_in encoded_definition
definition_back d rest fit below =
    then_text _ d.import_name _ rest below (λ below.
    then_number _ d.image_base _ rest fit.image_base below (λ below.
    then_number _ d.stack_reserve _ rest fit.stack_reserve below (λ below.
    then_number _ d.stack_commit _ rest fit.stack_commit below (λ below.
    then_number _ d.heap_reserve _ rest fit.heap_reserve below (λ below.
    then_number _ d.heap_commit _ rest fit.heap_commit below (λ below.
    then_number _ d.major_image_version _ rest fit.major_image_version below (λ below.
    then_number _ d.minor_image_version _ rest fit.minor_image_version below (λ below.
    last_back (encoded_list encoded_export) (list_in export_in) (All Fits) (list_back_where encoded_export export_in Fits export_back export_long) _ d.exports rest fit.ordinals below refl))))))))
