use Rattle.std.proofs.Common.{refl}
use Rattle.implib.specs.Worked.Digits.{bytes_of_digits}
use Rattle.implib_c_calls.specs.Definition.{definition_in, encoded_definition, encoded_export, export_in, optional_in}
use Rattle.implib_c_calls.specs.Encoding.{bytes_in, encoded_number, items_in, list_in, number_in, text_in, then_in}
use Rattle.implib_c_calls.specs.WorkedDefinition.{export_bytes, two_exports, two_exports_bytes}
use Rattle.implib_c_calls.proofs.laws.worked_definitions.Goals as goal

pub returns : goal.returns
unfolding bytes_of_digits bytes_in definition_in encoded_definition encoded_export encoded_number export_bytes export_in items_in list_in number_in optional_in text_in two_exports two_exports_bytes then_in
returns c = record {
  two = refl;
  seven_bytes = refl;
  third_text = refl;
  fifth_attribute = refl;
}
