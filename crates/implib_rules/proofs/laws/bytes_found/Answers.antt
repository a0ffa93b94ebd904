use Rattle.std.proofs.Common.{refl}
use Rattle.std.specs.Char.{encode_utf8}
use Rattle.std.specs.Str.{chars, is_utf8}
use Rattle.std.specs.Str.Lossy.{utf8_valid_len}
use Rattle.implib.specs.Worked.Digits.{bytes_of_digits}
use Rattle.implib_rules.specs.Plain.{begins_sections, begins_statement, first_step, is_system, name_step, plain_from}
use Rattle.implib_rules.proofs.Utf8.{worked}
use Rattle.implib_rules.proofs.laws.bytes_found.Goals as goal

pub returns : goal.returns
unfolding begins_sections begins_statement first_step is_system name_step plain_from bytes_of_digits chars is_utf8 encode_utf8 utf8_valid_len
returns c = record {
  name = worked _ refl;
  after_a_comment = worked _ refl;
  after_a_letter = worked _ refl;
  cut_short = worked _ refl;
  cut_by_a_letter = worked _ refl;
  after_a_mark = worked _ refl;
  mark_cut_short = worked _ refl;
  after_a_nul = worked _ refl;
}
