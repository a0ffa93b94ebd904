use Rattle.std.proofs.Common.{refl}
use Rattle.implib.specs.Worked.Digits.{bytes_of_digits}
use Rattle.implib_c_calls.specs.Encoding.{bytes_in, encoded_member, encoded_members, encoded_number, items_in, list_in, member_in, members_in, number_in, text_in, then_in}
use Rattle.implib_c_calls.specs.WorkedEncoding.{two_members, two_members_bytes}
use Rattle.implib_c_calls.proofs.laws.worked_encodings.Goals as goal

pub returns : goal.returns
unfolding bytes_of_digits bytes_in encoded_member encoded_members encoded_number items_in list_in member_in members_in number_in text_in two_members two_members_bytes then_in
returns c = record {
  two = refl;
  seven_bytes = refl;
  member_missing = refl;
  name_too_short = refl;
}
