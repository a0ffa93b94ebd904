use Rattle.std.proofs.Common.{◌+◌, arith, ap, length, map}
use Rattle.std.specs.String.{string_bytes}
use Rattle.implib.specs.Library.{member_view}
use Rattle.implib_c_calls.specs.Encoding.{encoded_list, encoded_member, encoded_text}
use Rattle.implib_c_calls.proofs.Lengths.{member_size, some_as}
use Rattle.implib_c_calls.proofs.encoding.member_length.Goals as goal

pub returns : goal.returns
returns c =
    some_as c.checked_add-2.result (c.in_ok-checked_add.field-0 + c.in_ok-file.file) (length (encoded_member (member_view c.args.member.now))) c.checked_add-2.ensures
    (omega (
      arith,
      member_size (member_view c.args.member.now),
      c.in_ok-name.ensures,
      c.in_ok-symbols.ensures,
      c.in_ok-file.ensures,
      c.in_ok-checked_add.ensures,
      ap (λ t. length (encoded_text t)) c.as_bytes.ensures.value,
      ap (λ t. length (encoded_list encoded_text (map string_bytes t))) c.as_slice.ensures.value,
      ap (λ t. length (encoded_text t)) c.as_slice-2.ensures.value,
    ))
