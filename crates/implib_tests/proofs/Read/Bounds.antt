-- The worked bounds, by computing.
use Rattle.std.proofs.Common.{refl}
use Rattle.implib.specs.Formats.Object.{u16_at}
use Rattle.implib_read.specs.MemberNames.{long_name_of, without_slash}
use Rattle.implib_tests.specs.Read.Bounds.{WorkedBounds}

pub worked_bounds : WorkedBounds
unfolding u16_at long_name_of without_slash
worked_bounds = record {
  no_bytes = refl;
  two_bytes = refl;
  three_bytes = refl;
  four_bytes = refl;
  eight_bytes = refl;
  no_top_bit = refl;
  no_names = refl;
  empty_names = refl;
  empty_that_leads = refl;
  text = refl;
  leads = refl;
  empty_descriptor = refl;
  empty_head = refl;
  descriptor = refl;
  head = refl;
  code = refl;
  of_data = refl;
  constant = refl;
  slash_before_line_end = refl;
  slash_before_nul = refl;
  slash_at_the_end = refl;
}
