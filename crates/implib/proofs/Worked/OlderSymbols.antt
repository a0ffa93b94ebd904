-- The worked members with older symbols, by computing.
use Rattle.std.proofs.Common.{refl}
use Rattle.implib.specs.Members.OlderSymbols.{older_object, older_refusal, older_renamed_refusal, older_spec}
use Rattle.implib.specs.Worked.OlderSymbols.{WorkedOlderBytes, WorkedOlderOutlines}
use Rattle.implib.proofs.Worked.Gnu.{means, opened}

pub worked_older_outlines : WorkedOlderOutlines
unfolding opened older_object older_refusal older_renamed_refusal older_spec
worked_older_outlines = record {
  one_function = means _ _ _ _ refl refl (record { accepted = refl; outlines = refl });
  one_function_i386 = means _ _ _ _ refl refl (record { accepted = refl; outlines = refl });
  one_function_arm = means _ _ _ _ refl refl refl;
  one_function_arm64 = means _ _ _ _ refl refl (record { accepted = refl; outlines = refl });
  data_alone = means _ _ _ _ refl refl (record { accepted = refl; outlines = refl });
  short = means _ _ _ _ refl refl (record { accepted = refl; outlines = refl });
  numbered = means _ _ _ _ refl refl (record { accepted = refl; outlines = refl });
  alias = means _ _ _ _ refl refl (record { accepted = refl; outlines = refl });
  nul_in_name = refl;
}

pub worked_older_bytes : WorkedOlderBytes
unfolding opened older_object older_refusal older_renamed_refusal older_spec
worked_older_bytes = record {
  record_of_symbol = means _ _ _ _ refl refl refl;
  strings = means _ _ _ _ refl refl refl;
  count = means _ _ _ _ refl refl refl;
  count_of_data = means _ _ _ _ refl refl refl;
  record_of_data = means _ _ _ _ refl refl refl;
}
