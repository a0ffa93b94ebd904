-- What is worked by hand, computed.
use Rattle.std.proofs.Common.{refl}
use Rattle.implib.specs.Formats.Object.{before_nul, bytes_at, u16_at, u32_at}
use Rattle.implib_read.specs.Indexes.{entries_from, first_index_in, second_index_in}
use Rattle.implib_read.specs.ShortImports.{short_import_found}
use Rattle.implib_compare.specs.Worked.{WorkedComparisons, WorkedFlavors}
use Rattle.implib_compare.specs.WorkedWorking.{WorkedWorking}

pub worked_comparisons : WorkedComparisons
worked_comparisons = record {
  empty = refl;
  capitals = refl;
  untold_constant = refl;
  constant = refl;
  constant_data = refl;
  untold_data = refl;
  delayed_itself = refl;
  delayed_code = refl;
  delayed_untold = refl;
  symbols = refl;
  name = refl;
  by_ordinal = refl;
  weak = refl;
  parted = refl;
  none = refl;
  other = refl;
  other_differs = refl;
  delayed_part = refl;
  flags = refl;
}

pub worked_flavors : WorkedFlavors
worked_flavors = record {
  tables = refl;
  code = refl;
  constant = refl;
  delayed = refl;
  data_alone = refl;
  none = refl;
}

pub worked_working : WorkedWorking
unfolding before_nul bytes_at entries_from first_index_in second_index_in short_import_found u16_at u32_at
worked_working = record {
  first = refl;
  second = refl;
  third = refl;
  undeclared = refl;
  passed_over = refl;
  first_counts = refl;
  other_symbol = refl;
  second_passed_over = refl;
  second_counts = refl;
  no_first_index = refl;
  no_tail = refl;
  empty = refl;
  both_open = refl;
  first_broken = refl;
  second_open = refl;
}
