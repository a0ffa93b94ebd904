use Rattle.std.proofs.Common.{refl}
use Rattle.implib_libraries.specs.OfDll.WorkedDecorated.{WorkedDecorations}
use Rattle.implib_libraries.proofs.of_dll.laws.worked_decorations.Goals as goal

worked : WorkedDecorations
worked = record {
  first_of_two = refl;
  hint = refl;
  uncounted = refl;
  data_stays = refl;
  unnamed = refl;
  exported = refl;
  other_exported = refl;
  plain = refl;
  killed = refl;
  are = refl;
  are_not = refl;
  no_name = refl;
  own_count = refl;
  of_cpp = refl;
  import_function = refl;
  import_data = refl;
  import_ordinal = refl;
  lib_word = refl;
  plain_word = refl;
  data_word = refl;
  missing = refl;
}

pub returns : goal.returns
returns c = worked
