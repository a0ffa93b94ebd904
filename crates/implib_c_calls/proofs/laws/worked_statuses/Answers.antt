use Rattle.std.proofs.Common.{refl}
use Rattle.implib_c_calls.proofs.laws.worked_statuses.Goals as goal

pub returns : goal.returns
returns c = record {
  of_calls = refl;
  member_too_long = refl;
  no_name_type = λ index. refl;
  empty_library_name = refl;
  nul_in_library_name = refl;
  line_end_in_library_name = refl;
  of_archives = refl;
  unknown_export_flags = refl;
  export_not_utf8 = refl;
  export_out_of_range = refl;
  other_machine = refl;
  unreadable_name = refl;
  native_refused = refl;
  place_of_export = refl;
  of_alias = refl;
  alias_at = refl;
  not_utf8_at = refl;
}
