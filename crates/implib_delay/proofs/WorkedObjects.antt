-- The objects that were worked by hand, by computing.
use Rattle.std.proofs.Common.{arith, refl}
use Rattle.std.specs.Fmt.{digits}
use Rattle.implib.specs.Formats.Bytes.{u16_bytes, u32_bytes}
use Rattle.implib.specs.Formats.Writer.{long_names, name_location, layout_of, symbol_written, with_long_name, with_name}
use Rattle.implib.specs.Members.Gnu.{five_digits, hint_name, mangled_name, thunk}
use Rattle.implib.specs.Worked.Digits.{bytes_of_digits}
use Rattle.implib_delay.specs.Code.{tail_code}
use Rattle.implib_delay.specs.Names.{export_name, handle_symbol, head_name, helper_symbol, name_symbol, tail_name, tail_symbol}
use Rattle.implib_delay.specs.Objects.{export_object, head_object, tail_object}
use Rattle.implib_delay.specs.Refusal.{input_refusal}
use Rattle.implib_delay.specs.WorkedObjects as worked
use Rattle.implib_delay.specs.WorkedObjects.{WorkedNames, WorkedObjects, WorkedRefusals}

-- what the computing has to open
unfoldable pub opened : Unit {0}
unfolding bytes_of_digits tail_code export_object head_object tail_object handle_symbol helper_symbol name_symbol tail_symbol mangled_name thunk hint_name five_digits export_name head_name tail_name digits long_names name_location layout_of symbol_written with_long_name with_name u16_bytes u32_bytes worked.head64 worked.tail64 worked.by_name64 worked.by_ordinal64 worked.head32 worked.tail32 worked.by_name32 worked.by_ordinal32
opened = tt

pub worked_objects : WorkedObjects
unfolding opened
worked_objects = grind arith

pub worked_names : WorkedNames
unfolding opened
worked_names = record { head = refl; tail = refl; first = refl; later = refl }

pub worked_refusals : WorkedRefusals
unfolding input_refusal
worked_refusals = grind arith
