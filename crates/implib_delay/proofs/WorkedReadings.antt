-- The readings that were worked by hand, by computing.
use Rattle.std.proofs.Common.{arith}
use Rattle.implib.specs.Formats.Layout.{entries_of, name_text, object_of}
use Rattle.implib.specs.Formats.Object.{before_nul, u16_at, u32_at}
use Rattle.implib.specs.Worked.Digits.{bytes_of_digits}
use Rattle.implib_delay.specs.Reader.{delayed_ask, delayed_dll, delayed_symbols, is_delayed}
use Rattle.implib_delay.specs.WorkedObjects.{by_name64, by_ordinal32, head32, head64, tail32, tail64}
use Rattle.implib_delay.specs.WorkedReadings.{WorkedReadings}

pub worked_readings : WorkedReadings
unfolding bytes_of_digits object_of entries_of name_text before_nul u16_at u32_at delayed_ask delayed_dll delayed_symbols is_delayed by_name64 by_ordinal32 head32 head64 tail32 tail64
worked_readings = grind arith
