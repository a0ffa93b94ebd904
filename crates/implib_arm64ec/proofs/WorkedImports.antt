-- The short imports that were worked out apart from the program, by computing.
use Rattle.std.proofs.Common.{arith}
use Rattle.implib.specs.Formats.Bytes.{u16_bytes, u32_bytes}
use Rattle.implib.specs.Formats.Object.{u16_at, u32_at}
use Rattle.implib.specs.Worked.Digits.{bytes_of_digits}
use Rattle.implib_arm64ec.specs.Reading.{read}
use Rattle.implib_arm64ec.specs.WorkedImports.{WorkedImports, WorkedReadings, WorkedSymbols}

pub worked_imports : WorkedImports
unfolding read bytes_of_digits u16_bytes u32_bytes u16_at u32_at
worked_imports = grind arith

pub worked_symbols : WorkedSymbols
unfolding read bytes_of_digits u16_bytes u32_bytes u16_at u32_at
worked_symbols = grind arith

pub worked_readings : WorkedReadings
unfolding read bytes_of_digits u16_bytes u32_bytes u16_at u32_at
worked_readings = grind arith
