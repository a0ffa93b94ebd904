use Rattle.std.proofs.Common.{◌≡◌, take}
use Rattle.std.specs.List.{flat_map}
use Rattle.implib_check_driver.specs.Text.{shown_byte}
use Rattle.implib_check_driver.proofs.text.plain_text.Given as goal

abbrev pub invariant-loop-byte : goal.invariant-loop-byte
invariant-loop-byte l = flat_map shown_byte (take l.byte-index l.name) ≡ take l.byte-index l.name
