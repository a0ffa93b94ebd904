use Rattle.std.proofs.Common.{◌≡◌, ◌+◌, ◌-◌, ◌++◌, length}
use Rattle.std.specs.String.{string_bytes}
use Rattle.implib_check_driver.specs.Json.{text_of, text_within}
use Rattle.implib_check_driver.proofs.json.text_of.Given as goal

-- what is made, and the text of what is left, are the text of the name
abbrev pub invariant-loop-i : goal.invariant-loop-i
invariant-loop-i l = string_bytes l.text ++ text_within (length l.name + 1 - l._i) l.rest ≡ text_of l.name
