use Rattle.std.proofs.Common.{◌≡◌, drop, reverse}
use Rattle.implib_arm64ec.specs.Reading.{qualified_name, read}
use Rattle.implib_arm64ec.proofs.Read.{shifted}
use Rattle.implib_arm64ec.proofs.reading.read_qualified_name.Given as goal

-- what is read of the rest is what is read of the whole
abbrev pub invariant-loop-place : goal.invariant-loop-place
invariant-loop-place l =
    shifted l.place (read (reverse l.stack.items) (drop l.place l.text)) ≡ read qualified_name l.text
