use Rattle.std.proofs.Common.{◌≡◌, ◌-◌, ◌^◌, map, min, sum_by, take}
use Rattle.implib.specs.Formats.Layout.{string_size}
use Rattle.implib.proofs.coff.layout.strings_length.Given as goal

abbrev pub invariant-loop-text : goal.invariant-loop-text
invariant-loop-text l = l.total ≡ min (sum_by string_size (map (λ text. text.now) (take l.text-index l.strings))) (2 ^ 64 - 1)
