use Rattle.std.proofs.Common.{flat_map, take}
use Rattle.implib.specs.Formats.Pass.{Puts}
use Rattle.implib.specs.Formats.Layout.{string_bytes_of}
use Rattle.implib.proofs.coff.layout.put_string_table.Given as goal

abbrev pub invariant-loop-text : goal.invariant-loop-text
invariant-loop-text l = Puts l.initial.pass l.pass (flat_map (λ text. string_bytes_of text.now) (take l.text-index l.strings))
