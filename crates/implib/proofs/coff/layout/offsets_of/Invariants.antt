use Rattle.std.proofs.Common.{◌≡◌, ◌+◌, ◌++◌, drop, map, sum_by}
use Rattle.implib.specs.Formats.Layout.{offsets_from, string_offsets, string_size, strings_size}
use Rattle.implib.proofs.coff.layout.offsets_of.Given as goal

abbrev pub invariant-loop-text : goal.invariant-loop-text
invariant-loop-text l = record {
  room : l.offset + sum_by string_size (map (λ text. text.now) (drop l.text-index l.strings)) ≡ strings_size (map (λ text. text.now) l.strings);
  offsets : l.offsets.items ++ offsets_from l.offset (map (λ text. text.now) (drop l.text-index l.strings)) ≡ string_offsets (map (λ text. text.now) l.strings);
}
