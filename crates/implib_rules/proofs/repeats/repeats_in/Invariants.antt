use Rattle.std.proofs.Common.{◌≡◌, ◌++◌, ℕ, List, [], drop, map, take}
use Rattle.implib.specs.Definition.{export_view}
use Rattle.implib_rules.specs.Linked.{is_declared}
use Rattle.implib_rules.specs.Repeats.{repeats_behind}
use Rattle.implib_rules.specs.Views.{has_word}
use Rattle.implib_rules.proofs.repeats.repeats_in.Given as goal

-- the set has the words that the exports so far declare; the flags so far, and then those of the exports left, are all
abbrev pub invariant-loop-export : goal.invariant-loop-export
invariant-loop-export l = record {
  declared : (word : List ℕ) → has_word l.declared word ≡ is_declared (map export_view (take l.export-index l.exports)) word;
  flags : l.flags.items ++ repeats_behind (map export_view (take l.export-index l.exports)) (map export_view (drop l.export-index l.exports))
      ≡ repeats_behind [] (map export_view l.exports);
}
