use Rattle.std.proofs.Common.{◌≡◌, [], drop, map}
use denote.Shadow.{shadow}
use denote.Text.{Utf8}
use Rattle.implib.specs.Definition.{export_view}
use Rattle.implib_rules.specs.Views.{rise_from}
use Rattle.implib_rules.proofs.repeats.words_rise.Given as goal

-- what is left says it, after the last word
abbrev pub invariant-loop-export : goal.invariant-loop-export
invariant-loop-export l = record {
  text : shadow (Utf8 l.last);
  rises : rise_from [] (map export_view l.exports) ≡ rise_from l.last (map export_view (drop l.export-index l.exports));
}
