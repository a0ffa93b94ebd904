use Rattle.std.proofs.Common.{◌≡◌, ◌++◌, ◌≤◌, drop, map}
use Rattle.implib.specs.Definition.{export_view}
use Rattle.implib_rules.specs.Options.{library_options_view}
use Rattle.implib_rules.specs.Warnings.{warning_view, warnings_from, warnings_of}
use Rattle.implib_rules.proofs.warnings.warnings_of.Given as goal

-- the warnings so far, and then those at the places left
abbrev pub invariant-loop-place : goal.invariant-loop-place
invariant-loop-place l = record {
  said : warnings_of (library_options_view l.options) (map export_view l.exports) l.places l.count
      ≡ map warning_view l.warnings.items ++ warnings_from (library_options_view l.options) (map export_view l.exports) l.index (drop l.place-index l.places);
  below : l.index ≤ l.place-index;
}
