use Rattle.std.proofs.Common.{[], length, map, take}
use Rattle.implib_rules.specs.Warnings.{warning_view}
use Rattle.implib_c_calls.specs.WarningsAnswer.{PushesWarnings}
use Rattle.implib_c_calls.proofs.warnings.encoding_of.Given as goal

-- the warnings are appended up to here
abbrev pub invariant-loop-warning : goal.invariant-loop-warning
invariant-loop-warning l = PushesWarnings l.mark (length l.warnings) (map warning_view (take l.warning-index l.warnings)) [] l.bytes.items
