use Rattle.std.specs.Prelude.{◌≡◌, ◌%◌}
use Rattle.implib_delay.specs.Processor.{Mode, Bits64, Bits32, word_size}
use Rattle.implib_delay.specs.Calls.{FieldsLead, LaterCalls, Placement}
use Rattle.implib_delay.proofs.Calls64.{later_calls64}
use Rattle.implib_delay.proofs.Calls32.{later_calls32}
use Rattle.implib_delay.proofs.laws.later_calls_arrive.Goals as goal

arrives : (mode : Mode) (p : Placement) → FieldsLead mode p → p.entry % word_size mode ≡ 0 → LaterCalls mode p
arrives Bits64 p lead whole = later_calls64 p lead whole
arrives Bits32 p lead whole = later_calls32 p lead whole

pub returns : goal.returns
returns c = arrives
