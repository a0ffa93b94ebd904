use Rattle.implib_delay.specs.Processor.{Bits64, Bits32}
use Rattle.implib_delay.specs.Calls.{Begins, FieldsLead, FirstCall, Placement}
use Rattle.implib_delay.specs.Processor.{Mode, State}
use Rattle.std.specs.Prelude.{ℕ}
use Rattle.implib_delay.proofs.Calls64.{first_call64}
use Rattle.implib_delay.proofs.Calls32.{first_call32}
use Rattle.implib_delay.proofs.laws.first_call_arrives.Goals as goal

arrives : (mode : Mode) (p : Placement) (end : ℕ) (s : State) → FieldsLead mode p → Begins mode p end s → FirstCall mode p end s
arrives Bits64 p end s = first_call64 p end s
arrives Bits32 p end s = first_call32 p end s

pub returns : goal.returns
returns c = arrives
