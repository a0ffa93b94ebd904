use Rattle.implib_dll.proofs.Finding.{right_hint_finds}
use Rattle.implib_dll.proofs.laws.right_hint_finds.Goals as goal

pub returns : goal.returns
returns c = right_hint_finds
