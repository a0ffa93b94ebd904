use Rattle.implib_arm64ec.proofs.ReadBack.{reads_back}
use Rattle.implib_arm64ec.proofs.laws.short_imports_read_back.Goals as goal

pub returns : goal.returns
returns c = λ dll e symbol can. reads_back dll e symbol can
