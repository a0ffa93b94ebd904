use Rattle.std.proofs.Common.{arith}
use Rattle.std.proofs.lemmas.List.{length-map}
use Rattle.implib_arm64ec.proofs.KeptImports.{size_at}
use Rattle.implib_arm64ec.proofs.arm64ec_imports.RefArm64ecImportsSource.size.Goals as goal

pub returns : goal.returns
returns c = grind (arith, length-map, size_at, c.requires, c.size.ensures, c.as_str.ensures.value, c.index.ensures)
