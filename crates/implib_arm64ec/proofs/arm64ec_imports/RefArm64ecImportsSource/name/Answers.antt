use Rattle.std.proofs.Common.{arith}
use Rattle.std.proofs.lemmas.List.{length-map}
use Rattle.implib_arm64ec.proofs.KeptImports.{name_at}
use Rattle.implib_arm64ec.proofs.arm64ec_imports.RefArm64ecImportsSource.name.Goals as goal

pub returns : goal.returns
returns c = grind (arith, length-map, name_at, c.requires, c.as_str.ensures.value)
