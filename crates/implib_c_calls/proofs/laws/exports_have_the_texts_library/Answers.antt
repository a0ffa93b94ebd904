use Rattle.std.proofs.Common.{subst, sym}
use Rattle.implib_rules.proofs.OfExports.{libraries_are_of_exports}
use Rattle.implib_rules.specs.Exports.{IsLibraryOfExports, of_exports}
use Rattle.implib_rules.specs.Nameless.{with_ordinals}
use Rattle.implib_c_calls.proofs.laws.exports_have_the_texts_library.Goals as goal

pub returns : goal.returns
returns c text exports options stated file other parses same is of_exports_is =
    libraries_are_of_exports text options stated file other parses is
    (subst (λ es. IsLibraryOfExports (with_ordinals (of_exports es)).exports options other) (sym same) of_exports_is.1)
