use Rattle.std.proofs.Common.{◌++◌, ap, codes, sym}
use Rattle.implib.specs.Members.MsvcObjects.{descriptor_symbol}
use Rattle.implib.proofs.LibraryNames.{base_of_named}
use Rattle.implib_link.specs.Flavors.Expansion.{before_last_stop, descriptor_symbol_by_name}
use Rattle.implib_link.proofs.laws.both_flavors.descriptors_are_found.Goals as goal

pub returns : goal.returns
unfolding descriptor_symbol descriptor_symbol_by_name
returns c = λ d named. ap (λ text. codes "__IMPORT_DESCRIPTOR_" ++ text) (sym (base_of_named d (before_last_stop d.import_name) named))
