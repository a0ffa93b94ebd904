use Rattle.implib_link.proofs.Flavors.Texts.{texts_link}
use Rattle.implib_link.proofs.laws.texts.texts_link.Goals as goal

pub returns : goal.returns
returns c = record { links = texts_link }
