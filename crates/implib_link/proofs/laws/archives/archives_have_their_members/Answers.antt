use Rattle.std.proofs.Common.{inl, inr, refl}
use Rattle.implib_archive.specs.declared.kind.Kind.TheVariants.{Coff, Gnu}
use Rattle.implib_link.proofs.Archives.InBytes.{archive_has_members}
use Rattle.implib_link.proofs.laws.archives.archives_have_their_members.Goals as goal

pub returns-clause-gnu : goal.returns-clause-gnu
returns-clause-gnu c = λ members accepted some. archive_has_members Gnu members accepted some (inl refl)

pub returns-clause-coff : goal.returns-clause-coff
returns-clause-coff c = λ members accepted some distinct. archive_has_members Coff members accepted some (inr distinct)
