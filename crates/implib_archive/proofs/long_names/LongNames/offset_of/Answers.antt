use Rattle.std.proofs.Common.{◌∙◌, ap, refl, unwrap_or}
use Rattle.implib_archive.proofs.Named.{offset_found}
use Rattle.implib_archive.proofs.long_names.LongNames.offset_of.Goals as goal

pub returns-in-Some : goal.returns-in-Some
returns-in-Some c = ap (λ r. unwrap_or r 0) (c.in-Some.ensures.value ∙ offset_found c.args.name _ (λ x. refl) c.args.self.now.offsets.entries)

pub returns-in-None : goal.returns-in-None
returns-in-None c = ap (λ r. unwrap_or r 0) (c.in-None.ensures.value ∙ offset_found c.args.name _ (λ x. refl) c.args.self.now.offsets.entries)
