use Rattle.implib_link_instances.proofs.Worked.ThirdTexts.{worked_third_texts}
use Rattle.implib_link_instances.proofs.laws.lld.worked_lld.Goals as goal

pub returns : goal.returns
returns c = record {
  worked_third_texts = worked_third_texts;
}
