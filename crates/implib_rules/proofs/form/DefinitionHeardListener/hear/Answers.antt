use Rattle.implib_rules.proofs.form.DefinitionHeardListener.hear.Goals as goal

pub returns : goal.returns
returns c = λ start heard h. record {
  heading = c.hear.ensures start.heading heard h.heading;
  form = c.hear-2.ensures start.form heard h.form;
}
