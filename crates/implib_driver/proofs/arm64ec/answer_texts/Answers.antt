use Rattle.std.proofs.Common.{inl, inr, rules}
use Rattle.implib_driver.proofs.arm64ec.answer_texts.Goals as goal

pub returns-in-Err : goal.returns-in-Err
returns-in-Err g c =
    inr (inl (record {
      no_utf16 = search rules;
      why = c.in-Err.refusal;
      refused = c.in-Err.ensures.refused;
      finishes = c.finish_refused.ensures (g.D.Disk.view c.args.disk.now);
    }))
