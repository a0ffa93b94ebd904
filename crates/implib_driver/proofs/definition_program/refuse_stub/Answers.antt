use Rattle.std.proofs.Common.{inl, inr, refl}
use Rattle.implib_rules.specs.Options.{library_options_view}
use Rattle.implib_driver.proofs.Finishing.{counts_failing}
use Rattle.implib_driver.proofs.definition_program.refuse_stub.Goals as goal

pub returns-in-Ok : goal.returns-in-Ok
returns-in-Ok g c = λ made fails known disk.
    let library = library_options_view c.args.request.now.library in
    inr (inr (inl (record {
      count = 0;
      counted = counts_failing c.args.bytes.now library library.flavor library.machine c.args.members.now fails;
      warned = g.T.Reporter.said c.warn.new.reporter;
      warns = c.in-Ok.ensures.warned;
      members = c.args.members.now;
      members_asked = made;
      fails = fails;
      same_disk = refl;
      says = c.complain.ensures;
      is_status = refl;
    })))
