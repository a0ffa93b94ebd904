use Rattle.std.proofs.Common.{Err, false, inl, inr, refl}
use Rattle.implib_rules.specs.declared.library.LibraryError.TheVariants.{Refused}
use Rattle.implib_rules.specs.Options.{library_options_view}
use Rattle.implib_driver.proofs.Finishing.{counts_without, has_memory, without_members}
use Rattle.implib_driver.proofs.definition_program.refuse.Goals as goal

pub returns-in-Ok : goal.returns-in-Ok
returns-in-Ok g c = λ other refused known disk.
    let bytes = c.args.bytes.now in
    let library = library_options_view c.args.request.now.library in
    let asked = c.args.request.now.older_symbols in
    let memory = has_memory c.args.refusal c.in_default.not-OutOfMemory in
    inl (record {
      no_utf16 = other;
      bare = false;
      counts = inr (record { refusal = c.args.refusal; refused = refused; has_memory = memory; is = refl });
      count = 0;
      counted = counts_without asked bytes library library.flavor c.args.refusal refl refused memory;
      warned = g.T.Reporter.said c.warn.new.reporter;
      warns = c.in-Ok.ensures.warned;
      answer = Err (Refused c.args.refusal);
      answers = record { refused = without_members asked bytes library c.args.refusal refused; same = refl };
      says = c.conclude.ensures.said;
      is_status = c.conclude.ensures.status;
    })
