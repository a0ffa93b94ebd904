use Rattle.std.proofs.Common.{◌≡◌, ◌∙◌, ap, inl, length, refl, subst, sym}
use Rattle.implib_rules.specs.Library.{CountsMembers}
use Rattle.implib_rules.specs.Options.{library_options_view}
use Rattle.implib_driver.specs.Program.{is_bare, members_counted}
use Rattle.implib_driver.proofs.Finishing.{counts_with}
use Rattle.implib_driver.proofs.definition_program.finish.Goals as goal

pub returns-in-Ok : goal.returns-in-Ok
returns-in-Ok g c = λ other made runs.
    let bytes = c.args.bytes.now in
    let library = library_options_view c.args.request.now.library in
    let members = c.args.members in
    let count : c.members_counted.result ≡ members_counted library.flavor (length members) =
    c.members_counted.ensures ∙ ap (members_counted library.flavor) c.len.ensures in
    let counts = subst (λ n. CountsMembers bytes library library.flavor n) (sym count) (counts_with c.args.request.now.older_symbols bytes library library.flavor members refl made) in
    inl (record {
      no_utf16 = other;
      bare = c.is_bare.result;
      counts = inl (record { members = members; members_asked = made; is = c.is_bare.ensures ∙ ap is_bare c.len-2.ensures });
      count = c.members_counted.result;
      counted = counts;
      warned = g.T.Reporter.said c.warn.new.reporter;
      warns = c.in-Ok.ensures.warned;
      answer = c.put-put.result;
      answers = c.put-put.ensures.answers bytes made runs;
      says = c.conclude.ensures.said;
      is_status = c.conclude.ensures.status;
    })
