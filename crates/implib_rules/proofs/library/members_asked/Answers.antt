use Rattle.std.proofs.Common.{rules, ℕ, List, subst}
use Rattle.implib.specs.Fault.{cause_of}
use Rattle.implib_rules.specs.Older.{has_older}
use Rattle.implib_rules.specs.Places.{IsAtFault}
use Rattle.implib_rules.specs.Options.{library_options_view}
use Rattle.implib_rules.proofs.Made.{found_in, members_asked, refused_asked}
use Rattle.implib_rules.proofs.library.members_asked.Goals as goal

pub returns-in-Ok-members_of-clause-made : goal.returns-in-Ok-members_of-clause-made
returns-in-Ok-members_of-clause-made c =
    members_asked (has_older c.args.older_symbols c.args.options.now.flavor) c.args.bytes.now c.in-Ok.text.now (library_options_view c.args.options.now) _ _ (found_in c.args.bytes.now c.in-Ok.text.now c.in_ok-read.read c.in_ok-read.ensures c.in-Ok.ensures) c.in_ok-def.ensures.meant c.in-Ok-members_of.ensures.ok

pub returns-in-Err-Invalid-clause-refused : goal.returns-in-Err-Invalid-clause-refused
returns-in-Err-Invalid-clause-refused c =
    let fault = c.in-Err-Invalid.fault in
    let found = found_in c.args.bytes.now c.in-Ok.text.now c.in_ok-read.read c.in_ok-read.ensures c.in-Ok.ensures in (
      refused_asked (has_older c.args.older_symbols c.args.options.now.flavor) c.args.bytes.now c.in-Ok.text.now (library_options_view c.args.options.now) _ (cause_of fault) found c.in_ok-def.ensures.meant (search rules),
      subst (λ (text : List ℕ). IsAtFault text (cause_of fault) c.in_ok-position-in-Err-Invalid.position) found.0 c.in_ok-position-in-Err-Invalid.ensures.at,
    )
