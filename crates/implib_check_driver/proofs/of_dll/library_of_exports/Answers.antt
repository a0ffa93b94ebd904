use Rattle.std.proofs.Common.{inr, rules}
use Rattle.implib_check_driver.proofs.of_dll.library_of_exports.Goals as goal

pub returns-clause-none : goal.returns-clause-none
returns-clause-none c =
    let said = rw c.in-Err-3.is at c.in_ok-file.ensures.none in (
      said.0,
      inr (record {
        machine = c.in-Ok.machine;
        suits = search rules;
        unmade = inr (record { members = c.in-Ok-2.members; made = search rules; unkept = rw c.flavor_for_dll.ensures at said.1 });
      }),
    )
