use Rattle.std.proofs.Common.{rules}
use Rattle.implib_archive.specs.Archive.{archive_of}
use Rattle.implib_rules.specs.Library.{kind_of}
use Rattle.implib_driver.proofs.placing.put.Goals as goal

pub returns-clause-answers : goal.returns-clause-answers
returns-clause-answers g c = λ bytes made runs.
    let members = c.args.members.now in
    record {
      file = archive_of (kind_of c.args.request.now.library.flavor members) members;
      is_library = record { members = members; members_asked = made; accepted = c.in_ok-archive.ensures.accepted; is = search rules };
      runs = runs;
      unplaced = c.in-Err.ensures.unplaced;
    }

pub returns-in-Ok-clause-answers : goal.returns-in-Ok-clause-answers
returns-in-Ok-clause-answers g c = λ bytes made runs.
    let members = c.args.members.now in
    let placed = rw c.in_ok-archive.ensures.holds at c.in-Ok.ensures.put in
    record {
      file = archive_of (kind_of c.args.request.now.library.flavor members) members;
      is_library = record { members = members; members_asked = made; accepted = c.in_ok-archive.ensures.accepted; is = search rules };
      runs = runs;
      is_put = placed;
    }
