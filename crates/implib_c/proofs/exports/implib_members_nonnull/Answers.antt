use Rattle.implib_c.proofs.exports.implib_members_nonnull.Goals as goal

pub returns : goal.returns
returns c = rw (c.tell.ensures.length, c.tell.ensures.place, c.tell.ensures.status) c.members_into-answer.ensures
