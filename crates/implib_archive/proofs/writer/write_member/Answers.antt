use Rattle.std.proofs.Common.{arith, subst}
use Rattle.implib_archive.specs.Pushed.{shown}
use Rattle.implib_archive.specs.Sources.{member_at}
use Rattle.implib.specs.Beginning.{AppendsBeginning}
use Rattle.implib_archive.proofs.Puts.{member_whole, piece_is, writes_err}
use Rattle.implib_archive.proofs.writer.write_member.Goals as goal

pub returns-in_err-put_part-clause-written : goal.returns-in_err-put_part-clause-written
returns-in_err-put_part-clause-written g c =
    let m = member_at (g.S.Members.members c.args.source.now) c.args.index in
    let made = piece_is c.as_slice-2.ensures.value c.in_ok-push_bytes.ensures c.clear.ensures.items in
    let whole = member_whole (shown c.args.names.now.offsets.entries) m c.in_ok-renew_header.ensures c.as_slice.ensures.value made in
    writes_err c.from_residual-in_err-put_part.result _ _ _ c.from_residual-in_err-put_part.ensures.0
    (subst (AppendsBeginning (g.W.Write.contents c.args.writer.now) (g.W.Write.contents c.put_part.new.writer)) whole c.in_err-put_part.ensures)

pub returns-clause-written : goal.returns-clause-written
returns-clause-written g c = grind (arith, piece_is, member_whole, c.as_slice-2.ensures.value, c.in_ok-push_bytes.ensures, c.clear.ensures.items, c.in_ok-renew_header.ensures, c.as_slice.ensures.value, c.in_ok-put_part.ensures)
