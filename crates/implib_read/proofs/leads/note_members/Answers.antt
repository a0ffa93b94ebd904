use Rattle.std.proofs.Common.{rules, arith}
use Rattle.implib_read.specs.ArchiveViews.{member_view}
use Rattle.implib_read.specs.FileViews.{file_view}
use Rattle.implib_read.proofs.Declarers.{beside, noted-member, same_length}
use Rattle.implib_read.proofs.leads.note_members.Goals as goal

pub note_file-requires : goal.note_file-requires
note_file-requires c = grind (arith, same_length, beside, c.requires.files, c.deref.ensures.value, c.index-names-i.is, c.requires.names, c.index-files-i.is)

pub loop-i-preserved : goal.loop-i-preserved
loop-i-preserved c = λ other.
    noted-member member_view file_view c.args.members.now c.args.files.now c.loop-i.i _ c.index-files-i.result other _ _ _ c.requires.files (search rules) c.index-files-i.is
    (c.in_ok-note_file.ensures other) (c.loop-i.invariant other)
