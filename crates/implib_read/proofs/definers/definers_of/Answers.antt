use Rattle.std.proofs.Common.{rules}
use Rattle.implib_read.specs.FileViews.{file_view}
use Rattle.implib_read.proofs.FirstPlaces.{noted-file}
use Rattle.implib_read.proofs.definers.definers_of.Goals as goal

pub loop-file-preserved : goal.loop-file-preserved
loop-file-preserved c = λ other.
    noted-file file_view other c.args.files.now c.loop-file.file-index c.file-item.result _ _ (search rules) c.file-item.is (c.loop-file.invariant other) (c.in_ok-note_file.ensures other)
