use Rattle.std.proofs.Common.{◌≡◌, take, map}
use Rattle.implib_read.specs.FileViews.{file_view}
use Rattle.implib_read.specs.Leads.{import_names}
use Rattle.implib_read.proofs.leads.names_of_files.Given as goal

abbrev pub invariant-loop-file : goal.invariant-loop-file
invariant-loop-file l = map (λ names. map (λ name. name.items) names.items) l.names.items ≡ map import_names (map file_view (take l.file-index l.files))
