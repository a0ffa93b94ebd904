use Rattle.std.proofs.Common.{◌≡◌, take, map}
use Rattle.std.specs.List.{filter_map}
use Rattle.implib.specs.Members.GnuReader.{external_in}
use Rattle.implib_read.specs.ObjectViews.{entry_view, object_view}
use Rattle.implib_read.proofs.imports.externals_among.Given as goal

abbrev pub invariant-loop-entry : goal.invariant-loop-entry
invariant-loop-entry l =
    map (λ t. t.now) l.names.items ≡ filter_map (external_in (object_view l.object) l.section) (map entry_view (take l.entry-index l.entries))
