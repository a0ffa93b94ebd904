use Rattle.std.proofs.Common.{◌++◌}
use Rattle.implib_archive.specs.Archive.{front, linkers, names_bytes, names_part}
use Rattle.implib_archive.specs.Parts.{signature}
use Rattle.implib_archive.specs.Pushed.{Pushes, shown}
use Rattle.implib_archive.proofs.Behind.{begins_behind, begins_first, begins_longer, begins_put, begins_so_far, behind_pushed, behind_put, behind_then}
use Rattle.implib_archive.proofs.Puts.{writes_err}
use Rattle.implib_archive.proofs.front.write_front.Goals as goal

pub returns-in_err-write_linkers : goal.returns-in_err-write_linkers
unfolding front signature
returns-in_err-write_linkers g c =
    let linked = linkers c.args.kind c.args.places.now (shown c.args.entries.now) in
    let names = names_part (names_bytes c.args.kind (shown c.args.names.now.offsets.entries)) in
    let start : Pushes c.args.piece.now.items _ signature = record { whole = c.in_ok-extend_from_slice.ensures.items } in
    let signed = behind_pushed (g.W.Write.contents c.args.writer.now) start in
    writes_err c.from_residual-in_err-write_linkers.result _ _ _ c.from_residual-in_err-write_linkers.ensures.0
    (begins_first _ _ (signature ++ linked ++ names) c.requires.empty (begins_longer _ _ _ (signature ++ linked) names (begins_behind _ _ _ linked signed c.in_err-write_linkers.ensures)))

pub returns-in_err-push_names : goal.returns-in_err-push_names
unfolding front signature
returns-in_err-push_names g c =
    let linked = linkers c.args.kind c.args.places.now (shown c.args.entries.now) in
    let names = names_part (names_bytes c.args.kind (shown c.args.names.now.offsets.entries)) in
    let start : Pushes c.args.piece.now.items _ signature = record { whole = c.in_ok-extend_from_slice.ensures.items } in
    let signed = behind_pushed (g.W.Write.contents c.args.writer.now) start in
    let inside = behind_then _ _ _ signed c.in_ok-write_linkers.ensures in
    writes_err c.from_residual-in_err-push_names.result _ _ _ c.from_residual-in_err-push_names.ensures.0
    (begins_first _ _ (signature ++ linked ++ names) c.requires.empty (begins_so_far _ _ names inside))

pub returns-in_err-put : goal.returns-in_err-put
unfolding front signature
returns-in_err-put g c =
    let linked = linkers c.args.kind c.args.places.now (shown c.args.entries.now) in
    let names = names_part (names_bytes c.args.kind (shown c.args.names.now.offsets.entries)) in
    let start : Pushes c.args.piece.now.items _ signature = record { whole = c.in_ok-extend_from_slice.ensures.items } in
    let signed = behind_pushed (g.W.Write.contents c.args.writer.now) start in
    let inside = behind_then _ _ _ signed c.in_ok-write_linkers.ensures in
    let whole = behind_then _ _ _ inside (behind_pushed _ c.in_ok-push_names.ensures) in
    writes_err c.from_residual-in_err-put.result _ _ _ c.from_residual-in_err-put.ensures.0
    (begins_put _ _ _ c.requires.empty whole c.as_slice.ensures.value c.in_err-put.ensures)

pub returns : goal.returns
unfolding front signature
returns g c =
    let linked = linkers c.args.kind c.args.places.now (shown c.args.entries.now) in
    let names = names_part (names_bytes c.args.kind (shown c.args.names.now.offsets.entries)) in
    let start : Pushes c.args.piece.now.items _ signature = record { whole = c.in_ok-extend_from_slice.ensures.items } in
    let signed = behind_pushed (g.W.Write.contents c.args.writer.now) start in
    let inside = behind_then _ _ _ signed c.in_ok-write_linkers.ensures in
    let whole = behind_then _ _ _ inside (behind_pushed _ c.in_ok-push_names.ensures) in
    behind_put _ _ _ c.requires.empty whole c.as_slice.ensures.value c.in_ok-put.ensures
