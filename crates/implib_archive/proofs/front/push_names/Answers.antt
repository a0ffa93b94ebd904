use Rattle.std.proofs.Common.{◌<◌, ◌+◌, ◌%◌, ap, arith, length, sym}
use Rattle.implib_archive.specs.Archive.{names_bytes, names_label}
use Rattle.implib_archive.specs.Parts.{header_bytes}
use Rattle.implib_archive.specs.Pushed.{shown}
use Rattle.implib_archive.proofs.Appended.{on_as, pushes_as, pushes_nothing}
use Rattle.implib_archive.proofs.Sized.{names_part-none, names_part-some, on_padded}
use Rattle.implib_archive.proofs.front.push_names.Goals as goal

pub returns-then-names-eq0 : goal.returns-then-names-eq0
returns-then-names-eq0 c = grind (arith, pushes_as, names_part-none, pushes_nothing, c.requires.measured, c.if-names-eq0.true)

pub returns : goal.returns
returns c =
    let names = names_bytes c.args.kind (shown c.args.names.now.offsets.entries) in
    let size = c.args.names.now.size in
    let some : 0 < length names = omega (arith, c.requires.measured, c.if-names-eq0.false) in
    on_as _ _ _ (names_part-some names some)
    (on_padded c.push_padding.result names_label 10 size names c.push_padding.new.out.items (sym c.requires.measured)
    (pushes_as (ap (λ l. header_bytes l (size + size % 2)) c.names_label.ensures) c.in_ok-push_header.ensures)
    c.in_ok-push_names.ensures c.push_padding.ensures)
