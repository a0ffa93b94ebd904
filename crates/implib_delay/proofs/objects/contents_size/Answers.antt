use Rattle.std.proofs.Common.{◌≡◌, ◌+◌, if◌then◌else◌, length, arith}
use Rattle.implib.specs.Definition.{export_view}
use Rattle.implib.specs.Import.{name_asked}
use Rattle.implib_delay.proofs.Sizes.{contents_long}
use Rattle.implib_delay.proofs.objects.contents_size.Goals as goal
use Rattle.implib_delay.proofs.objects.contents_size.Goals.{then-export, else-export}

pub returns : goal.returns
returns c =
    let machine = c.args.machine in
    let e = export_view c.args.export.now in
    let by_name : c.if-export.by_name ≡ (if e.no_name then 0 else 13 + length (name_asked machine e)) = grind (arith, then-export, else-export, c.if-export.branch) in
    rw (contents_long machine e, by_name, c.thunk_width.ensures, c.stub_code.ensures) (omega arith)
