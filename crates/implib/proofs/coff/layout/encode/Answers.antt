use Rattle.std.proofs.Common.{◌≡◌, ap, arith}
use Rattle.implib.specs.Views.Layout.{layout_view}
use Rattle.implib.proofs.Formats.ObjectReading.{length-encoded}
use Rattle.implib.proofs.coff.layout.encode.Goals as goal

pub finish-requires : goal.finish-requires
finish-requires c =
    let room : c.in_ok-pass.pass.left ≡ c.in_ok-measure.measure.length = ap (λ w. w.left) c.in_ok-pass.ensures.ok in
    omega (arith, room, c.in_ok-measure.ensures.measured.length, c.put_object.ensures.left, length-encoded (layout_view c.args.layout.now) c.requires c.in_ok-measure.ensures.measured.short)
