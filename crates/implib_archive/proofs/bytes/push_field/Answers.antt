use Rattle.std.proofs.Common.{◌≡◌, ◌++◌, ◌-◌, ◌≤◌, ◌∙◌, ap, arith, length, replicate, length-append}
use Rattle.implib_archive.specs.Parts.{field}
use Rattle.implib_archive.specs.Pushed.{Pushes}
use Rattle.implib_archive.proofs.Appended.{on_as, on_slice, on_then, pushes_then, take_replicate}
use Rattle.implib_archive.proofs.bytes.push_field.Goals as goal

pub returns : goal.returns
unfolding field
returns c =
    let text : Pushes c.args.out.now.items _ c.args.text.now = record { whole = c.in_ok-extend_from_slice.ensures.items } in
    let end : Pushes _ _ c.args.end.now = record { whole = c.in_ok-extend_from_slice-2.ensures.items } in
    let width = c.args.width in
    let size : c.saturating_sub-left.result ≡ width - length (c.args.text.now ++ c.args.end.now) = omega (arith, c.saturating_sub-left.ensures, length-append c.args.text.now c.args.end.now) in
    let within : c.saturating_sub-left.result ≤ 16 = omega (arith, c.requires) in
    on_as _ _ _ (ap (λ t. (c.args.text.now ++ c.args.end.now) ++ t) (take_replicate c.saturating_sub-left.result 16 32 within ∙ ap (λ n. replicate n 32) size))
    (on_then _ _ _ (pushes_then text end) (on_slice _ _ _ _ c.extend_from_slice-3.ensures.items))
