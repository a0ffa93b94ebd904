use Rattle.std.proofs.Common.{◌≡◌, ◌+◌, ℕ, List, if◌then◌else◌, length, ap, refl}
use Rattle.implib.specs.Import.{name_asked}
use Rattle.implib.specs.Views.KeptObjects.{kept_export, stub_size}
use Rattle.implib.proofs.Members.KeptObjects.{contents_long}
use Rattle.implib.proofs.gnu.export_objects.KeptObject.contents_size.Goals as goal
use Rattle.implib.proofs.gnu.export_objects.KeptObject.contents_size.Goals.{then-self, else-self, then-self-2, else-self-2}

pub returns : goal.returns
returns c =
    let machine = c.args.machine in
    let e = kept_export c.args.self.now in
    let stub : c.if-self.stub ≡ (if e.is_data then 0 else stub_size machine) =
    elim c.if-self.branch [
      | then-self w ↦ rw (w.stub-is, w.if-self.true) refl
      | else-self w ↦ rw (w.stub-is, w.if-self.false) w.stub_size-stub.ensures
    ] in
    let by_name : c.if-self-2.by_name ≡ (if e.no_name then 0 else 20 + 3 + length (name_asked machine e)) =
    elim c.if-self-2.branch [
      | then-self-2 w ↦ rw (w.by_name-is, w.if-self-2.true) refl
      | else-self-2 w ↦ rw (w.by_name-is, w.if-self-2.false) (ap (λ (n : List ℕ). 23 + length n) w.asked.ensures)
    ] in
    rw (contents_long machine e, stub, by_name, c.thunk_width.ensures) refl
