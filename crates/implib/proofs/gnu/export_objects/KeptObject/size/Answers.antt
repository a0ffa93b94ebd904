use Rattle.std.proofs.Common.{◌≡◌, if◌then◌else◌, refl}
use Rattle.implib.specs.Views.KeptObjects.{kept_export}
use Rattle.implib.proofs.Members.KeptObjects.{object_long, sizes_saturated}
use Rattle.implib.proofs.gnu.export_objects.KeptObject.size.Goals as goal
use Rattle.implib.proofs.gnu.export_objects.KeptObject.size.Goals.{then-self, else-self}

pub returns : goal.returns
returns c = λ linked is.
    let e = kept_export c.args.self.now in
    let records : c.if-self.records ≡ (if e.is_data then 3 else 4) =
    elim c.if-self.branch [
      | then-self w ↦ rw (w.records-is, w.if-self.true) refl
      | else-self w ↦ rw (w.records-is, w.if-self.false) refl
    ] in
    rw (object_long c.args.machine linked e, ← is, ← records)
    (sizes_saturated c.if-self.records _ _ c.saturating_add-2.ensures (rw c.contents_size.ensures at c.saturating_add.ensures) (c.names_size.ensures c.args.machine linked is))
