use Rattle.std.proofs.Common.{◌≡◌, ◌||◌, if◌then◌else◌, bytes_eq, refl}
use Rattle.implib.specs.Views.KeptObjects.{kept_export, long_name_size}
use Rattle.implib.proofs.Members.KeptObjects.{names_long, saturated}
use Rattle.implib.proofs.gnu.export_objects.KeptObject.names_size.Goals as goal
use Rattle.implib.proofs.gnu.export_objects.KeptObject.names_size.Goals.{then-self, else-self, then-eq, else-eq}

pub returns : goal.returns
returns c = λ machine linked is.
    let e = kept_export c.args.self.now in
    let same : c.if-self.value ≡ (e.is_data || bytes_eq e.name c.args.head.now) =
    elim c.if-self.branch [
      | then-self w ↦ rw (w.value-is, w.if-self.true) refl
      | else-self w ↦ rw (w.value-is, w.if-self.false, w.eq.ensures, w.symbol.ensures) refl
    ] in
    let code : c.if-eq.code ≡ (if e.is_data || bytes_eq e.name c.args.head.now then 0 else long_name_size e.name) =
    elim c.if-eq.branch [
      | then-eq w ↦ rw (w.code-is, ← same, w.if-eq.true) refl
      | else-eq w ↦ rw (w.code-is, ← same, w.if-eq.false, w.long_name_size-code.ensures, w.symbol-else-eq.ensures) refl
    ] in
    rw (c.saturating_add-2.ensures, c.saturating_add.ensures, code, c.long_name_size.ensures, c.long_name_size-2.ensures, c.as_str.ensures.value, c.requires, is, names_long machine linked e)
    (saturated _ _ _ _)
