use Rattle.std.proofs.Common.{refl, ap, sym, subst, [], ◌∷◌}
use Rattle.implib.specs.Views.Making.{EncodesObject}
use Rattle.implib.specs.Members.MsvcObjects.{null_descriptor, null_descriptor_symbol}
use Rattle.implib.specs.Formats.Layout.{Fits}
use Rattle.implib.proofs.Members.MsvcObjects.{Fits-null_descriptor, same_layout}
use Rattle.implib.proofs.msvc.objects.null_descriptor_object.Goals as goal

pub encode-requires : goal.encode-requires
unfolding null_descriptor null_descriptor_symbol
encode-requires c = subst Fits (same_layout (null_descriptor c.args.machine) _ _ _ _ _ c.number.ensures c.descriptor_characteristics.ensures (ap (λ s. s ∷ []) c.in_ok-null_descriptor_section.ensures) (ap (λ s. s ∷ []) c.in_string_table.ensures) refl) (Fits-null_descriptor c.args.machine)

pub returns : goal.returns
unfolding null_descriptor null_descriptor_symbol
returns c =
    subst (λ p. EncodesObject p c.encode.result)
    (sym (same_layout (null_descriptor c.args.machine) _ _ _ _ _ c.number.ensures c.descriptor_characteristics.ensures (ap (λ s. s ∷ []) c.in_ok-null_descriptor_section.ensures) (ap (λ s. s ∷ []) c.in_string_table.ensures) refl)) c.encode.ensures
