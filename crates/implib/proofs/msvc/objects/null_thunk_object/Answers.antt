use Rattle.std.proofs.Common.{◌≡◌, ap, sym, subst, [], ◌∷◌}
use Rattle.implib.specs.Views.Making.{EncodesObject}
use Rattle.implib.specs.Members.MsvcObjects.{null_thunk}
use Rattle.implib.specs.Formats.Object.{ObjectSection}
use Rattle.implib.specs.Formats.Layout.{Fits}
use Rattle.implib.proofs.Members.MsvcObjects.{Fits-null_thunk, same_layout}
use Rattle.implib.proofs.msvc.objects.null_thunk_object.Goals as goal

two_sections : {x y u v : ObjectSection} → x ≡ u → y ≡ v → x ∷ y ∷ [] ≡ u ∷ v ∷ []
two_sections first second = cc

pub encode-requires : goal.encode-requires
unfolding null_thunk
encode-requires c = subst Fits (same_layout (null_thunk c.args.machine c.args.library.now) _ _ _ _ _ c.number.ensures c.descriptor_characteristics.ensures (two_sections c.in_ok-address_table.ensures c.in_ok-lookup_table.ensures) (ap (λ s. s ∷ []) c.in_string_table.ensures) (ap (λ s. s ∷ []) c.requires.symbol)) (Fits-null_thunk c.args.machine c.args.library.now c.requires.library_text)

pub returns : goal.returns
unfolding null_thunk
returns c =
    subst (λ p. EncodesObject p c.encode.result)
    (sym (same_layout (null_thunk c.args.machine c.args.library.now) _ _ _ _ _ c.number.ensures c.descriptor_characteristics.ensures (two_sections c.in_ok-address_table.ensures c.in_ok-lookup_table.ensures) (ap (λ s. s ∷ []) c.in_string_table.ensures) (ap (λ s. s ∷ []) c.requires.symbol))) c.encode.ensures
