use Rattle.std.proofs.Common.{◌≡◌, refl, sym, subst, List, ℕ, [], ◌∷◌}
use Rattle.implib.specs.Views.Making.{EncodesObject}
use Rattle.implib.specs.Members.MsvcObjects.{descriptor, null_descriptor_symbol}
use Rattle.implib.specs.Formats.Layout.{Fits}
use Rattle.implib.proofs.Members.MsvcObjects.{Fits-descriptor, same_layout}
use Rattle.implib.proofs.msvc.objects.descriptor_object.Goals as goal

listed_strings : {x y z u v w : List ℕ} → x ≡ u → y ≡ v → z ≡ w → x ∷ y ∷ z ∷ [] ≡ u ∷ v ∷ w ∷ []
listed_strings first second third = cc

pub encode-requires : goal.encode-requires
unfolding descriptor null_descriptor_symbol
encode-requires c = subst Fits (same_layout (descriptor c.args.machine (record { linked = c.args.library.now; text = c.args.dll.now })) _ _ _ _ _ c.number.ensures c.descriptor_characteristics.ensures c.in_ok-sections.ensures c.descriptor_symbols-symbols.ensures (listed_strings c.requires.symbol refl c.requires.null_thunk)) (Fits-descriptor c.args.machine (record { linked = c.args.library.now; text = c.args.dll.now }) c.requires.library_text)

pub returns : goal.returns
unfolding descriptor null_descriptor_symbol
returns c =
    subst (λ p. EncodesObject p c.encode.result)
    (sym (same_layout (descriptor c.args.machine (record { linked = c.args.library.now; text = c.args.dll.now })) _ _ _ _ _ c.number.ensures c.descriptor_characteristics.ensures c.in_ok-sections.ensures c.descriptor_symbols-symbols.ensures (listed_strings c.requires.symbol refl c.requires.null_thunk))) c.encode.ensures
