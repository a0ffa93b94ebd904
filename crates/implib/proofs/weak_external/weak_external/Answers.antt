use Rattle.std.proofs.Common.{refl, ap, sym, subst, [], ◌∷◌}
use Rattle.implib.specs.Views.Making.{EncodesObject}
use Rattle.implib.specs.Members.WeakExternal.{weak_object}
use Rattle.implib.specs.Formats.Layout.{Fits}
use Rattle.implib.proofs.Members.MemberMeanings.{weak_bytes_mean}
use Rattle.implib.proofs.Members.MsvcObjects.{Fits-weak_object, same_layout}
use Rattle.implib.proofs.weak_external.weak_external.Goals as goal

pub encode-requires : goal.encode-requires
unfolding weak_object
encode-requires c = subst Fits (same_layout (weak_object c.args.machine c.args.weak.now c.args.target.now) _ _ _ _ _ c.number.ensures refl (ap (λ s. s ∷ []) c.weak_section.ensures) c.weak_symbols-symbols.ensures refl) (Fits-weak_object c.args.machine c.args.weak.now c.args.target.now c.requires.weak_text c.requires.target_text)

pub returns-clause-object : goal.returns-clause-object
unfolding weak_object
returns-clause-object c =
    subst (λ p. EncodesObject p c.encode.result)
    (sym (same_layout (weak_object c.args.machine c.args.weak.now c.args.target.now) _ _ _ _ _ c.number.ensures refl (ap (λ s. s ∷ []) c.weak_section.ensures) c.weak_symbols-symbols.ensures refl)) c.encode.ensures

pub returns-clause-meaning : goal.returns-clause-meaning
returns-clause-meaning c =
    weak_bytes_mean c.args.machine c.args.weak.now c.args.target.now c.encode.result c.requires.weak_text c.requires.target_text
    (returns-clause-object c).bytes (returns-clause-object c).short
