-- A name that is defined once has one definition.
use Rattle.std.proofs.Common.{arith, ◌≡◌, ℕ, true, false, List, [], ◌∷◌, map, refl, ap, sym, inl, inr, subst}
use Rattle.std.specs.Prelude.{bytes_eq}
use Rattle.std.specs.List.{AllByRecursion, IsDistinct, filter}
use Rattle.std.proofs.lemmas.Bool.{false_from_ne_true, true≢false}
use Rattle.std.proofs.lemmas.Slice.Eq.{bytes_eq-Decides}
use Rattle.implib.specs.Link.Resolution.{SymbolDefinition}
use Rattle.implib.proofs.Link.Ranges.{Among}

pub same_text : (text : List ℕ) → bytes_eq text text ≡ true
same_text text = (bytes_eq-Decides text text).1 refl

pub not_same_turned : (first second : List ℕ) → bytes_eq first second ≡ false → bytes_eq second first ≡ false
not_same_turned first second differ = grind (arith, false_from_ne_true, true≢false, bytes_eq-Decides)

pub none_of : (name : List ℕ) (ds : List SymbolDefinition) → AllByRecursion (λ other. bytes_eq name other ≡ false) (map (λ (d : SymbolDefinition). d.name) ds) →
    filter (λ (d : SymbolDefinition). bytes_eq name d.name) ds ≡ []
none_of name [] apart = refl
none_of name (d ∷ ds) apart = rw apart.0 (none_of name ds apart.1)

differs : (name : List ℕ) (d : SymbolDefinition) (ds : List SymbolDefinition) → Among d ds →
    AllByRecursion (λ other. bytes_eq name other ≡ false) (map (λ (d : SymbolDefinition). d.name) ds) → bytes_eq name d.name ≡ false
unfolding Among
differs name d [] m apart = absurd m
differs name d (x ∷ ds) (inl e) apart = rw e apart.0
differs name d (x ∷ ds) (inr m) apart = differs name d ds m apart.1

pub only_definition : (d : SymbolDefinition) (ds : List SymbolDefinition) → Among d ds → IsDistinct bytes_eq (map (λ (d : SymbolDefinition). d.name) ds) →
    filter (λ (other : SymbolDefinition). bytes_eq d.name other.name) ds ≡ d ∷ []
unfolding Among IsDistinct
only_definition d [] m distinct = absurd m
only_definition d (x ∷ ds) (inl e) distinct =
    let none : filter (λ (other : SymbolDefinition). bytes_eq d.name other.name) ds ≡ [] =
    none_of d.name ds (subst (λ (y : SymbolDefinition). AllByRecursion (λ other. bytes_eq y.name other ≡ false) (map (λ (d : SymbolDefinition). d.name) ds)) (sym e) distinct.0) in
    let same : bytes_eq d.name x.name ≡ true = subst (λ (y : SymbolDefinition). bytes_eq d.name y.name ≡ true) e (same_text d.name) in
    rw (same, none) (ap (λ y. y ∷ []) (sym e))
only_definition d (x ∷ ds) (inr m) distinct =
    rw (not_same_turned x.name d.name (differs x.name d ds m distinct.0)) (only_definition d ds m distinct.1)
