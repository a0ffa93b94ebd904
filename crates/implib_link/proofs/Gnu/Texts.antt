-- The exports of a text that are chosen, with what it states of them.
use Rattle.std.proofs.Common.{arith, ◌≡◌, ℕ, Bool, List, [], ◌∷◌, map, refl, ap, ◌∙◌}
use Rattle.std.specs.Prelude.{not, slice_get}
use Rattle.std.specs.List.{AllByRecursion, filter, filter_map}
use Rattle.std.proofs.lemmas.Option.{slice_get-map}
use Rattle.implib.specs.declared.flavor.Flavor.{Flavor}
use Rattle.implib.specs.declared.machine.MachineType.{MachineType}
use Rattle.implib.specs.Asked.{EachAsksForItsWord}
use Rattle.implib.specs.Definition.{DefinitionView, ExportView}
use Rattle.implib.specs.Text.Grammar.{Export}
use Rattle.implib.specs.Library.{LibraryView}
use Rattle.implib.specs.Link.LinkedMembers.{chosen_exports}
use Rattle.implib.specs.Renaming.{renamed}
use Rattle.implib.proofs.Members.Renaming.{renamed_twice}
use Rattle.implib_link.specs.Flavors.Texts.{Stated, chosen_stated, stated}
use Rattle.implib_link.proofs.Search.Lists.{all_from, kept_from, passing}
use Rattle.implib.proofs.Link.Ranges.{all_among}
use Rattle.implib.proofs.Link.LinkedMembers.{all_at}

-- the exports of a list that is stated are those of the list
exports_stated : (machine : MachineType) (exports : List ExportView) (statements : List Export) → EachAsksForItsWord machine exports statements →
    map (λ (s : Stated). s.export) (stated exports statements) ≡ exports
exports_stated machine (e ∷ exports) (s ∷ statements) each = ap (λ others. e ∷ others) (exports_stated machine exports statements each.1)
exports_stated machine exports statements each = grind arith

pub all_filter : {X : Type 0} (P : X → Type 0) (test : X → Bool) (xs : List X) → AllByRecursion P xs → AllByRecursion P (filter test xs)
all_filter P test xs all = all_from P (filter test xs) (λ x held. all_among P x xs (passing test x xs held).0 all)

map_filter : {X Y : Type 0} (f : X → Y) (test : Y → Bool) (xs : List X) → map f (filter (λ x. test (f x)) xs) ≡ filter test (map f xs)
map_filter f test [] = refl
map_filter f test (x ∷ xs) = grind (arith, map_filter f test xs)

-- choosing by numbers
pub all_chosen : {X : Type 0} (P : X → Type 0) (xs : List X) (chosen : List ℕ) → AllByRecursion P xs → AllByRecursion P (filter_map (slice_get xs) chosen)
all_chosen P xs chosen all = all_from P (filter_map (slice_get xs) chosen) (λ x held. let from = kept_from (slice_get xs) chosen x held in all_at P xs from.0 x all from.2)

map_chosen : {X Y : Type 0} (f : X → Y) (xs : List X) (chosen : List ℕ) → map f (filter_map (slice_get xs) chosen) ≡ filter_map (slice_get (map f xs)) chosen
map_chosen f xs [] = refl
map_chosen f xs (n ∷ chosen) = grind (arith, map_chosen f xs chosen, slice_get-map)

module _ (machine : MachineType) (d : DefinitionView) (statements : List Export) (each : EachAsksForItsWord machine (renamed d).exports statements) (chosen : List ℕ) where
  pub statements_are : map (λ (s : Stated). s.export) (chosen_stated d statements chosen) ≡ chosen_exports d chosen
  statements_are =
      map_chosen (λ (s : Stated). s.export) (filter (λ s. not s.export.private) (stated (renamed d).exports statements)) chosen
      ∙ ap (λ (es : List ExportView). filter_map (slice_get es) chosen)
      (map_filter (λ (s : Stated). s.export) (λ (e : ExportView). not e.private) (stated (renamed d).exports statements)
      ∙ ap (filter (λ (e : ExportView). not e.private)) (exports_stated machine (renamed d).exports statements each))

-- exports under their names to link by are chosen as others
pub chosen_renamed : (library : LibraryView) (parsed : DefinitionView) (machine : MachineType) (flavor : Flavor) (chosen : List ℕ) →
    library ≡ record { definition = renamed parsed; machine = machine; flavor = flavor } → chosen_exports library.definition chosen ≡ chosen_exports parsed chosen
chosen_renamed library parsed machine flavor chosen held = grind (arith, renamed_twice)
