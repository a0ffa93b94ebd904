-- Exports with nothing but a word, a number and two flags, as those of a DLL are, and what the rules make of them.
use Rattle.std.proofs.Common.{arith, ◌≡◌, ℕ, Bool, true, false, ◌&&◌, ◌||◌, not, List, [], ◌∷◌, ◌++◌, map, refl, ap, ◌∙◌, append-nil}
use Rattle.std.specs.Prelude.{bytes_eq}
use Rattle.std.specs.List.{list_all, list_any}
use Rattle.implib.specs.declared.flavor.Flavor.{Flavor}
use Rattle.implib.specs.declared.flavor.Flavor.TheVariants.{Msvc, Gnu}
use Rattle.implib.specs.declared.machine.MachineType.{MachineType}
use Rattle.implib.specs.Definition.{ExportView, empty_export}
use Rattle.implib_rules.specs.Additions.{extended_exports, no_additions, underscored}
use Rattle.implib_rules.specs.Linked.{NamingView, is_apart, is_declared, linked_export, linked_exports, linked_import, targets_beside}
use Rattle.implib_rules.specs.Repeats.{left_out, repeats_behind, without_repeated}
use Rattle.implib_libraries.specs.OfDll.Libraries.{are_different}

-- a word, what it asks for if that is another, a number and two flags
pub record Word : Type 0 where
  pub name : List ℕ
  pub target : List ℕ
  pub number : ℕ
  pub no_name : Bool
  pub is_data : Bool

-- the export that has them
abbrev pub of_word : Word → ExportView
of_word w = record empty_export { name = w.name; alias_target = w.target; ordinal = w.number; no_name = w.no_name; is_data = w.is_data }

-- ---- Bool

pub and_false : (b : Bool) → (b && false) ≡ false
and_false true = refl
and_false false = refl

pub or_false_left : (a b : Bool) → (a || b) ≡ false → a ≡ false
or_false_left true b is = absurd cc
or_false_left false b is = refl

pub or_false_right : (a b : Bool) → (a || b) ≡ false → b ≡ false
or_false_right true b is = absurd cc
or_false_right false b is = is

pub and_true_left : (a b : Bool) → (a && b) ≡ true → a ≡ true
and_true_left true b is = refl
and_true_left false b is = absurd cc

pub and_true_right : (a b : Bool) → (a && b) ≡ true → b ≡ true
and_true_right true b is = is
and_true_right false b is = absurd cc

pub not_true : (a : Bool) → not a ≡ true → a ≡ false
not_true true is = absurd cc
not_true false is = refl

both_false : (a b : Bool) → a ≡ false → b ≡ false → (a || b) ≡ false
both_false a b first second = ap (λ x. x || b) first ∙ second

-- ---- nothing is added

nothing_under : (machine : MachineType) (naming : NamingView) (w : Word) → underscored machine naming no_additions (of_word w) ≡ of_word w
nothing_under machine naming w = grind (arith, and_false)

nothing_unders : (machine : MachineType) (naming : NamingView) (ws : List Word) → map (underscored machine naming no_additions) (map of_word ws) ≡ map of_word ws
nothing_unders machine naming [] = refl
nothing_unders machine naming (w ∷ ws) = grind (arith, nothing_unders machine naming ws, nothing_under)

pub nothing_added : (machine : MachineType) (naming : NamingView) (ws : List Word) → extended_exports machine naming no_additions (map of_word ws) ≡ map of_word ws
nothing_added machine naming ws = append-nil (map (underscored machine naming no_additions) (map of_word ws)) ∙ nothing_unders machine naming ws

-- ---- nothing is left out

list_any-append : {X : Type 0} (p : X → Bool) (xs ys : List X) → list_any p (xs ++ ys) ≡ (list_any p xs || list_any p ys)
list_any-append p [] ys = refl
list_any-append p (x ∷ xs) ys = grind (arith, list_any-append p xs ys)

-- none of these words is declared before them
abbrev none_declared : List ExportView → List Word → Bool
none_declared before ws = list_any (λ w. is_declared before w.name) ws

declared_more : (before : List ExportView) (x : Word) (ws : List Word) → none_declared before ws ≡ false
    → list_any (λ other. bytes_eq other x.name) (map (λ w. w.name) ws) ≡ false → none_declared (before ++ of_word x ∷ []) ws ≡ false
declared_more before x [] none other = refl
declared_more before x (w ∷ ws) none other =
    let here : is_declared (before ++ of_word x ∷ []) w.name ≡ false = grind (arith, list_any-append, both_false, or_false_left) in
    both_false (is_declared (before ++ of_word x ∷ []) w.name) (none_declared (before ++ of_word x ∷ []) ws) here
    (declared_more before x ws (or_false_right (is_declared before w.name) (none_declared before ws) none)
    (or_false_right (bytes_eq w.name x.name) (list_any (λ o. bytes_eq o x.name) (map (λ v. v.name) ws)) other))

kept_behind : (before : List ExportView) (ws : List Word) → none_declared before ws ≡ false → are_different (map (λ w. w.name) ws) ≡ true
    → left_out (repeats_behind before (map of_word ws)) (map of_word ws) ≡ map of_word ws
kept_behind before [] none apart = refl
kept_behind before (w ∷ ws) none apart =
    let names = map (λ v. v.name) ws in
    let first : list_any (λ other. bytes_eq other w.name) names ≡ false = not_true _ (and_true_left (not (list_any (λ other. bytes_eq other w.name) names)) (are_different names) apart) in
    let later = kept_behind (before ++ of_word w ∷ []) ws
    (declared_more before w ws (or_false_right (is_declared before w.name) (none_declared before ws) none) first)
    (and_true_right (not (list_any (λ other. bytes_eq other w.name) names)) (are_different names) apart) in
    ap (λ b. record (of_word w) { private = b } ∷ left_out (repeats_behind (before ++ of_word w ∷ []) (map of_word ws)) (map of_word ws))
    (or_false_left (is_declared before w.name) (none_declared before ws) none)
    ∙ ap (λ xs. of_word w ∷ xs) later

none_before : (ws : List Word) → none_declared [] ws ≡ false
none_before [] = refl
none_before (w ∷ ws) = none_before ws

pub nothing_left_out : (ws : List Word) → are_different (map (λ w. w.name) ws) ≡ true → without_repeated (map of_word ws) ≡ map of_word ws
unfolding without_repeated
nothing_left_out ws apart = kept_behind [] ws (none_before ws) apart

-- ---- each is linked as an import

-- the export of a word as it is linked
abbrev pub link : MachineType → NamingView → Word → ExportView
link machine naming w = linked_import machine naming (of_word w)

-- whether Microsoft's linker can import a word as it is linked
abbrev pub serves : MachineType → NamingView → Word → Bool
serves machine naming w = not (is_apart machine naming (of_word w))

-- the first word, and the others
first_serves : (machine : MachineType) (naming : NamingView) (w : Word) (ws : List Word) → list_all (serves machine naming) (w ∷ ws) ≡ true
    → is_apart machine naming (of_word w) ≡ false
first_serves machine naming w ws all = not_true _ (and_true_left (serves machine naming w) (list_all (serves machine naming) ws) all)

others_serve : (machine : MachineType) (naming : NamingView) (w : Word) (ws : List Word) → list_all (serves machine naming) (w ∷ ws) ≡ true
    → list_all (serves machine naming) ws ≡ true
others_serve machine naming w ws all = and_true_right (serves machine naming w) (list_all (serves machine naming) ws) all

linked_each : (machine : MachineType) (naming : NamingView) (flavor : Flavor) (among : List ExportView) (ws : List Word)
    → list_all (serves machine naming) ws ≡ true → map (linked_export machine naming flavor among) (map of_word ws) ≡ map (link machine naming) ws
linked_each machine naming flavor among [] all = refl
linked_each machine naming Msvc among (w ∷ ws) all = grind (arith, linked_each machine naming Msvc among ws (others_serve machine naming w ws all), first_serves, others_serve)
linked_each machine naming Gnu among (w ∷ ws) all = grind (arith, linked_each machine naming Gnu among ws (others_serve machine naming w ws all), others_serve)

no_targets : (machine : MachineType) (naming : NamingView) (among : List ExportView) (symbols : List (List ℕ)) (ws : List Word)
    → list_all (serves machine naming) ws ≡ true → targets_beside machine naming among symbols (map of_word ws) ≡ []
no_targets machine naming among symbols [] all = refl
no_targets machine naming among symbols (w ∷ ws) all = grind (arith, no_targets machine naming among symbols ws (others_serve machine naming w ws all), first_serves, others_serve)

pub linked_words : (machine : MachineType) (naming : NamingView) (flavor : Flavor) (ws : List Word) → list_all (serves machine naming) ws ≡ true
    → linked_exports machine naming flavor (map of_word ws) ≡ map (link machine naming) ws
linked_words machine naming Gnu ws all = append-nil _ ∙ linked_each machine naming Gnu (map of_word ws) ws all
linked_words machine naming Msvc ws all = grind (arith, no_targets, append-nil, linked_each)
