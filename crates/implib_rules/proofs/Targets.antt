-- Which exports are aliases, of which symbols, and the targets that they add.
use Rattle.std.proofs.Common.{arith, ◌≡◌, ℕ, Bool, false, ◌||◌, List, [], ◌∷◌, ◌++◌, Option, None, Some, ap, bytes_eq, if◌then◌else◌, map, refl}
use Rattle.std.specs.Prelude.{is_some, slice_get, suc}
use Rattle.std.specs.List.{find, list_any}
use Rattle.std.specs.Option.{option_and_then, option_map}
use Rattle.std.proofs.lemmas.List.{map-append}
use Rattle.std.proofs.lemmas.Option.{slice_get-map}
use Rattle.indexmap.specs.IndexSet.{insert_key}
use Rattle.implib.specs.declared.flavor.Flavor.TheVariants.{Gnu, Msvc}
use Rattle.implib.specs.declared.machine.MachineType.{MachineType}
use Rattle.implib.specs.declared.def.definition.ShortExport.{ShortExport}
use Rattle.implib.specs.Definition.{ExportView, export_view}
use Rattle.implib_rules.specs.Firsts.{first_asking, first_where}
use Rattle.implib_rules.specs.Linked.{NamingView, asks_for, has_target, is_among, linked_export, linked_to, symbol_asking, symbol_linked, targets_beside, with_symbol}
use Rattle.implib_rules.specs.Views.{linked_by}
pub use Rattle.std.proofs.lemmas.Bool.{or_parts as neither}

-- a set of texts, as the symbols that it shows, by the test that finds one
module _ {X : Type 0} (text : X → List ℕ) (k : X) (eq : X → X → Bool) (says : (x : X) → eq k x ≡ bytes_eq (text k) (text x)) where
  pub among-text : (keys : List X) → list_any (eq k) keys ≡ is_among (map text keys) (text k)
  among-text [] = refl
  among-text (x ∷ keys) = grind (arith, among-text keys)

  pushed : (b : Bool) (keys : List X) → map text (if b then keys else keys ++ k ∷ []) ≡ (if b then map text keys else map text keys ++ text k ∷ [])
  pushed b keys = grind (arith, map-append)

  pub insert_key-text : (keys : List X) → map text (insert_key eq keys k) ≡ with_symbol (map text keys) (text k)
  insert_key-text keys = simp (pushed, among-text)

found_here : {A : Type 0} (is : Bool) (item : A) (items : List A) (found : Option A) (index : Option ℕ) → found ≡ option_and_then (slice_get items) index
    → (if is then Some item else found) ≡ option_and_then (slice_get (item ∷ items)) (if is then Some 0 else option_map suc index)
found_here is item items found index same = grind arith

-- the first item that passes is the one at the first index at which one does
pub find-first : {A : Type 0} (test : A → Bool) (items : List A) → find test items ≡ option_and_then (slice_get items) (first_where test items)
find-first test [] = refl
find-first test (item ∷ items) = found_here (test item) item items (find test items) (first_where test items) (find-first test items)

any_here : (is any : Bool) (found : Option ℕ) → is_some found ≡ any → is_some (if is then Some 0 else option_map suc found) ≡ (is || any)
any_here is any found same = grind arith

-- one item passes exactly where there is a first
pub some-first : {A : Type 0} (test : A → Bool) (items : List A) → is_some (first_where test items) ≡ list_any test items
some-first test [] = refl
some-first test (item ∷ items) = any_here (test item) (list_any test items) (first_where test items) (some-first test items)

module _ (machine : MachineType) (naming : NamingView) where
  -- the symbol that asks for a word, by the index of the first import that does
  pub symbol_at : (exports : List ExportView) (word : List ℕ) (o : Option ℕ) → o ≡ first_asking machine naming word exports
      → symbol_asking machine naming exports word ≡ option_map (symbol_linked machine naming) (option_and_then (slice_get exports) o)
  symbol_at exports word o is = cc (find-first (asks_for machine naming word) exports)

  -- the same where one of the exports is given for the index
  pub symbol_of_one : (items : List ShortExport) (word : List ℕ) (index : ℕ) (export : ShortExport) → Some index ≡ first_asking machine naming word (map export_view items)
      → slice_get items index ≡ Some export
      → Some (symbol_linked machine naming (export_view export)) ≡ symbol_asking machine naming (map export_view items) word
  symbol_of_one items word index export is there = cc (symbol_at (map export_view items) word (Some index) is, slice_get-map export_view items index)

  -- and where there is none
  pub symbol_of_none : (items : List ShortExport) (word : List ℕ) (index : ℕ) → Some index ≡ first_asking machine naming word (map export_view items)
      → slice_get items index ≡ None → None ≡ symbol_asking machine naming (map export_view items) word
  symbol_of_none items word index is there = cc (symbol_at (map export_view items) word (Some index) is, slice_get-map export_view items index)

  -- symbols for all exports that these are weak for, each by a test of its own
  pub linked_by-all : (symbol : ExportView → Option (List ℕ)) (exports : List ExportView)
      → linked_by machine naming (map symbol exports) exports ≡ map (λ e. linked_to machine naming (symbol e) e) exports
  linked_by-all symbol [] = refl
  linked_by-all symbol (e ∷ exports) = ap (λ l. linked_to machine naming (symbol e) e ∷ l) (linked_by-all symbol exports)

  -- without a symbol each export is an import
  pub linked_by-none : (all exports : List ExportView) → linked_by machine naming [] exports ≡ map (linked_export machine naming Gnu all) exports
  linked_by-none all [] = refl
  linked_by-none all (e ∷ exports) = ap (λ l. linked_to machine naming None e ∷ l) (linked_by-none all exports)

  -- without a word after `==` each export is an import
  pub linked_by-plain : (all exports : List ExportView) → list_any has_target exports ≡ false → linked_by machine naming [] exports ≡ map (linked_export machine naming Msvc all) exports
  linked_by-plain all [] none = refl
  linked_by-plain all (e ∷ exports) none = grind (arith, linked_by-plain all exports)

  -- and no target is added
  pub targets_beside-plain : (all : List ExportView) (symbols : List (List ℕ)) (exports : List ExportView) → list_any has_target exports ≡ false → targets_beside machine naming all symbols exports ≡ []
  targets_beside-plain all symbols [] none = refl
  targets_beside-plain all symbols (e ∷ exports) none = grind (arith, targets_beside-plain all symbols exports)
