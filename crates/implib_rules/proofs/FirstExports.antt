-- The first export of each word and of each ordinal.
use Rattle.std.proofs.lemmas.Bool.Decides.{nat_tests}
use Rattle.std.proofs.Common.{◌≡◌, ◌∙◌, ℕ, zero, suc, ◌+◌, ◌<◌, ◌==◌, Bool, true, false, not, ◌&&◌, List, [], ◌∷◌, ◌++◌, Option, None, Some, ◌||◌, arith, bytes_eq, get_or, if◌then◌else◌, is_some, length, map, nat_eq, refl, take}
use Rattle.std.specs.Option.{option_map, option_or}
use Rattle.std.proofs.lemmas.Bool.{true≢false}
use Rattle.std.proofs.lemmas.List.{length-map, length-take-le, map-append, take_more}
use Rattle.std.proofs.lemmas.Slice.Eq.{bytes_eq-Decides}
use Rattle.implib.specs.declared.def.definition.ShortExport.{ShortExport}
use Rattle.implib.specs.declared.machine.MachineType.{MachineType}
use Rattle.std.specs.List.{list_any}
use Rattle.implib.specs.Definition.{ExportView, export_view}
use Rattle.implib_rules.specs.Linked.{NamingView, asks_for, export_asked, is_named_import, word_of}
use Rattle.implib_rules.specs.Linked.{declares}
use Rattle.implib_rules.specs.Repeats.{repeats}
use Rattle.implib_rules.specs.Firsts.{first_asking, first_declared, first_of_ordinal, first_of_word, first_where}
use Rattle.implib_rules.specs.Warnings.{earlier, ordinal_notice, repeat_notice}

push_first : (is last : Bool) (found all : Option ℕ) (n : ℕ) → all ≡ option_or found (if last then Some n else None)
    → (if is then Some 0 else option_map suc all) ≡ option_or (if is then Some 0 else option_map suc found) (if last then Some (suc n) else None)
push_first is last found all n same = grind arith

-- one item more is the first where none before it passes
pub first_where-push : {A : Type 0} (test : A → Bool) (items : List A) (item : A)
    → first_where test (items ++ item ∷ []) ≡ option_or (first_where test items) (if test item then Some (length items) else None)
first_where-push test [] item = refl
first_where-push test (first ∷ items) item = cc (push_first (test first) (test item) (first_where test items) (first_where test (items ++ item ∷ [])) (length items) (first_where-push test items item))

-- one export more, by a test
pub where_more : (test : ExportView → Bool) (items : List ShortExport) (index : ℕ) (d : ShortExport) → index < length items
    → option_or (first_where test (map export_view (take index items))) (if test (export_view (get_or items index d)) then Some index else None)
    ≡ first_where test (map export_view (take (index + 1) items))
where_more test items index d within = grind (arith, take_more items index d within, map-append, first_where-push test (map export_view (take index items)), length-map, length-take-le index items)

-- one export more that is not private, by its word
pub declared_public : (word : List ℕ) (items : List ShortExport) (index : ℕ) (d : ShortExport) (at : List ℕ) → index < length items
    → (export_view (get_or items index d)).private ≡ false → at ≡ word_of (export_view (get_or items index d))
    → option_or (first_declared word (map export_view (take index items))) (if bytes_eq word at then Some index else None)
    ≡ first_declared word (map export_view (take (index + 1) items))
declared_public word items index d at within public is = cc (where_more (λ x. declares x word) items index d within)

none_more : (o : Option ℕ) → o ≡ option_or o None
none_more o = grind arith

-- a private one declares nothing
pub declared_private : (word : List ℕ) (items : List ShortExport) (index : ℕ) (d : ShortExport) → index < length items
    → (export_view (get_or items index d)).private ≡ true
    → first_declared word (map export_view (take index items)) ≡ first_declared word (map export_view (take (index + 1) items))
declared_private word items index d within private = none_more _ ∙ rw private at (where_more (λ x. declares x word) items index d within)

-- one import by name more, by what it asks for
pub asking_named : (machine : MachineType) (naming : NamingView) (word : List ℕ) (items : List ShortExport) (index : ℕ) (d : ShortExport) (at : List ℕ) → index < length items
    → is_named_import machine naming (export_view (get_or items index d)) ≡ true
    → at ≡ export_asked machine naming (export_view (get_or items index d))
    → option_or (first_asking machine naming word (map export_view (take index items))) (if bytes_eq word at then Some index else None)
    ≡ first_asking machine naming word (map export_view (take (index + 1) items))
asking_named machine naming word items index d at within named is = rw is (rw named at (where_more (asks_for machine naming word) items index d within))

-- another export asks for nothing by name
pub asking_other : (machine : MachineType) (naming : NamingView) (word : List ℕ) (items : List ShortExport) (index : ℕ) (d : ShortExport) → index < length items
    → is_named_import machine naming (export_view (get_or items index d)) ≡ false
    → first_asking machine naming word (map export_view (take index items)) ≡ first_asking machine naming word (map export_view (take (index + 1) items))
asking_other machine naming word items index d within other = none_more _ ∙ rw other at (where_more (asks_for machine naming word) items index d within)

-- one export more, by its word
pub word_more : (word : List ℕ) (items : List ShortExport) (index : ℕ) (d : ShortExport) (at : List ℕ) → index < length items
    → at ≡ word_of (export_view (get_or items index d))
    → option_or (first_of_word word (map export_view (take index items))) (if bytes_eq word at then Some index else None)
    ≡ first_of_word word (map export_view (take (index + 1) items))
word_more word items index d at within is = rw is (where_more (λ x. bytes_eq word (word_of x)) items index d within)

-- one export more, by its ordinal
pub ordinal_more : (ordinal : ℕ) (items : List ShortExport) (index : ℕ) (d : ShortExport) (at : ℕ) → index < length items
    → at ≡ (export_view (get_or items index d)).ordinal
    → option_or (first_of_ordinal ordinal (map export_view (take index items))) (if nat_eq ordinal at then Some index else None)
    ≡ first_of_ordinal ordinal (map export_view (take (index + 1) items))
ordinal_more ordinal items index d at within is = rw is (where_more (λ x. nat_eq ordinal x.ordinal) items index d within)

noted_by : (word other : List ℕ) (index : ℕ) (old new : Option ℕ) (same back : Bool) → bytes_eq word other ≡ same → bytes_eq other word ≡ back
    → (other ≡ word → old ≡ None) → new ≡ (if same then Some index else old) → new ≡ option_or old (if back then Some index else None)
noted_by word other index old new same back e f absent is = grind (arith, bytes_eq-Decides, true≢false)

-- what a word that was absent leaves at another word
pub noted : (word other : List ℕ) (index : ℕ) (old new : Option ℕ) → (other ≡ word → old ≡ None)
    → new ≡ (if bytes_eq word other then Some index else old) → new ≡ option_or old (if bytes_eq other word then Some index else None)
noted word other index old new absent is = noted_by word other index old new (bytes_eq word other) (bytes_eq other word) refl refl absent is

-- an option that is not there
pub none_of : {A : Type 0} (o : Option A) → is_some o ≡ false → o ≡ None
none_of o e = grind (arith, true≢false)

-- no index is before 0
none_before : (found : Option ℕ) → is_some (earlier found zero) ≡ false
none_before found = grind (arith, nat_tests)

where_first : (is : Bool) (found : Option ℕ) (index : ℕ) (before : Bool) → is_some (earlier found index) ≡ before
    → is_some (earlier (if is then Some 0 else option_map suc found) (suc index)) ≡ (is || before)
where_first is found index before same = grind (arith, nat_tests)

-- the first item that passes is before an index exactly where one of the items before the index passes
pub where_before : {A : Type 0} (test : A → Bool) (items : List A) (index : ℕ) → is_some (earlier (first_where test items) index) ≡ list_any test (take index items)
where_before test items zero = none_before (first_where test items)
where_before test [] (suc index) = refl
where_before test (first ∷ items) (suc index) =
    where_first (test first) (first_where test items) index (list_any test (take index items)) (where_before test items index)

pub is_some-map : {A B : Type 0} (f : A → B) (o : Option A) → is_some (option_map f o) ≡ is_some o
is_some-map f o = grind arith

if_given : {A : Type 0} (none : Bool) (o : Option A) (before : Bool) → is_some o ≡ before → is_some (if none then None else o) ≡ (not none && before)
if_given none o before same = grind arith

-- an export is said to repeat a word where it is left out
pub word_repeated : (e : ExportView) (exports : List ExportView) (index : ℕ)
    → is_some (repeat_notice e (first_declared (word_of e) exports) index) ≡ repeats (take index exports) e
word_repeated e exports index = grind (arith, is_some-map, where_before (λ x. declares x (word_of e)) exports index)

pub ordinal_repeated : (ordinal : ℕ) (exports : List ExportView) (index : ℕ)
    → is_some (ordinal_notice ordinal (first_of_ordinal ordinal exports) index)
    ≡ (not (ordinal == 0) && list_any (λ e. nat_eq ordinal e.ordinal) (take index exports))
ordinal_repeated ordinal exports index =
    if_given (ordinal == 0) _ _ (is_some-map _ (earlier (first_of_ordinal ordinal exports) index) ∙ where_before (λ e. nat_eq ordinal e.ordinal) exports index)
