-- A library beside itself, and beside its definition.
use Rattle.std.proofs.Common.{◌≡◌, ◌∙◌, Bool, true, false, ◌||◌, List, [], ◌∷◌, ap, refl, sym}
use Rattle.std.proofs.lemmas.Option.{same_Some}
use Rattle.implib_read.specs.Classes.{MemberRead, library_in}
use Rattle.implib_compare.specs.declared.compare.Verdict.TheVariants.{Same}
use Rattle.implib_compare.specs.Comparison.{Rearranged, differing, has_other, has_unread, is_some_set, verdict, verdict_of}
use Rattle.implib_compare.specs.Facts.{Fact, both_tell, facts_of}
use Rattle.implib_check_driver.specs.OwnLibraries.{MeantIsDefined, OwnLibrariesAreTheSame, SameSaysTheDefined}
use Rattle.implib_compare.proofs.Matching.{left_differs}
use Rattle.implib_rules.proofs.OneDefinition.{one_library}

-- facts are themselves in another order
same_facts : (facts : List Fact) → Rearranged facts facts
same_facts [] = refl
same_facts (fact ∷ facts) = ([], facts, refl, same_facts facts)

-- no member of a library differs from it
none_differs : (told : Bool) (members : List MemberRead) → is_some_set (differing told members members) ≡ false
none_differs told members = by (is_some_set (differing told members members)) refl
  where
    by : (b : Bool) → is_some_set (differing told members members) ≡ b → is_some_set (differing told members members) ≡ false
    by false is = is
    by true is = absurd (left_differs told members members is (same_facts (facts_of told members)))

-- a library that is read whole, and has no other object, is the same as itself
pub verdict_itself : (members : List MemberRead) → has_unread members ≡ false → has_other members ≡ false → verdict members members ≡ Same
verdict_itself members read alone =
    let told = both_tell members members in
    let none = none_differs told members in
    ap (λ u. verdict_of (u || u) (is_some_set (differing told members members) || is_some_set (differing told members members)) (has_other members || has_other members)) read
    ∙ ap (λ d. verdict_of false (d || d) (has_other members || has_other members)) none
    ∙ ap (λ o. verdict_of false false (o || o)) alone

-- the library of a definition is the same as the definition
pub own_libraries_are_the_same : MeantIsDefined → OwnLibrariesAreTheSame
own_libraries_are_the_same law definition options file members v off is there on =
    let says = (law definition options file members off is there).says in
    let same : on.meant ≡ members = same_Some _ _ (sym on.read ∙ ap library_in (one_library definition options on.file file on.is_library is) ∙ there) in
    on.is ∙ ap (verdict members) same ∙ verdict_itself members says.read says.alone

-- a library that is the same as a definition says what is defined
pub same_says_the_defined : MeantIsDefined → SameSaysTheDefined
same_says_the_defined law definition options members off on = record {
  meant = on.meant;
  defined = law definition options on.file on.meant off on.is_library on.read;
  same = on.means;
}
