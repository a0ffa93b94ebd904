-- What no search takes, by computing.
use Rattle.std.proofs.Common.{List, None, Some, [], ap, arith, codes, inl, inr, length, refl, subst, sym, ℕ, ◌∙◌, ◌∷◌, ◌≡◌, ◌⊎◌}
use Rattle.std.specs.Prelude.{slice_index}
use Rattle.std.specs.List.{Contains}
use Rattle.std.proofs.lemmas.Bool.{true≢false}
use Rattle.implib.specs.Definition.{ExportView}
use Rattle.implib.specs.Import.{imp_symbol}
use Rattle.implib.specs.Members.MemberSpec.{MemberView}
use Rattle.implib.specs.Members.Msvc.{short_import_symbol}
use Rattle.implib_link.specs.Search.Libraries.{is_short_alias, IsWeakOfLibraries}
use Rattle.implib_link.specs.Search.Search.{Library, exports_of, AreTakenIntoAs}
use Rattle.implib_link.proofs.Search.Lists.{contains_among}
use Rattle.implib_link_instances.proofs.Worked.Calls.{one_of}
use Rattle.implib_link_instances.proofs.Worked.Lemmas.{differ, none_in}
use Rattle.implib_link_instances.proofs.Worked.Search.{searched}
use Rattle.implib_link_instances.specs.Refused.Links.{f_library, listing, RefusedIsWeakData, RefusedIsWeakShort, RefusedPullsIntoAs, RefusedSearches, RefusedTakesIntoAs, RefusedTakesOfLibraries, exportless, f_export}

pub refused_pulls_into : RefusedPullsIntoAs
unfolding searched
refused_pulls_into = record {
  named = λ x. none_in (codes "f") x.named;
  listed = λ x. let none : None ≡ Some listing = x.listed in cc;
  new = λ x. x.new (0, omega arith, refl);
}

pub refused_takes_into : RefusedTakesIntoAs
unfolding searched AreTakenIntoAs
refused_takes_into = record {
  in_turn = λ x. none_in x.in_turn.0.0 x.in_turn.0.1.named;
  ended = λ x. x.ended (codes "f") listing (record { named = (0, omega arith, refl); listed = refl; new = λ held. none_in listing held });
}

not_weak : (names : List (List ℕ)) (m : MemberView) → IsWeakOfLibraries [] names m → ⊥
not_weak names m (inl x) = none_in x.library x.held
not_weak names m (inr x) = none_in x.library x.held

pub refused_takes_of_libraries : RefusedTakesOfLibraries
unfolding searched
refused_takes_of_libraries = record {
  inputs = λ x. none_in listing ((x.inputs listing).0 (0, omega arith, refl));
  weak = λ x. not_weak _ _ x.weak.0;
}

-- the only library's only export
export_is : (l : Library) (e : ExportView) → Contains (f_library ∷ []) l → Contains (exports_of l) e → e ≡ f_export
export_is l e held among = one_of e f_export (contains_among e (f_export ∷ []) (subst (λ (k : Library). Contains (exports_of k) e) (one_of l f_library (contains_among l (f_library ∷ []) held)) among))

no_export : (l : Library) (e : ExportView) → Contains (exportless ∷ []) l → Contains (exports_of l) e → ⊥
no_export l e held among = none_in e (subst (λ (k : Library). Contains (exports_of k) e) (one_of l exportless (contains_among l (exportless ∷ []) held)) among)

abbrev first_letter : List ℕ → ℕ
first_letter text = slice_index text 0

pub refused_is_weak_data : RefusedIsWeakData
unfolding searched
refused_is_weak_data = record {
  held = λ x. none_in x.library x.held;
  among = λ x. no_export x.library x.export x.held x.among;
  data_alone = λ x. true≢false (sym x.data_alone ∙ ap (λ (e : ExportView). e.is_data) (export_is x.library x.export x.held x.among));
  named = λ x. none_in x.export.name x.named;
  listed = λ x. differ 0 1 (ap length x.listed) (omega arith);
}

other_name : (name : List ℕ) → name ≡ codes "g" → (name ≡ codes "f") ⊎ (name ≡ codes "__imp_f") → ⊥
other_name name is (inl by) = differ 102 103 (sym (ap first_letter (sym is ∙ by))) (omega arith)
other_name name is (inr by) = differ 95 103 (sym (ap first_letter (sym is ∙ by))) (omega arith)

pub refused_is_weak_short : RefusedIsWeakShort
unfolding searched
refused_is_weak_short = record {
  held = λ x. none_in x.library x.held;
  among = λ x. no_export x.library x.export x.held x.among;
  alias = λ x. true≢false (sym x.alias ∙ ap (λ (e : ExportView). is_short_alias e) (export_is x.library x.export x.held x.among));
  is = λ x. other_name x.name (one_of x.name (codes "g") (contains_among x.name (codes "g" ∷ []) x.named))
      (subst (λ (e : ExportView). (x.name ≡ short_import_symbol e) ⊎ (x.name ≡ imp_symbol (short_import_symbol e))) (export_is x.library x.export x.held x.among) x.is);
  named = λ x. none_in x.name x.named;
  listed = λ x. differ 0 1 (ap length x.listed) (omega arith);
}

pub refused_searches : RefusedSearches
unfolding searched AreTakenIntoAs
refused_searches = record {
  have_same = λ x. none_in (codes "f") ((x (codes "f")).0 (0, omega arith, refl));
  are_taken_into_as = λ x. none_in x.0.0 x.0.1.named;
  is_used_in = λ x. none_in x.0 x.2;
  is_weak_among = λ x. none_in x.0 x.2;
  is_weak_of_both = λ x. not_weak [] listing x;
  is_weak_taken = λ x. none_in x.0 x.1;
}
