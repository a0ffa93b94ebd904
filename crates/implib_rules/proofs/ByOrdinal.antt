-- Aliases of exports without names, one by one.
use Rattle.std.proofs.Common.{arith, ◌≡◌, ℕ, true, false, List, [], ◌∷◌, Option, None, Some, ap, bytes_eq, map, refl}
use Rattle.std.specs.Prelude.{slice_get}
use Rattle.std.specs.List.{list_any}
use Rattle.std.specs.Option.{option_and_then}
use Rattle.std.proofs.lemmas.Option.{slice_get-map}
use Rattle.implib.specs.declared.def.definition.ShortExport.{ShortExport}
use Rattle.implib.specs.Definition.{ExportView, export_view}
use Rattle.implib_rules.specs.Firsts.{first_of_word}
use Rattle.implib_rules.specs.Linked.{has_target, word_of}
use Rattle.implib_rules.specs.Nameless.{asking, asking_by, nameless, ordinal_asked}
use Rattle.implib_rules.proofs.Targets.{find-first}

-- ordinals for all exports, each by a rule of its own
pub asking_by-all : (ordinal : ExportView → Option ℕ) (exports : List ExportView) → asking_by (map ordinal exports) exports ≡ map (λ e. asking (ordinal e) e) exports
asking_by-all ordinal [] = refl
asking_by-all ordinal (e ∷ exports) = ap (λ l. asking (ordinal e) e ∷ l) (asking_by-all ordinal exports)

-- the ordinal by the index of the first export of the word
pub ordinal_at : (exports : List ExportView) (e : ExportView) (o : Option ℕ) → has_target e ≡ true → e.no_name ≡ false → o ≡ first_of_word e.alias_target exports
    → ordinal_asked exports e ≡ option_and_then nameless (option_and_then (slice_get exports) o)
ordinal_at exports e o filled named is = cc (find-first (λ x. bytes_eq e.alias_target (word_of x)) exports)

-- where one of the exports is there, and where none is
pub ordinal_of_one : (items : List ShortExport) (e : ExportView) (index : ℕ) (export : ShortExport) → has_target e ≡ true → e.no_name ≡ false
    → Some index ≡ first_of_word e.alias_target (map export_view items) → slice_get items index ≡ Some export
    → nameless (export_view export) ≡ ordinal_asked (map export_view items) e
ordinal_of_one items e index export filled named is there = cc (ordinal_at (map export_view items) e (Some index) filled named is, slice_get-map export_view items index)

pub ordinal_of_none : (items : List ShortExport) (e : ExportView) (index : ℕ) → has_target e ≡ true → e.no_name ≡ false
    → Some index ≡ first_of_word e.alias_target (map export_view items) → slice_get items index ≡ None → None ≡ ordinal_asked (map export_view items) e
ordinal_of_none items e index filled named is there = cc (ordinal_at (map export_view items) e (Some index) filled named is, slice_get-map export_view items index)

-- without such a word all exports stay
pub asking-plain : (all exports : List ExportView) → list_any has_target exports ≡ false → map (λ e. asking (ordinal_asked all e) e) exports ≡ exports
asking-plain all [] none = refl
asking-plain all (e ∷ exports) none = grind (arith, asking-plain all exports)
