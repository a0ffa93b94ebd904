-- What definitions mean with third texts, and where an index leads, by computing.
use Rattle.std.proofs.Common.{◌≡◌, ◌∙◌, ℕ, Bool, List, [], ◌∷◌, Some, ap, bytes_eq, codes, refl, sym}
use Rattle.std.proofs.lemmas.Bool.{true≢false}
use Rattle.std.proofs.lemmas.Option.{none-some, same_Some}
use Rattle.implib.specs.Formats.Object.{before_nul, bytes_at, u16_at, u32_at}
use Rattle.implib.specs.Import.{Ask, Import, Name, Ordinal}
use Rattle.implib_read.specs.Archives.{Archive}
use Rattle.implib_read.specs.Indexes.{IndexEntry, entries_from, first_index_in}
use Rattle.implib_read.specs.ShortImports.{short_import_found}
use Rattle.implib_compare.specs.Working.{first_misleads, linker_member}
use Rattle.implib_check_driver.specs.OwnIndexes.{IndexesLead}
use Rattle.implib_check_driver.specs.WorkedExportAs.{WorkedExportAs, with_entry}

-- whether the second import asks for b
abbrev name_in : Ask → List ℕ
name_in (Name name hint) = name
name_in (Ordinal ordinal) = []

abbrev second_name : List Import → List ℕ
second_name [] = []
second_name (i ∷ []) = []
second_name (i ∷ j ∷ imports) = name_in j.ask

abbrev second_is_b : List Import → Bool
second_is_b imports = bytes_eq (second_name imports) (codes "b")

-- an index that leads, by computing what it misleads
leads_symbol : IndexesLead (with_entry (codes "a") 0x48)
unfolding before_nul bytes_at entries_from first_index_in short_import_found u16_at u32_at
leads_symbol = record { contents = _; first = refl; leads = refl; second_leads = λ others there. absurd (none-some others there) }

-- one entry that misleads is not none
one_misleads : (a : Archive) (contents : List ℕ) (e : IndexEntry) → linker_member 0 a.parts ≡ Some contents → first_misleads a.members contents ≡ Some (e ∷ []) → IndexesLead a → ⊥
one_misleads a contents e first wrong leads =
    let own : contents ≡ leads.contents = same_Some _ _ (sym first ∙ leads.first) in
    let none : Some (e ∷ []) ≡ Some [] = sym wrong ∙ ap (first_misleads a.members) own ∙ leads.leads in
    cc

text_is_no_symbol : IndexesLead (with_entry (codes "b") 0x48) → ⊥
unfolding before_nul bytes_at entries_from first_index_in short_import_found u16_at u32_at
text_is_no_symbol = one_misleads (with_entry (codes "b") 0x48) _ (record { symbol = codes "b"; place = 0x48 }) refl refl

pub worked_export_as : WorkedExportAs
worked_export_as = record {
  msvc = refl;
  aliases = refl;
  gnu = refl;
  says = record { imports = refl; aliases = refl; read = refl; alone = refl };
  other_order = λ says. absurd (true≢false (sym (ap second_is_b says.imports)));
  own_name = λ says. absurd (true≢false (sym (ap second_is_b says.imports)));
  not_read = λ says. absurd (true≢false says.read);
  leads = leads_symbol;
  text_is_no_symbol = text_is_no_symbol;
  no_index = λ leads. absurd (none-some leads.contents leads.first);
}
