-- The imports that aliases lead to are not refused.
use Rattle.std.proofs.Common.{arith, ◌≡◌, ℕ, Bool, true, false, ◌||◌, List, ◌∷◌, Some, None, if◌then◌else◌, refl}
use Rattle.std.proofs.lemmas.Bool.{cases_Bool}
use Rattle.std.proofs.lemmas.Slice.Eq.{bytes_eq-Decides}
use Rattle.implib.specs.declared.flavor.Flavor.TheVariants.{Msvc}
use Rattle.implib.specs.declared.machine.MachineType.{MachineType}
use Rattle.implib.specs.Ascii.{at_sign, holds, question_mark}
use Rattle.implib.specs.Definition.{ExportView, empty_export}
use Rattle.implib.specs.Formats.ShortImport.{asked_by_name_type, without_prefix}
use Rattle.implib.specs.Import.{is_empty_text}
use Rattle.implib.specs.Machine.{has_leading_underscore}
use Rattle.implib.specs.Members.Msvc.{asked_by_short_import, is_cut_alike, name_type_asking}
use Rattle.implib.specs.Members.NameRules.{holds_nul, name_refusal}
use Rattle.implib_rules.specs.Linked.{target_import}

or_true : (b : Bool) → (b || true) ≡ true
or_true b = grind arith

-- the import of a word under the symbol of code or of data
abbrev import_of : Bool → List ℕ → Bool → Bool → ExportView
import_of code word is_data is_constant =
    record empty_export { name = (if code then question_mark else at_sign) ∷ word; asked_name = Some word; is_data = is_data; constant = is_constant }

-- a symbol that linkers cut alike asks for what is left
asks_for_rest : (machine : MachineType) (symbol word : List ℕ) → is_cut_alike machine symbol ≡ true → without_prefix symbol ≡ word
    → asked_by_name_type (name_type_asking machine symbol word) symbol ≡ word
asks_for_rest machine symbol word alike rest = grind (arith, cases_Bool, bytes_eq-Decides)

asks_for_word : (machine : MachineType) (code : Bool) (word : List ℕ) (is_data is_constant : Bool) → asked_by_short_import machine (import_of code word is_data is_constant) ≡ word
asks_for_word machine true word is_data is_constant = asks_for_rest machine (question_mark ∷ word) word (or_true (has_leading_underscore machine)) refl
asks_for_word machine false word is_data is_constant = asks_for_rest machine (at_sign ∷ word) word (or_true (has_leading_underscore machine)) refl

without_nul : (code : Bool) (word : List ℕ) (is_data is_constant : Bool) → holds 0 word ≡ false → holds_nul (import_of code word is_data is_constant) ≡ false
without_nul code word is_data is_constant free = grind arith

-- such an import is not refused where its word is not empty and has no NUL
pub target_accepted : (machine : MachineType) (index : ℕ) (e : ExportView) → is_empty_text e.alias_target ≡ false → holds 0 e.alias_target ≡ false
    → name_refusal Msvc machine index (target_import e) ≡ None
target_accepted machine index e filled free = grind (arith, without_nul, bytes_eq-Decides, asks_for_word)
