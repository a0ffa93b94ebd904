-- Delayed exports that are kept as what their objects say.
use Rattle.std.proofs.Common.{◌≡◌, ℕ, zero, suc, ◌<◌, ◌≤◌, false, true, List, [], ◌∷◌, ◌++◌, length, drop, map, get_or, refl, ap, ◌∙◌, arith, length-append, codes}
use Rattle.std.specs.Prelude.{Bool, None, Option, min, string_bytes}
use Rattle.std.specs.List.{AllByRecursion}
use Rattle.std.specs.Str.{IsCharBoundary}
use Rattle.std.proofs.lemmas.Bool.{le-ltb, lt-ltb, or_parts}
use Rattle.std.proofs.lemmas.List.{map-append}
use Rattle.std.proofs.lemmas.Str.{IsCharBoundary-after_ascii, IsUtf8-string_bytes}
use Rattle.implib.specs.declared.machine.MachineType.{MachineType}
use Rattle.implib.specs.Definition.{ExportView}
use Rattle.implib.specs.Formats.Layout.{encoded_size}
use Rattle.implib.specs.Formats.Writer.{layout_of}
use Rattle.implib.specs.Import.{holds, imp_symbol, is_empty_text}
use Rattle.implib.specs.Members.Gnu.{hint_name, thunk}
use Rattle.implib.specs.Members.MemberSpec.{member_of}
use Rattle.implib.specs.Members.Members.{is_too_long}
use Rattle.implib.specs.Members.NameRules.{holds_nul}
use Rattle.implib.proofs.Formats.ObjectReading.{length-encoded}
use Rattle.implib.proofs.Formats.WriterLayout.{layout_of-fits}
use Rattle.implib.proofs.Text.Trivia.{AllByRecursion-append}
use Rattle.implib_delay.specs.declared.exports.KeptExport.{KeptExport}
use Rattle.implib_delay.specs.Kept.{HasAddress, IsKept, KeepsExport, kept_export, kept_name, kept_view}
use Rattle.implib_delay.specs.Members.{export_spec}
use Rattle.implib_delay.specs.Names.{export_name}
use Rattle.implib_delay.specs.Objects.{export_object}
use Rattle.implib_delay.proofs.Held.{IsSound-export_object}

-- the prefix of the symbol of an entry may be cut off
pub boundary : (k : KeptExport) → HasAddress k → IsCharBoundary (string_bytes k.address) 6
boundary k kept =
    let last : get_or (string_bytes k.address) 5 0 ≡ 95 = ap (λ text. get_or text 5 0) kept in
    let long = ap length kept ∙ length-append (codes "__imp_") (kept_name k) in
    IsCharBoundary-after_ascii (string_bytes k.address) 5 (IsUtf8-string_bytes k.address) (omega (arith, long)) (omega (arith, last))

-- What is kept of an export says all that its object does.

abbrev said : List ℕ → Option (List ℕ) → ℕ → Bool → ExportView
said name asked ordinal no_name = record {
  name = name;
  ext_name = None;
  symbol_name = [];
  asked_name = asked;
  alias_target = [];
  ordinal = ordinal;
  no_name = no_name;
  is_data = false;
  private = false;
  constant = false;
}

object_of_said : (machine : MachineType) (linked : List ℕ) (e : ExportView) →
    export_object machine linked (said e.name e.asked_name e.ordinal e.no_name) ≡ export_object machine linked e
unfolding export_object thunk hint_name
object_of_said machine linked e = refl

module _ (machine : MachineType) (linked : List ℕ) (number size : ℕ) (e : ExportView) (k : KeptExport) (keeps : KeepsExport (export_name linked number) (imp_symbol e.name) size e k) where
  name_kept : kept_name k ≡ e.name
  name_kept = ap (drop 6) keeps.address_is

  object_kept : export_object machine linked (kept_export k) ≡ export_object machine linked e
  object_kept = grind (arith, name_kept, object_of_said)

  pub member_kept : kept_view machine linked k ≡ member_of (export_spec machine linked number e)
  unfolding export_spec
  member_kept = grind (arith, name_kept, object_kept)

  pub is_kept : holds 0 e.name ≡ false → is_empty_text e.name ≡ false → size ≡ encoded_size (layout_of (export_object machine linked e)) → size ≤ 0xFFFF_FFFF → IsKept machine linked k
  is_kept free filled is short = grind (arith, name_kept, object_kept)

-- the size of an object, and whether it is too long
module _ (machine : MachineType) (linked : List ℕ) (number : ℕ) (e : ExportView) (size : ℕ)
    (is : size ≡ min 0xFFFF_FFFF_FFFF_FFFF (encoded_size (layout_of (export_object machine linked e)))) where
  pub refused_long : 0xFFFF_FFFF < size → is_too_long (export_spec machine linked number e) ≡ true
  unfolding export_spec
  refused_long long = lt-ltb 0xFFFF_FFFF _ (omega (arith, is, long))

  pub kept_short : size ≤ 0xFFFF_FFFF → is_too_long (export_spec machine linked number e) ≡ false
  unfolding export_spec
  kept_short short = le-ltb 0xFFFF_FFFF _ (omega (arith, is, short))

  pub exact : size ≤ 0xFFFF_FFFF → size ≡ encoded_size (layout_of (export_object machine linked e))
  exact short = omega (arith, is, short)

-- a name without NUL, of an export that holds none
pub name_free : (e : ExportView) → holds_nul e ≡ false → holds 0 e.name ≡ false
name_free e free = grind (arith, or_parts)

-- the size of an object that is kept is that of its bytes
pub length_kept : (machine : MachineType) (linked : List ℕ) (k : KeptExport) → holds 0 linked ≡ false → IsKept machine linked k
    → length ((kept_view machine linked k).bytes) ≡ k.size
length_kept machine linked k free kept = grind (arith, length-encoded, layout_of-fits, IsSound-export_object)

module _ (machine : MachineType) (linked : List ℕ) where
  -- one export more
  pub kept_more : (number : ℕ) (e : ExportView) (items more : List KeptExport) (k : KeptExport) → more ≡ items ++ k ∷ []
      → kept_view machine linked k ≡ member_of (export_spec machine linked number e)
      → map (kept_view machine linked) more ≡ map (kept_view machine linked) items ++ map member_of (export_spec machine linked number e ∷ [])
  kept_more number e items more k is shows = grind (arith, map-append)

  pub all_kept : (items more : List KeptExport) (k : KeptExport) → more ≡ items ++ k ∷ [] → AllByRecursion (IsKept machine linked) items → IsKept machine linked k
      → AllByRecursion (IsKept machine linked) more
  all_kept items more k is all kept = rw is (AllByRecursion-append (IsKept machine linked) items (k ∷ []) all (kept, tt))
