-- Exports for GNU's linker that are kept as what their objects say.
use Rattle.std.proofs.Common.{◌≡◌, ℕ, ◌+◌, ◌*◌, ◌-◌, ◌<◌, ◌≤◌, ◌||◌, true, false, Bool, List, [], ◌∷◌, ◌++◌, length, drop, map, refl, ap, ◌∙◌, arith, length-append, if◌then◌else◌, codes, bytes_eq, inl, inr, sum_by}
use Rattle.std.specs.Prelude.{IfSome, None, Option, Some, get_or, min, string_bytes}
use Rattle.std.specs.List.{AllByRecursion, list_any, slice_get}
use Rattle.std.specs.Str.{IsCharBoundary}
use Rattle.std.proofs.lemmas.Bool.{cases_Bool, le-ltb, lt-ltb, or_parts}
use Rattle.std.proofs.lemmas.List.{map-append}
use Rattle.std.proofs.lemmas.Option.{slice_get-map}
use Rattle.std.proofs.lemmas.List.Folds.{list_any-append}
use Rattle.std.proofs.lemmas.List.Sums.{sum_by-append}
use Rattle.std.proofs.lemmas.Slice.Eq.{bytes_eq-Decides}
use Rattle.std.proofs.lemmas.Str.{IsCharBoundary-after_ascii, IsUtf8-string_bytes}
use Rattle.implib.specs.declared.gnu.export_objects.KeptObject.{KeptObject}
use Rattle.implib.specs.declared.machine.MachineType.{MachineType}
use Rattle.implib.specs.declared.machine.MachineType.TheVariants.{I386, ARMNT, AMD64, ARM64}
use Rattle.implib.specs.Definition.{ExportView}
use Rattle.implib.specs.Formats.Bytes.{u16_bytes}
use Rattle.implib.specs.Formats.Layout.{auxiliary_count, contents_offset, contents_size, encoded_size, record_count, records, string_size, strings_size, symbol_table_offset}
use Rattle.implib.specs.Formats.Writer.{WriterState, layout_of, long_names, symbol_written, with_long_name, with_name}
use Rattle.implib.specs.Import.{holds, imp_symbol, is_empty_text, name_asked}
use Rattle.implib.specs.Members.Gnu.{export_object, export_sections, export_symbols, head_symbol, hint_name, relocations_of_stub, relocations_of_thunk, stub, stub_bytes, stub_relocations, thunk}
use Rattle.implib.specs.Members.ImportTables.{relocation, thunk_width, zeros}
use Rattle.implib.specs.Views.KeptObjects.{HasAddress, IsKept, KeepsExport, kept_export, kept_name, kept_view, long_name_size, stub_size}
use Rattle.implib.specs.Members.GnuMembers.{export_spec}
use Rattle.implib.specs.Members.MemberSpec.{MemberView, file_size, member_of}
use Rattle.implib.specs.Members.Members.{is_too_long}
use Rattle.implib.specs.Members.NameRules.{holds_nul}
use Rattle.implib.proofs.Formats.ObjectReading.{length-encoded}
use Rattle.implib.proofs.Link.LinkedMembers.{all_at}
use Rattle.implib.proofs.Members.GnuObjects.{Fits-export_object}
use Rattle.implib.proofs.Text.Trivia.{AllByRecursion-append}

-- the prefix of the symbol of an address may be cut off
pub boundary : (k : KeptObject) → HasAddress k → IsCharBoundary (string_bytes k.address) 6
boundary k kept =
    let last : get_or (string_bytes k.address) 5 0 ≡ 95 = ap (λ text. get_or text 5 0) kept in
    let long = ap length kept ∙ length-append (codes "__imp_") (kept_name k) in
    IsCharBoundary-after_ascii (string_bytes k.address) 5 (IsUtf8-string_bytes k.address) (omega (arith, long)) (omega (arith, last))

-- The sizes of the sections of an export.

stub_long : (machine : MachineType) (is_data : Bool) →
    length (if is_data then [] else stub_bytes machine) + 10 * length (if is_data then [] else stub_relocations machine 2) ≡ (if is_data then 0 else stub_size machine)
stub_long machine true = refl
stub_long machine false = refl

entry_long : (machine : MachineType) (no_name : Bool) (ordinal index : ℕ) →
    length (if no_name then u16_bytes ordinal ++ (zeros (thunk_width machine - 3) ++ 0x80 ∷ []) else zeros (thunk_width machine)) + 10 * length (if no_name then [] else relocation machine 0 index ∷ [])
    ≡ thunk_width machine + (if no_name then 0 else 10)
unfolding u16_bytes
entry_long I386 true ordinal index = refl
entry_long ARMNT true ordinal index = refl
entry_long AMD64 true ordinal index = refl
entry_long ARM64 true ordinal index = refl
entry_long I386 false ordinal index = refl
entry_long ARMNT false ordinal index = refl
entry_long AMD64 false ordinal index = refl
entry_long ARM64 false ordinal index = refl

hint_name_long : (no_name : Bool) (ordinal : ℕ) (asked : List ℕ) →
    length (if no_name then [] else u16_bytes ordinal ++ (asked ++ 0 ∷ [])) ≡ (if no_name then 0 else length asked + 3)
unfolding u16_bytes
hint_name_long true ordinal asked = refl
hint_name_long false ordinal asked = omega (arith, length-append asked (0 ∷ []))

-- what the sections of an export hold
pub contents_long : (machine : MachineType) (e : ExportView) →
    sum_by contents_size (export_sections machine e)
    ≡ (if e.is_data then 0 else stub_size machine) + 14 + 2 * thunk_width machine + (if e.no_name then 0 else 20 + 3 + length (name_asked machine e))
unfolding contents_size stub relocations_of_stub thunk relocations_of_thunk hint_name
contents_long machine e = grind (arith, stub_long, entry_long, hint_name_long)

-- The names in the string table.

-- one name more
with_long_name-long : (names : List (List ℕ)) (name : List ℕ) →
    sum_by string_size (with_long_name names name) ≡ sum_by string_size names + (if list_any (bytes_eq name) names then 0 else long_name_size name)
unfolding with_long_name with_name
with_long_name-long names name = grind (arith, sum_by-append)

-- another name is not among them
with_long_name-absent : (names : List (List ℕ)) (other name : List ℕ) → list_any (bytes_eq other) names ≡ false → bytes_eq other name ≡ false →
    list_any (bytes_eq other) (with_long_name names name) ≡ false
unfolding with_long_name with_name
with_long_name-absent names other name absent differs = grind (arith, list_any-append)

-- a name counts after another one unless it is the same
counted_after : (head name : List ℕ) → (if list_any (bytes_eq name) (with_long_name [] head) then 0 else long_name_size name) ≡ (if bytes_eq name head then 0 else long_name_size name)
unfolding with_long_name with_name
counted_after head name = grind (arith, cases_Bool, bytes_eq-Decides)

-- the symbol of an address is neither the head's nor the export's
address_of_none : (machine : MachineType) (linked name : List ℕ) → bytes_eq (imp_symbol name) (head_symbol machine linked) ≡ false
unfolding head_symbol
address_of_none I386 linked name = refl
address_of_none ARMNT linked name = refl
address_of_none AMD64 linked name = refl
address_of_none ARM64 linked name = refl

address_is_longer : (name : List ℕ) → bytes_eq (imp_symbol name) name ≡ false
address_is_longer name = elim (cases_Bool (bytes_eq (imp_symbol name) name)) [
  | inl same ↦
      let long = length-append (codes "__imp_") name in
      let is = ap length ((bytes_eq-Decides (imp_symbol name) name).0 same) in
      absurd (omega (arith, long, is))
  | inr differs ↦ differs
]

-- a name that its record has
of_record : (names : List (List ℕ)) → with_long_name names (codes ".idata$6") ≡ names
unfolding with_long_name
of_record names = refl

pub names_long : (machine : MachineType) (linked : List ℕ) (e : ExportView) →
    sum_by string_size (long_names (export_symbols (head_symbol machine linked) e))
    ≡ long_name_size (head_symbol machine linked) + (if e.is_data || bytes_eq e.name (head_symbol machine linked) then 0 else long_name_size e.name) + long_name_size (imp_symbol e.name)
unfolding long_names
names_long machine linked e = by_kind e.is_data
  where
    by_kind : (is_data : Bool) →
        sum_by string_size (long_names (export_symbols (head_symbol machine linked) (record e { is_data = is_data })))
        ≡ long_name_size (head_symbol machine linked) + (if is_data || bytes_eq e.name (head_symbol machine linked) then 0 else long_name_size e.name) + long_name_size (imp_symbol e.name)
    by_kind true =
        let head = head_symbol machine linked in
        let address = imp_symbol e.name in
        let first = with_long_name-long [] head in
        let absent = with_long_name-absent [] address head refl (address_of_none machine linked e.name) in
        let second = with_long_name-long (with_long_name [] head) address in
        let whole : sum_by string_size (with_long_name (with_long_name [] head) address) ≡ long_name_size head + 0 + long_name_size address = grind arith in
        ap (sum_by string_size) (of_record (with_long_name (with_long_name [] head) address)) ∙ whole
    by_kind false =
        let head = head_symbol machine linked in
        let address = imp_symbol e.name in
        let first = with_long_name-long [] head in
        let second = with_long_name-long (with_long_name [] head) e.name in
        let absent = with_long_name-absent (with_long_name [] head) address e.name (with_long_name-absent [] address head refl (address_of_none machine linked e.name)) (address_is_longer e.name) in
        let third = with_long_name-long (with_long_name (with_long_name [] head) e.name) address in
        let counted = counted_after head e.name in
        let whole : sum_by string_size (with_long_name (with_long_name (with_long_name [] head) e.name) address) ≡ long_name_size head + (if bytes_eq e.name head then 0 else long_name_size e.name) + long_name_size address = grind arith in
        ap (sum_by string_size) (of_record (with_long_name (with_long_name (with_long_name [] head) e.name) address)) ∙ whole

-- The size of an object.

pub object_long : (machine : MachineType) (linked : List ℕ) (e : ExportView) →
    encoded_size (layout_of (export_object machine linked e))
    ≡ 304 + 18 * (if e.is_data then 3 else 4) + sum_by contents_size (export_sections machine e) + sum_by string_size (long_names (export_symbols (head_symbol machine linked) e))
unfolding encoded_size symbol_table_offset contents_offset records strings_size layout_of export_object record_count auxiliary_count symbol_written
object_long machine linked e = grind arith

-- sums that stop at a greatest number
pub saturated : (greatest a b c : ℕ) → min (min (a + b) greatest + c) greatest ≡ min greatest (a + b + c)
saturated greatest a b c = omega arith

pub sizes_saturated : (records contents names : ℕ) {first whole some : ℕ}
    → whole ≡ min (first + some) 0xFFFF_FFFF_FFFF_FFFF → first ≡ min (304 + records * 18 + contents) 0xFFFF_FFFF_FFFF_FFFF → some ≡ min 0xFFFF_FFFF_FFFF_FFFF names
    → whole ≡ min 0xFFFF_FFFF_FFFF_FFFF (304 + 18 * records + contents + names)
sizes_saturated records contents names a b c = omega (arith, a, b, c)

-- What is kept of an export says all that its object does.

abbrev said : List ℕ → Option (List ℕ) → ℕ → Bool → Bool → ExportView
said name asked ordinal no_name is_data = record {
  name = name;
  ext_name = None;
  symbol_name = [];
  asked_name = asked;
  alias_target = [];
  ordinal = ordinal;
  no_name = no_name;
  is_data = is_data;
  private = false;
  constant = false;
}

object_of_said : (machine : MachineType) (linked : List ℕ) (e : ExportView) →
    export_object machine linked (said e.name e.asked_name e.ordinal e.no_name e.is_data) ≡ export_object machine linked e
unfolding export_object stub relocations_of_stub thunk relocations_of_thunk hint_name
object_of_said machine linked e = refl

module _ (machine : MachineType) (linked : List ℕ) (number : ℕ) (e : ExportView) (k : KeptObject) (keeps : KeepsExport linked number e k) where
  pub name_kept : kept_name k ≡ e.name
  name_kept = ap (drop 6) keeps.address

  pub object_kept : export_object machine linked (kept_export k) ≡ export_object machine linked e
  object_kept = grind (arith, name_kept, object_of_said)

  pub member_kept : kept_view machine linked k ≡ member_of (export_spec machine linked number e)
  unfolding export_spec
  member_kept = grind (arith, name_kept, object_kept)

  pub long_kept : encoded_size (layout_of (export_object machine linked (kept_export k))) ≡ file_size ((export_spec machine linked number e).contents)
  unfolding export_spec
  long_kept = ap (λ (h : WriterState). encoded_size (layout_of h)) object_kept

  -- the object is too long where its size is
  pub refused_long : (size : ℕ) → size ≡ min 0xFFFF_FFFF_FFFF_FFFF (encoded_size (layout_of (export_object machine linked (kept_export k)))) → 0xFFFF_FFFF < size
      → is_too_long (export_spec machine linked number e) ≡ true
  refused_long size is long = grind (arith, long_kept, lt-ltb)

  pub kept_short : (size : ℕ) → size ≡ min 0xFFFF_FFFF_FFFF_FFFF (encoded_size (layout_of (export_object machine linked (kept_export k)))) → size ≤ 0xFFFF_FFFF
      → is_too_long (export_spec machine linked number e) ≡ false
  kept_short size is short = grind (arith, long_kept, le-ltb)

  pub is_kept : (size : ℕ) → size ≡ min 0xFFFF_FFFF_FFFF_FFFF (encoded_size (layout_of (export_object machine linked (kept_export k)))) → size ≤ 0xFFFF_FFFF
      → holds 0 e.name ≡ false → is_empty_text e.name ≡ false → IsKept machine linked k
  is_kept size is short free filled = grind (arith, name_kept)

-- a name without NUL, of an export that holds none
pub name_free : (e : ExportView) → holds_nul e ≡ false → holds 0 e.name ≡ false
name_free e free = grind (arith, or_parts)

-- the size of an object that is kept is that of its bytes
pub length_kept : (machine : MachineType) (linked : List ℕ) (k : KeptObject) → holds 0 linked ≡ false → IsKept machine linked k
    → length ((kept_view machine linked k).bytes) ≡ encoded_size (layout_of (export_object machine linked (kept_export k)))
length_kept machine linked k free kept = grind (arith, length-encoded, Fits-export_object)

module _ (machine : MachineType) (linked : List ℕ) where
  pub size_at : (items : List KeptObject) (index : ℕ) (k : KeptObject) (size : ℕ) → holds 0 linked ≡ false → AllByRecursion (IsKept machine linked) items
      → slice_get items index ≡ Some k → size ≡ min 0xFFFF_FFFF_FFFF_FFFF (encoded_size (layout_of (export_object machine linked (kept_export k))))
      → IfSome (slice_get (map (kept_view machine linked) items) index) (λ m. size ≡ length m.bytes)
  size_at items index k size free all found is = grind (arith, all_at, length_kept, slice_get-map)

  pub at_none : (items : List KeptObject) (index : ℕ) (P : MemberView → Type 0)
      → slice_get items index ≡ None → IfSome (slice_get (map (kept_view machine linked) items) index) P
  at_none items index P found = rw (slice_get-map (kept_view machine linked) items index, found) tt

  -- one object more
  pub kept_more : (number : ℕ) (e : ExportView) (items more : List KeptObject) (k : KeptObject) → more ≡ items ++ k ∷ []
      → kept_view machine linked k ≡ member_of (export_spec machine linked number e)
      → map (kept_view machine linked) more ≡ map (kept_view machine linked) items ++ map member_of (export_spec machine linked number e ∷ [])
  kept_more number e items more k is shows = grind (arith, map-append)

  pub all_kept : (items more : List KeptObject) (k : KeptObject) → more ≡ items ++ k ∷ [] → AllByRecursion (IsKept machine linked) items → IsKept machine linked k
      → AllByRecursion (IsKept machine linked) more
  all_kept items more k is all kept = rw is (AllByRecursion-append (IsKept machine linked) items (k ∷ []) all (kept, tt))
