-- Lemmas on the exports of names and of rows, one at a time.
use Rattle.std.proofs.Common.{◌≡◌, ℕ, ◌+◌, ◌<◌, List, [], ◌∷◌, ◌++◌, length, map, take, get_or, refl, ap, ◌∙◌, sym, append_assoc, append-nil, arith}
use Rattle.std.specs.List.{slice_get}
use Rattle.implib_dll.specs.Exports.{Exports, NameEntry, Target}
use Rattle.implib_dll.specs.Lookup.{target_at}
use Rattle.implib_libraries.specs.FromDll.Definition.{named_from, named_of}
use Rattle.std.specs.Option.{option_map}
use Rattle.std.proofs.lemmas.List.{length-map, length-take, map-append, take_more}
use Rattle.std.proofs.lemmas.Option.{slice_get-map, slice_get_read}
use Rattle.implib_dll.specs.declared.name.Name.{Name}
use Rattle.implib_dll.specs.declared.rows.Row.{Row as BorrowedRow}
use Rattle.implib_dll.specs.Views.{name_view, row_view}
use Rattle.implib_libraries.specs.FromDll.Unsaid.{IsUnsaidName, IsUnsaidNamed, IsUnsaidNumber, IsUnsaidRow, RefusesName, RefusesRow}
use Rattle.implib_libraries.specs.declared.from_dll.exports.Unsaid.{Unsaid}
use Rattle.implib_libraries.specs.declared.from_dll.exports.Unsaid.TheVariants.{NotUtf8, LargeHint, LargeOrdinal, OutOfMemory}

-- names and one more
pub named_from-append : (targets : List Target) (names : List NameEntry) (n : NameEntry) (position : ℕ)
    → named_from targets (names ++ n ∷ []) position ≡ named_from targets names position ++ named_of n.text (position + length names) (target_at targets n.index)
unfolding named_from
named_from-append targets [] n position = ap (λ p. named_of n.text p (target_at targets n.index) ++ []) (omega arith) ∙ append-nil _
named_from-append targets (m ∷ names) n position = grind (arith, named_from-append targets names n (position + 1), append_assoc)

-- want of memory refuses any
pub memory_refuses_name : (text : List ℕ) (position : ℕ) (unsaid : Unsaid) → unsaid ≡ OutOfMemory → IsUnsaidName text position unsaid
memory_refuses_name text position (NotUtf8 at) is = absurd cc
memory_refuses_name text position (LargeHint at) is = absurd cc
memory_refuses_name text position (LargeOrdinal at) is = absurd cc
memory_refuses_name text position OutOfMemory is = tt

pub memory_refuses_number : (ordinal : ℕ) (unsaid : Unsaid) → unsaid ≡ OutOfMemory → IsUnsaidNumber ordinal unsaid
memory_refuses_number ordinal (NotUtf8 at) is = absurd cc
memory_refuses_number ordinal (LargeHint at) is = absurd cc
memory_refuses_number ordinal (LargeOrdinal at) is = absurd cc
memory_refuses_number ordinal OutOfMemory is = tt

-- what stands past the end of names
abbrev pub no_name : Name
no_name = record { text = record { ref_ptr = (0, 0); now = [] }; index = 0 }

-- the exports of some of the names, and of one more
pub named_from-more : (targets : List Target) (names : List Name) (position : ℕ) (n : Name) → position < length names → n ≡ get_or names position n
    → named_from targets (map name_view (take (position + 1) names)) 0
    ≡ named_from targets (map name_view (take position names)) 0 ++ named_of n.text.now position (target_at targets n.index)
named_from-more targets names position n within is =
    let entry = name_view n in
    let more : take (position + 1) names ≡ take position names ++ n ∷ [] = take_more names position n within ∙ ap (λ x. take position names ++ x ∷ []) (sym is) in
    let count : 0 + length (map name_view (take position names)) ≡ position = length_taken position within in
    ap (λ ns. named_from targets (map name_view ns) 0) more
    ∙ (ap (λ ns. named_from targets ns 0) (map-append name_view (take position names) (n ∷ []))
    ∙ (named_from-append targets (map name_view (take position names)) entry 0
    ∙ ap (λ p. named_from targets (map name_view (take position names)) 0 ++ named_of n.text.now p (target_at targets n.index)) count))
  where
    length_taken : (p : ℕ) → p < length names → 0 + length (map name_view (take p names)) ≡ p
    length_taken p low = grind (arith, length-map, length-take, low)

-- a name of the table that has no place
pub refuses_name : (e : Exports) (names : List Name) (position : ℕ) (n : Name) (unsaid : Unsaid) → e.names ≡ map name_view names → position < length names → n ≡ get_or names position n
    → IsUnsaidNamed n.text.now position (target_at e.targets n.index) unsaid → RefusesName e unsaid
refuses_name e names position n unsaid are within is refused = record {
  position = position;
  name = name_view n;
  at = ap (λ ns. slice_get ns position) are ∙ (slice_get-map name_view names position ∙ ap (option_map name_view) (slice_get_read names (length names) position n refl within is));
  is = refused;
}

-- a row that has no place
pub refuses_row : (rows : List BorrowedRow) (index : ℕ) (r : BorrowedRow) (unsaid : Unsaid) → index < length rows → r ≡ get_or rows index r → IsUnsaidRow (row_view r) unsaid
    → RefusesRow (map row_view rows) unsaid
refuses_row rows index r unsaid within is refused = record {
  index = index;
  row = row_view r;
  at = slice_get-map row_view rows index ∙ ap (option_map row_view) (slice_get_read rows (length rows) index r refl within is);
  is = refused;
}
