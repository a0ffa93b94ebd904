-- Which exports of a DLL no definition can have.
use Rattle.std.specs.Prelude.{◌≡◌, ◌⊎◌, ℕ, ◌<◌, List, Option, None, Some, slice_get}
use Rattle.std.specs.Str.{IsUtf8}
use Rattle.implib_dll.specs.Exports.{Exports, NameEntry, Target}
use Rattle.implib_dll.specs.Lookup.{target_at}
use Rattle.implib_dll.specs.Rows.{Row, rows_of}
use Rattle.implib_libraries.specs.declared.from_dll.exports.Unsaid.{Unsaid}
use Rattle.implib_libraries.specs.FromDll.Definition.{target_unnamed}
use Rattle.implib_libraries.specs.declared.from_dll.exports.Unsaid.TheVariants.{NotUtf8, LargeHint}
use Rattle.implib_libraries.specs.declared.from_dll.exports.Unsaid.TheVariants.{LargeOrdinal}
use Rattle.implib_libraries.specs.declared.from_dll.exports.Unsaid.TheVariants.{OutOfMemory}

-- why a name at a position has no place in a definition: it is not UTF-8, or its position is past
-- those of 16 bits; or memory was refused
abbrev pub IsUnsaidName : List ℕ → ℕ → Unsaid → Type 0
IsUnsaidName text position (NotUtf8 at) = (at ≡ position) × (¬ (IsUtf8 text))
IsUnsaidName text position (LargeHint at) = (at ≡ position) × (0xFFFF < position)
IsUnsaidName text position (LargeOrdinal at) = ⊥
IsUnsaidName text position OutOfMemory = Unit {0}

-- why an ordinal without a name has none: it has more than 16 bits; or memory was refused
abbrev pub IsUnsaidNumber : ℕ → Unsaid → Type 0
IsUnsaidNumber ordinal (NotUtf8 at) = ⊥
IsUnsaidNumber ordinal (LargeHint at) = ⊥
IsUnsaidNumber ordinal (LargeOrdinal number) = (number ≡ ordinal) × (0xFFFF < ordinal)
IsUnsaidNumber ordinal OutOfMemory = Unit {0}

-- why a name has no place in a definition though it leads to a target
abbrev pub IsUnsaidNamed : List ℕ → ℕ → Option Target → Unsaid → Type 0
IsUnsaidNamed text position None unsaid = ⊥
IsUnsaidNamed text position (Some target) unsaid = IsUnsaidName text position unsaid

-- one of the names of the table is so
pub record RefusesName (e : Exports) (unsaid : Unsaid) : Type 0 where
  pub position : ℕ
  pub name : NameEntry
  pub at : slice_get e.names position ≡ Some name
  pub is : IsUnsaidNamed name.text position (target_at e.targets name.index) unsaid

-- why a target without a name has no place
abbrev pub IsUnsaidUnnamed : ℕ → Option Target → Unsaid → Type 0
IsUnsaidUnnamed ordinal None unsaid = ⊥
IsUnsaidUnnamed ordinal (Some target) unsaid = IsUnsaidNumber ordinal unsaid

abbrev pub IsUnsaidRow : Row → Unsaid → Type 0
IsUnsaidRow row unsaid = IsUnsaidUnnamed row.ordinal (target_unnamed row) unsaid

-- one of these rows is so
pub record RefusesRow (rows : List Row) (unsaid : Unsaid) : Type 0 where
  pub index : ℕ
  pub row : Row
  pub at : slice_get rows index ≡ Some row
  pub is : IsUnsaidRow row unsaid

-- why a DLL has an export that no definition can have
abbrev pub IsUnsaid : Exports → Unsaid → Type 0
IsUnsaid e unsaid = RefusesName e unsaid ⊎ (RefusesRow (rows_of e) unsaid ⊎ (unsaid ≡ OutOfMemory))
