-- How a loader looks an export up. The PE/COFF specification has a binary search in the name
-- pointer table ("Export Name Pointer Table") and the hint of an import as the index at which it
-- begins ("Hint/Name Table"); the order of steps is that of the loaders of Windows and of Wine
-- (`dlls/ntdll/loader.c`: find_named_export, find_ordinal_export).
use Rattle.std.specs.Prelude.{ℕ, zero, suc, ◌+◌, ◌-◌, ◌/◌, ◌%◌, ◌^◌, Bool, true, ◌&&◌, List, []}
use Rattle.std.specs.Prelude.{◌∷◌, length, nat_lt, slice_get, Option, None, Some, if◌then◌else◌}
use Rattle.std.specs.Cmp.Lexicographic.{slice_cmp}
use Rattle.std.specs.Option.{option_and_then, option_map, option_map_or}
use Rattle.std.specs.Ordering.{is_eq, is_gt, is_lt, nat_cmp}
use Rattle.std.specs.declared.cmp.Ordering.{Ordering}
use Rattle.std.specs.declared.cmp.Ordering.TheVariants.{Greater}
use Rattle.implib_dll.specs.Exports.{Exports, NameEntry, Target, Empty, Address, Forwarder}

-- the name at a position of the name table
abbrev pub text_at : List NameEntry → ℕ → Option (List ℕ)
text_at names position = option_map (λ name. name.text) (slice_get names position)

-- The name at a position against a name, by their unsigned bytes from the left, as C's `strcmp` has
-- it.
unfoldable pub order_at : List NameEntry → ℕ → List ℕ → Ordering
order_at names position wanted =
    option_map_or (λ name. slice_cmp nat_cmp name.text wanted) (slice_get names position) Greater

-- whether the name at a position is a name
abbrev pub is_at : List NameEntry → ℕ → List ℕ → Bool
is_at names position wanted = is_eq (order_at names position wanted)

-- the position in the middle of those from `low` to before `high`: (min + max) / 2, where max is
-- the last of them
abbrev pub middle : ℕ → ℕ → ℕ
middle low high = (low + (high - 1)) / 2

-- Where a binary search finds a name from `low` to before `high`, by at most as many steps.
unfoldable pub searched : List NameEntry → List ℕ → ℕ → ℕ → ℕ → Option ℕ
searched names wanted zero low high = None
searched names wanted (suc steps) low high =
    let position = middle low high in
    let order = order_at names position wanted in
    let later = searched names wanted steps (if is_lt order then position + 1 else low)
    (if is_gt order then position else high) in
    if nat_lt low high then (if is_eq order then Some position else later) else None

-- The position at which a loader finds a name: at the hint, if the name is there, and else by a
-- binary search.
abbrev pub position_of : List NameEntry → List ℕ → ℕ → Option ℕ
position_of names wanted hint =
    if is_at names hint wanted then Some hint
    else searched names wanted (length names) 0 (length names)

-- a target that is one
abbrev pub filled : Target → Option Target
filled Empty = None
filled (Address address kind) = Some (Address address kind)
filled (Forwarder text) = Some (Forwarder text)

-- the target of an index, if there is one
abbrev pub target_at : List Target → ℕ → Option Target
target_at targets index = option_and_then filled (slice_get targets index)

-- What a loader finds by a name and a hint.
abbrev pub by_name : Exports → List ℕ → ℕ → Option Target
by_name e wanted hint = option_and_then
    (λ position. option_and_then (λ name. target_at e.targets name.index)
    (slice_get e.names position))
    (position_of e.names wanted hint)

-- the index of an ordinal: the ordinal less the base, in 32 bits
abbrev pub ordinal_index : ℕ → ℕ → ℕ
ordinal_index base ordinal = (ordinal + (2 ^ 32 - base)) % 2 ^ 32

-- the ordinal of an index
abbrev pub ordinal_of : ℕ → ℕ → ℕ
ordinal_of base index = (base + index) % 2 ^ 32

-- What a loader finds by an ordinal.
abbrev pub by_ordinal : Exports → ℕ → Option Target
by_ordinal e ordinal = target_at e.targets (ordinal_index e.base ordinal)

-- whether names rise strictly by their bytes, from a text on
abbrev pub rise_from : List ℕ → List NameEntry → Bool
rise_from text [] = true
rise_from text (name ∷ rest) = is_lt (slice_cmp nat_cmp text name.text) && rise_from name.text rest

-- whether each name is less than the next one by its bytes, as the specification asks ("Export Name
-- Pointer Table")
abbrev pub names_rise : List NameEntry → Bool
names_rise [] = true
names_rise (name ∷ rest) = rise_from name.text rest
