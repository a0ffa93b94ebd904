-- The marks of the names of ARM64EC functions: which they are, and where they are put (LLVM,
-- "Mangler.cpp", `getArm64ECMangledFunctionName`).
use Rattle.std.specs.Prelude.{ℕ, suc, ◌+◌, List, [], ◌∷◌, ◌++◌, take, drop, codes, eqb}
use Rattle.std.specs.Prelude.{Option, Some, None, option_map, Result, Ok, Err, if◌then◌else◌}
use Rattle.std.specs.List.{starts_with}
use Rattle.implib.specs.Ascii.{begins_with, question_mark, without_first}
use Rattle.implib.specs.Import.{is_empty_text}
use Rattle.implib_arm64ec.specs.Reading.{qualified_name, read}
use Rattle.implib_arm64ec.specs.declared.reading.Reading.{Reading}
use Rattle.implib_arm64ec.specs.declared.reading.Reading.TheVariants.{Ends, Stops}

-- `#`, before names that are not of C++
abbrev pub number_sign : ℕ
number_sign = 0x23

-- the mark within names of C++
abbrev pub inner_mark : List ℕ
inner_mark = codes "$$h"

-- where the first mark in a text begins
abbrev pub mark_position : List ℕ → Option ℕ
mark_position [] = None
mark_position (b ∷ text) =
    if starts_with eqb (b ∷ text) inner_mark then Some 0 else option_map suc (mark_position text)

-- a text with the mark at a place
abbrev pub marked_at : ℕ → List ℕ → List ℕ
marked_at place text = (take place text ++ inner_mark) ++ drop place text

-- the mark of a name of C++ that has none follows its qualified name, which begins behind the `?`
abbrev pub marked_behind : List ℕ → Reading → Result (List ℕ) ℕ
marked_behind name (Ends length) = Ok (marked_at (length + 1) name)
marked_behind name (Stops place) = Err (place + 1)

-- the mark of a name of C++
abbrev pub marked_inside : List ℕ → Option ℕ → Result (List ℕ) ℕ
marked_inside name (Some place) = Ok name
marked_inside name None = marked_behind name (read qualified_name (without_first name))

-- The name with its mark: itself if it has one already. Without a reading it has none; then the
-- byte is given at which the reading fails. For example, `#func` of func and `?cpp@@$$hYAHPEAX@Z`
-- of `?cpp@@YAHPEAX@Z`.
abbrev pub mark : List ℕ → Result (List ℕ) ℕ
mark name =
    if is_empty_text name then Err 0
    else if begins_with number_sign name then Ok name
    else if begins_with question_mark name then marked_inside name (mark_position name)
    else Ok (number_sign ∷ name)

-- a text without the mark at a place, unless nothing follows it
abbrev pub without_mark_at : List ℕ → Option ℕ → Option (List ℕ)
without_mark_at name None = None
without_mark_at name (Some place) =
    if is_empty_text (drop (place + 3) name) then None
    else Some (take place name ++ drop (place + 3) name)

-- A name without its mark, if it has one. For example, func of `#func`, and none of func.
abbrev pub unmark : List ℕ → Option (List ℕ)
unmark name =
    if begins_with number_sign name then Some (without_first name)
    else if begins_with question_mark name then without_mark_at name (mark_position name)
    else None
