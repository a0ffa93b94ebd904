-- The symbols that a short import of ARM64EC declares (LLVM, "COFFImportFile.cpp" and
-- "Mangler.cpp"). Its first text has a mark if it is a function's, by which ARM64EC's own code
-- calls it; the other symbols are those of code for AMD64.
use Rattle.std.specs.Prelude.{ℕ, suc, ◌+◌, ◌==◌, List, [], ◌∷◌, ◌++◌, Option, None, Some, codes}
use Rattle.std.specs.Prelude.{drop, eqb, if◌then◌else◌, length, take}
use Rattle.std.specs.List.{starts_with}
use Rattle.std.specs.Option.{option_map}
use Rattle.implib.specs.Formats.ShortImport.{import_data}
use Rattle.implib.specs.Import.{imp_symbol}
use Rattle.implib_read.specs.MemberNames.{begins_with_byte}

-- where the first `$$h` of a text begins
abbrev pub inner_mark_in : List ℕ → Option ℕ
inner_mark_in [] = None
inner_mark_in (c ∷ text) =
    if starts_with eqb (c ∷ text) (codes "$$h") then Some 0 else option_map suc (inner_mark_in text)

-- a name of C++ around its mark; where nothing follows `$$h`, that is no mark
abbrev pub around_mark : List ℕ → ℕ → List ℕ → List ℕ
around_mark name place [] = name
around_mark name place (c ∷ behind) = take place name ++ c ∷ behind

-- a name of C++ without the mark at a place
abbrev pub without_inner : List ℕ → Option ℕ → List ℕ
without_inner name None = name
without_inner name (Some place) = around_mark name place (drop (place + 3) name)

-- A text without its mark: `#` at its front or, in a name of C++, which begins with `?`, the first
-- `$$h`. One that has no mark is as it is. For example, func of `#func`, and `?cpp@@YAHPEAX@Z` of
-- `?cpp@@$$hYAHPEAX@Z`.
abbrev pub unmarked : List ℕ → List ℕ
unmarked text =
    if begins_with_byte 0x23 text then drop 1 text
    else if begins_with_byte 0x3F text then without_inner text (inner_mark_in text)
    else text

-- the symbol of the address in the auxiliary table, which ARM64EC's own code calls
abbrev pub auxiliary_symbol : List ℕ → List ℕ
auxiliary_symbol name = codes "__imp_aux_" ++ name

-- the first text, where it has a mark and so is longer than the name
abbrev pub text_apart : List ℕ → List ℕ → List (List ℕ)
text_apart text name = if length name == length text then [] else text ∷ []

-- The symbols of a short import of a type, with this first text. For example, of the function or
-- the constant `#f`:
-- `__imp_f`, `f`, `__imp_aux_f` and `#f`; of the constant `c` those of `c` alone; of data `#d` the
-- address `__imp_d`.
abbrev pub arm64ec_symbols : ℕ → List ℕ → List (List ℕ)
arm64ec_symbols import_type text =
    if import_type == import_data then imp_symbol (unmarked text) ∷ []
    else imp_symbol (unmarked text) ∷ unmarked text ∷ auxiliary_symbol (unmarked text)
    ∷ text_apart text (unmarked text)
