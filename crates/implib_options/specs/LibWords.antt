-- What a word says to Microsoft's LIB (its documentation, and what llvm-lib 19 does).
use Rattle.std.specs.Prelude.{ℕ, Bool, false, not, ◌&&◌, ◌||◌, ◌==◌, [], ◌∷◌, length, map}
use Rattle.std.specs.Prelude.{Option, None, Some, if◌then◌else◌, nat_lt}
use Rattle.std.specs.Char.{to_ascii_lowercase}
use Rattle.std.specs.List.{after_first, before_first, list_any, position_or_len}
use Rattle.implib_options.specs.declared.table.Meaning.TheVariants.{Identify, Machine}
use Rattle.implib_options.specs.declared.table.Takes.TheVariants.{Nothing, Refused, Value}
use Rattle.implib_options.specs.declared.table.Words.TheVariants.{Lib}
use Rattle.implib_options.specs.Given.{means}
use Rattle.implib_options.specs.Saying.{IsUnknown, IsUnsupported, LacksValueIn, NamesNoMachine}
use Rattle.implib_options.specs.Saying.{Saying, Text, Whole, Wrong, file_saying}
use Rattle.implib_options.specs.Table.{Kind, lib_machine, named}

-- whether a word that is no option is the path of a file: after its `/` (47) is another one or a
-- full stop (46), and no `=` (61)
abbrev pub is_path : Text → Bool
is_path [] = false
is_path (b ∷ rest) = b == 47 && not (list_any (λ x. x == 61) rest)
    && (list_any (λ x. x == 47) rest || list_any (λ x. x == 46) rest)

-- what an option says that takes and means this, in a word that may have a colon and a value; what
-- is none and has no colon may be a path
abbrev pub lib_kind_saying : Text → Option Kind → Option Text → Saying
lib_kind_saying word None None = if is_path word then file_saying Identify word
    else Wrong (IsUnknown word)
lib_kind_saying word None (Some value) = Wrong (IsUnknown word)
lib_kind_saying word (Some (Refused, meaning)) value = Wrong (IsUnsupported word)
lib_kind_saying word (Some (Nothing, meaning)) None = Whole (meaning, [])
lib_kind_saying word (Some (Nothing, meaning)) (Some value) = Wrong (IsUnknown word)
lib_kind_saying word (Some (Value, meaning)) None = Wrong (LacksValueIn word)
lib_kind_saying word (Some (Value, meaning)) (Some value) =
    if length value == 0 then Wrong (LacksValueIn word) else Whole (meaning, value)

-- the byte is `:`
abbrev pub is_colon : ℕ → Bool
is_colon b = b == 58

-- a text in small letters
abbrev pub small : Text → Text
small text = map to_ascii_lowercase text

-- NAME and NAME:VALUE, up to the first colon, in letters of any case, behind the first byte of a
-- word
abbrev pub lib_option_saying : Text → Text → Saying
lib_option_saying word text =
    if nat_lt (position_or_len is_colon text) (length text)
    then lib_kind_saying word (named Lib (small (before_first is_colon text)))
    (Some (after_first is_colon text))
    else lib_kind_saying word (named Lib (small text)) None

-- whether an option begins with the byte: `/` (47) or `-` (45)
abbrev pub is_mark : ℕ → Bool
is_mark b = b == 47 || b == 45

-- what a word says, whose machine is not named for `-m`
abbrev pub lib_raw_saying : Text → Saying
lib_raw_saying [] = file_saying Identify []
lib_raw_saying (b ∷ text) =
    if is_mark b then lib_option_saying (b ∷ text) text else file_saying Identify (b ∷ text)

-- what a word says that names a machine, which has this name for `-m`
abbrev pub machine_saying : Text → Option Text → Saying
machine_saying word None = Wrong (NamesNoMachine word)
machine_saying word (Some name) =
    if length name == 0 then Wrong (IsUnsupported word) else Whole (Machine, name)

-- the same, where it may name a machine, in letters of any case
abbrev pub with_machine : Text → Saying → Saying
with_machine word (Whole given) =
    if means Machine given then machine_saying word (lib_machine (small given.1)) else Whole given
with_machine word more = more

-- what a word says
abbrev pub lib_saying : Text → Saying
lib_saying word = with_machine word (lib_raw_saying word)
