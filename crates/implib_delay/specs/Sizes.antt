-- The sizes of names in a string table.
use Rattle.std.specs.Prelude.{ℕ, List, bytes_eq, if◌then◌else◌}
use Rattle.std.specs.List.{list_any}
use Rattle.implib.specs.Formats.Layout.{string_size}
use Rattle.implib.specs.Formats.Writer.{AddedSymbol, is_long}

-- the size in bytes of a name in the string table; 0 where its record has it
abbrev pub long_name_size : List ℕ → ℕ
long_name_size name = if is_long name then string_size name else 0

-- the size in bytes that a name adds to the string table after those of other symbols
abbrev pub added_size : List ℕ → List AddedSymbol → ℕ
added_size name others =
    if list_any (λ s. bytes_eq name s.name) others then 0 else long_name_size name
