-- A short import as GNU `ld` reads it. Of name types 2 and 3 the specification ("Import Name Type")
-- says that a leading `?`, `@` or `_` is left out; lld takes an underscore off on every machine,
-- and GNU `ld` on I386 alone, where C's symbols have one (its versions 2.40 to 2.47, tried;
-- docs/LINKERS.md).
use Rattle.std.specs.Prelude.{ℕ, ◌==◌, ◌&&◌, not, List, if◌then◌else◌}
use Rattle.implib.specs.Ascii.{begins_with}
use Rattle.implib.specs.Formats.ShortImport.{ShortImport, before_at_sign, import_name}
use Rattle.implib.specs.Formats.ShortImport.{import_name_noprefix, import_ordinal, without_prefix}
use Rattle.implib.specs.Import.{Ask, Name, Ordinal, underscore}

-- the number of I386 in a header
abbrev pub i386_number : ℕ
i386_number = 0x14C

-- A symbol without its prefix. For example, on I386 `__f` gives `_f`, and on AMD64 `__f` itself.
abbrev pub without_prefix_by_gnu : ℕ → List ℕ → List ℕ
without_prefix_by_gnu machine symbol =
    if begins_with underscore symbol && not (machine == i386_number) then symbol
    else without_prefix symbol

-- the name that a short import for a machine of this number asks for, by its name type
abbrev pub asked_by_gnu : ℕ → ℕ → List ℕ → List ℕ
asked_by_gnu machine name_type symbol =
    if name_type == import_name then symbol
    else if name_type == import_name_noprefix then without_prefix_by_gnu machine symbol
    else before_at_sign (without_prefix_by_gnu machine symbol)

-- what GNU `ld` asks the DLL for by a short import
abbrev pub ask_by_gnu : ShortImport → Ask
ask_by_gnu r =
    if r.name_type == import_ordinal then Ordinal r.ordinal
    else Name (asked_by_gnu r.machine r.name_type r.symbol) r.ordinal
