-- The name that a library is given for the linker (docs/FORMATS.md, "The name of a library").
use Rattle.std.specs.Prelude.{ℕ, Bool, true, false, not, List, [], ◌∷◌, ◌++◌, Option, None, Some, ◌==◌}
use Rattle.std.specs.Prelude.{if◌then◌else◌, take}
use Rattle.std.specs.Int.{to_le_bytes, w16}
use Rattle.std.specs.List.{before_last, filter, flat_map, list_any}
use Rattle.hex.specs.Hex.{encode_lower}
use Rattle.md5.specs.Md5.{md5}
use Rattle.implib.specs.declared.flavor.Flavor.{Flavor}
use Rattle.implib.specs.declared.flavor.Flavor.TheVariants.{Msvc, Gnu}
use Rattle.implib.specs.declared.machine.MachineType.{MachineType}
use Rattle.implib.specs.declared.machine.MachineType.TheVariants.{I386, ARMNT, AMD64, ARM64}
use Rattle.implib.specs.Definition.{DefinitionView, ExportView, given_name}
use Rattle.implib.specs.Import.{is_empty_text}

-- a text, and the NUL that ends it
abbrev pub text_taken : List ℕ → List ℕ
text_taken text = text ++ 0 ∷ []

-- a flag: its letter where it is set, else `-`
abbrev pub flag_taken : ℕ → Bool → ℕ
flag_taken letter is_set = if is_set then letter else 0x2D

-- the ordinal of an export with its low byte first, `n` for an import by number, and `d` for data
abbrev pub numbers_taken : ExportView → List ℕ
numbers_taken e =
    to_le_bytes w16 e.ordinal ++ flag_taken 0x6E e.no_name ∷ flag_taken 0x64 e.is_data ∷ []

-- What is linked of an export: its symbol, the name that it gives to ask for, what it is weak for,
-- its ordinal, and whether it is imported by number and is data.
abbrev pub export_taken : ExportView → List ℕ
export_taken e = text_taken e.name
    ++ (text_taken (given_name e) ++ (text_taken e.alias_target ++ numbers_taken e))

-- what is linked of the exports that are not private, in order
abbrev pub exports_taken : List ExportView → List ℕ
exports_taken exports = flat_map export_taken (filter (λ e. not e.private) exports)

-- The name for GNU's linker: the DLL's name, `_`, and 16 hexadecimal digits, the first 8 bytes of
-- the MD5 of what is linked. Two libraries of one DLL have one name where the same is linked of
-- their exports.
unfoldable pub gnu_library_name : DefinitionView → List ℕ
gnu_library_name d = d.import_name ++ (0x5F ∷ encode_lower (take 8 (md5 (exports_taken d.exports))))

-- the byte is a full stop
abbrev pub is_full_stop : ℕ → Bool
is_full_stop b = b == 0x2E

-- a name without its ending: the text before its last full stop, or all of it where it has none
abbrev pub without_ending : List ℕ → List ℕ
without_ending name = if list_any is_full_stop name then before_last is_full_stop name else name

-- a text, if it is not empty
abbrev pub if_filled : List ℕ → Option (List ℕ)
if_filled text = if is_empty_text text then None else Some text

-- The name for Microsoft's linker, and for GNU `ld`, which looks in a library of Microsoft's for
-- the descriptor of the DLL's name without its ending: that name. For example, that of zoo.drv is
-- zoo. Where nothing is before the last full stop there is none.
abbrev pub msvc_library_name : DefinitionView → Option (List ℕ)
msvc_library_name d = if_filled (without_ending d.import_name)

-- whether GNU `ld` links for a machine: it reads no library for ARM64
abbrev pub has_gnu_linker : MachineType → Bool
has_gnu_linker I386 = true
has_gnu_linker ARMNT = true
has_gnu_linker AMD64 = true
has_gnu_linker ARM64 = false

-- the name of a library in a flavour; in Microsoft's it is for GNU `ld` alone, and where that links
-- nothing the library is named after the whole name of the DLL, as llvm-dlltool does
abbrev pub library_name_for : MachineType → Flavor → DefinitionView → Option (List ℕ)
library_name_for machine Msvc d = if has_gnu_linker machine then msvc_library_name d else None
library_name_for machine Gnu d = Some (gnu_library_name d)

-- the definition with the name of its library
abbrev pub with_library_name : MachineType → Flavor → DefinitionView → DefinitionView
with_library_name machine flavor d =
    record d { library_name = library_name_for machine flavor d }
