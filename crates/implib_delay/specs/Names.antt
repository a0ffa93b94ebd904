-- The names of the members of delayed imports and of their symbols, after the library's name.
use Rattle.std.specs.Prelude.{ℕ, List, [], ◌++◌, codes, if◌then◌else◌}
use Rattle.implib.specs.declared.machine.MachineType.{MachineType}
use Rattle.implib.specs.Machine.{has_leading_underscore}
use Rattle.implib.specs.Members.Gnu.{five_digits, mangled_name}

-- The names of the members: of the head and the tail, and of the export of a number. In the order
-- of their names, in which GNU's linker puts the parts of a table from version 2.46 on, the tail is
-- last. For example, `foo_dll_d_h.o`, `foo_dll_d_t.o` and `foo_dll_d_s00000.o` of foo.dll.
unfoldable pub head_name : List ℕ → List ℕ
head_name library = [] ++ (mangled_name library ++ codes "_d_h.o")

unfoldable pub tail_name : List ℕ → List ℕ
tail_name library = [] ++ (mangled_name library ++ codes "_d_t.o")

unfoldable pub export_name : List ℕ → ℕ → List ℕ
export_name library number =
    (([] ++ (mangled_name library ++ codes "_d_s")) ++ five_digits number) ++ codes ".o"

-- The symbol of the code that all stubs share, with one more `_` in front on I386. For example,
-- `__tailMerge_foo_dll` of foo.dll.
unfoldable pub tail_symbol : MachineType → List ℕ → List ℕ
tail_symbol machine library =
    (if has_leading_underscore machine then codes "___tailMerge_" else codes "__tailMerge_")
    ++ (mangled_name library ++ [])

-- The symbols of the DLL's handle and of its name, on each machine. For example,
-- `__DLL_HANDLE_foo_dll` and `__foo_dll_iname`.
unfoldable pub handle_symbol : List ℕ → List ℕ
handle_symbol library = codes "__DLL_HANDLE_" ++ (mangled_name library ++ [])

unfoldable pub name_symbol : List ℕ → List ℕ
name_symbol library = codes "__" ++ (mangled_name library ++ codes "_iname")

-- the symbol of the helper of GNU's `libdelayimp`, which on I386 drops its 8 bytes of arguments
unfoldable pub helper_symbol : MachineType → List ℕ
helper_symbol machine =
    if has_leading_underscore machine then codes "___delayLoadHelper2@8"
    else codes "__delayLoadHelper2"
