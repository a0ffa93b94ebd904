-- I386's underscore: C symbols of I386 begin with one that their names in C lack, as DLLs export
-- them. Here is where it is added, asked for and taken off.
use Rattle.std.specs.Prelude.{ℕ, Bool, ◌&&◌, ◌||◌, ◌==◌, not, List, [], ◌∷◌, if◌then◌else◌}
use Rattle.std.specs.Prelude.{slice_index}
use Rattle.std.specs.List.{list_any}
use Rattle.implib.specs.declared.machine.MachineType.{MachineType}
use Rattle.implib.specs.Ascii.{at_sign, begins_with, holds, question_mark, underscore}
use Rattle.implib.specs.Ascii.{without_first}
use Rattle.implib.specs.Machine.{has_leading_underscore}

-- the leading underscore of the machine's C symbols, or nothing
abbrev pub leading_underscore : MachineType → List ℕ
leading_underscore machine = if has_leading_underscore machine then underscore ∷ [] else []

-- a name that begins with `?` or holds `@` is decorated
abbrev pub is_decorated : List ℕ → Bool
is_decorated name = slice_index name 0 == question_mark || list_any (λ byte. byte == at_sign) name

-- A name as the symbols of a machine have it: with `_` in front on I386, unless it is decorated.
-- For example, on I386 `foo` is `_foo`, and `_x@8` and `?y` stay.
abbrev pub decorated : MachineType → List ℕ → List ℕ
decorated machine name =
    if has_leading_underscore machine && not (is_decorated name) then underscore ∷ name else name

-- whether a name has the underscore that I386 puts before an undecorated name
abbrev pub has_underscore : MachineType → List ℕ → Bool
has_underscore machine name =
    has_leading_underscore machine && begins_with underscore name && not (holds at_sign name)

-- The name that an export asks for: its name without that underscore. For example, on I386 `_bar`
-- asks for bar, and `_f@8` for `_f@8`.
abbrev pub asked_name : MachineType → List ℕ → List ℕ
asked_name machine name = if has_underscore machine name then without_first name else name
