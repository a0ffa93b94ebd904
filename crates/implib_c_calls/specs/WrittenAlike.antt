-- The call with options and the program make the same bytes.
use Rattle.std.specs.Prelude.{◌≡◌, ℕ, List, ◌++◌, Some, take}
use Rattle.implib_rules.specs.Library.{IsLibrary, WritesLibrary}
use Rattle.implib_rules.specs.Options.{LibraryOptionsView}
use Rattle.implib_c_calls.specs.LibraryWith.{AreOptions, GivenOptions, LibraryWithAnswers}

-- a text has one library for these options
abbrev pub OneLibrary : List ℕ → LibraryOptionsView → Type 0
OneLibrary text options =
    (file other : List ℕ) → IsLibrary text options file → IsLibrary text options other →
    file ≡ other

-- Where the call succeeds for a text and options, what it puts at the beginning of the buffer is
-- what the program's `write_library` writes for the same text and options after what a writer had.
abbrev pub PutsWhatIsWritten : Type 0
PutsWhatIsWritten =
    (text : List ℕ) (given : GivenOptions) (options : LibraryOptionsView) (old new : List ℕ)
    (length_left place_left : ℕ) (before after : List ℕ) →
    LibraryWithAnswers text given old new length_left place_left 0 → AreOptions given options →
    WritesLibrary text options (Some before) (Some after) →
    after ≡ before ++ take length_left new
