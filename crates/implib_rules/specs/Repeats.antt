-- Exports of a word that an export before them declares (GNU dlltool's rule: the first export of a
-- symbol stays).
-- Two exports have one symbol where they have one word (`SymbolsAreOfWords`).
use Rattle.std.specs.Prelude.{◌≡◌, ℕ, Bool, ◌&&◌, ◌||◌, not, List, [], ◌∷◌, ◌++◌, Some, drop}
use Rattle.std.specs.Prelude.{slice_get, take}
use Rattle.implib.specs.declared.machine.MachineType.{MachineType}
use Rattle.implib.specs.Definition.{DefinitionView, ExportView}
use Rattle.implib_rules.specs.Linked.{NamingView, is_declared, symbol_of, word_of}

-- whether an export repeats a word that one of those before it declares; one that is private
-- declares nothing
abbrev pub repeats : List ExportView → ExportView → Bool
repeats before e = not e.private && is_declared before (word_of e)

-- whether each of these exports repeats a word of those before it, after other exports
abbrev pub repeats_behind : List ExportView → List ExportView → List Bool
repeats_behind before [] = []
repeats_behind before (e ∷ exports) = repeats before e ∷ repeats_behind (before ++ e ∷ []) exports

-- an export, which is private from now on if it is to be left out of the library
abbrev pub left_out_if : Bool → ExportView → ExportView
left_out_if is_left_out e = record e { private = e.private || is_left_out }

-- an export, by the first of flags
abbrev pub left_out_by : List Bool → ExportView → ExportView
left_out_by [] e = e
left_out_by (flag ∷ flags) e = left_out_if flag e

-- exports, each by its flag
abbrev pub left_out : List Bool → List ExportView → List ExportView
left_out flags [] = []
left_out flags (e ∷ exports) = left_out_by flags e ∷ left_out (drop 1 flags) exports

-- The exports, of which those are private that repeat the word of one before them. For example, of
-- `two` and `two DATA` the second is; of `two PRIVATE` and `two` the first alone, as before.
unfoldable pub without_repeated : List ExportView → List ExportView
without_repeated exports = left_out (repeats_behind [] exports) exports

-- the definition, each symbol declared by one export alone
abbrev pub without_repeats : DefinitionView → DefinitionView
without_repeats d = record d { exports = without_repeated d.exports }

-- The export at an index is left out exactly where it repeats a word of those before it, and else
-- stays as it is.
abbrev pub AreLeftOut : Type 0
AreLeftOut =
    (exports : List ExportView) (index : ℕ) (e : ExportView) → slice_get exports index ≡ Some e →
    slice_get (without_repeated exports) index
    ≡ Some (left_out_if (repeats (take index exports) e) e)

-- two words that name one symbol are the same
abbrev pub SymbolsAreOfWords : Type 0
SymbolsAreOfWords =
    (machine : MachineType) (naming : NamingView) (first second : List ℕ) →
    symbol_of machine naming first ≡ symbol_of machine naming second → first ≡ second
