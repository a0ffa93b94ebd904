-- View: arguments of the program as lists, and what its functions test.
use Rattle.std.specs.Prelude.{◌≡◌, ℕ, Bool, true, ◌&&◌, not, List, [], ◌∷◌, Option, None, Some}
use Rattle.std.specs.Prelude.{drop, is_none, map}
use Rattle.std.specs.Borrow.{Bor}
use Rattle.std.specs.Cmp.Lexicographic.{slice_cmp}
use Rattle.std.specs.HashSet.{HashSet, contains_by}
use Rattle.std.specs.Ordering.{is_lt, nat_cmp}
use Rattle.std.specs.Str.{bytes_eq}
use Rattle.implib.specs.declared.flavor.Flavor.{Flavor}
use Rattle.implib.specs.declared.machine.MachineType.{MachineType}
use Rattle.implib.specs.Definition.{ExportView}
use Rattle.implib.specs.Import.{is_empty_text}
use Rattle.implib.specs.Machine.{has_leading_underscore}
use Rattle.implib_rules.specs.Linked.{NamingView, linked_export, linked_to, targets_added, word_of}

-- the bytes of a text that may be given
abbrev pub given_bytes : Option (Bor (List ℕ)) → Option (List ℕ)
given_bytes None = None
given_bytes (Some text) = Some text.now

-- whether an export's word is its symbol and what it asks for
abbrev pub is_linked : MachineType → ExportView → Bool
is_linked machine e =
    not (has_leading_underscore machine) && (is_none e.ext_name && is_empty_text e.alias_target)

-- whether a set has a word
abbrev pub has_word : {S : Type 0} → HashSet (Bor (List ℕ)) S → List ℕ → Bool
has_word words word = contains_by (λ k. bytes_eq word k.now) words

-- a word comes before another, byte by byte
abbrev pub comes_before : List ℕ → List ℕ → Bool
comes_before word next = is_lt (slice_cmp nat_cmp word next)

-- the words of exports rise: each comes before the next one, and after this word
abbrev pub rise_from : List ℕ → List ExportView → Bool
rise_from last [] = true
rise_from last (e ∷ exports) = comes_before last (word_of e) && rise_from (word_of e) exports

-- the first of some values, if there is one and it is given
abbrev pub first_given : {A : Type 0} → List (Option A) → Option A
first_given [] = None
first_given (value ∷ values) = value

-- exports as they are linked, each weak for its symbol, if that is given
abbrev pub linked_by : MachineType → NamingView → List (Option (List ℕ)) → List ExportView →
    List ExportView
linked_by machine naming symbols [] = []
linked_by machine naming symbols (e ∷ exports) =
    linked_to machine naming (first_given symbols) e
    ∷ linked_by machine naming (drop 1 symbols) exports

-- with these symbols to be weak for the exports are as they are linked in a flavour, and these are
-- the targets added
pub record AreLinks (machine : MachineType) (naming : NamingView) (flavor : Flavor)
    (exports : List ExportView)
    (symbols : List (Option (List ℕ))) (added : List ExportView) : Type 0 where
  pub linked : linked_by machine naming symbols exports
      ≡ map (linked_export machine naming flavor exports) exports
  pub are_added : added ≡ targets_added machine naming flavor exports
