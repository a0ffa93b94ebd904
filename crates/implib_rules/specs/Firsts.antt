-- The first export of each word, of each ordinal, and of each name that the DLL is asked for.
use Rattle.std.specs.Prelude.{◌≡◌, ℕ, suc, Bool, List, [], ◌∷◌, Option, None, Some, if◌then◌else◌}
use Rattle.std.specs.Prelude.{nat_eq}
use denote.Ref.{Bor}
use Rattle.std.specs.HashMap.{HashMap, get, get_by}
use Rattle.std.specs.Option.{option_map}
use Rattle.std.specs.Str.{bytes_eq}
use Rattle.implib.specs.declared.machine.MachineType.{MachineType}
use Rattle.implib.specs.Definition.{ExportView}
use Rattle.implib_rules.specs.Linked.{NamingView, asks_for, declares, word_of}

-- the index of the first item that passes a test
abbrev pub first_where : {A : Type 0} → (A → Bool) → List A → Option ℕ
first_where test [] = None
first_where test (item ∷ items) =
    if test item then Some 0 else option_map suc (first_where test items)

-- the first export of a word
abbrev pub first_of_word : List ℕ → List ExportView → Option ℕ
first_of_word word exports = first_where (λ e. bytes_eq word (word_of e)) exports

-- the first export of a word that is not private: the one that declares it
abbrev pub first_declared : List ℕ → List ExportView → Option ℕ
first_declared word exports = first_where (λ e. declares e word) exports

-- the first export of an ordinal; 0 stands for none
abbrev pub first_of_ordinal : ℕ → List ExportView → Option ℕ
first_of_ordinal ordinal exports = first_where (λ e. nat_eq ordinal e.ordinal) exports

-- a table has the first export of each word
abbrev pub AreFirstWords : {S : Type 0} → HashMap (Bor (List ℕ)) ℕ S → List ExportView → Type 0
AreFirstWords firsts exports =
    (word : List ℕ) → get_by (λ k. bytes_eq word k.now) firsts ≡ first_of_word word exports

-- a table has the export that declares each word
abbrev pub AreFirstDeclared : {S : Type 0} → HashMap (Bor (List ℕ)) ℕ S → List ExportView → Type 0
AreFirstDeclared firsts exports =
    (word : List ℕ) → get_by (λ k. bytes_eq word k.now) firsts ≡ first_declared word exports

-- a table has the first export of each ordinal
abbrev pub AreFirstOrdinals : {S : Type 0} → HashMap ℕ ℕ S → List ExportView → Type 0
AreFirstOrdinals firsts exports =
    (ordinal : ℕ) → get nat_eq firsts ordinal ≡ first_of_ordinal ordinal exports

-- the first import by name that asks for a word
abbrev pub first_asking : MachineType → NamingView → List ℕ → List ExportView → Option ℕ
first_asking machine naming word exports = first_where (asks_for machine naming word) exports

-- a table has the import by name that asks for each word
abbrev pub AreFirstAsking : {S : Type 0} → MachineType → NamingView → HashMap (Bor (List ℕ)) ℕ S →
    List ExportView → Type 0
AreFirstAsking machine naming firsts exports =
    (word : List ℕ) →
    get_by (λ k. bytes_eq word k.now) firsts ≡ first_asking machine naming word exports
