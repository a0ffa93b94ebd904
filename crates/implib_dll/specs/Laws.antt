-- What lookups come to, and what they do not.
use Rattle.std.specs.Prelude.{◌≡◌, ◌↔◌, ℕ, ◌<◌, ◌^◌, true, List, Some, slice_get}
use Rattle.implib_dll.specs.Exports.{Exports, NameEntry}
use Rattle.implib_dll.specs.Lookup.{by_name, by_ordinal, names_rise, ordinal_of, position_of}
use Rattle.implib_dll.specs.Lookup.{target_at, text_at}

-- Where names rise, a lookup with any hint finds a name just where it stands.
abbrev pub FindsExactly : Type 0
FindsExactly = (names : List NameEntry) (wanted : List ℕ) (hint position : ℕ) → names_rise names
    ≡ true
    → (position_of names wanted hint ≡ Some position) ↔ (text_at names position ≡ Some wanted)

-- Where names rise, hints change nothing.
abbrev pub HintsChangeNothing : Type 0
HintsChangeNothing = (names : List NameEntry) (wanted : List ℕ) (hint other : ℕ) → names_rise names
    ≡ true
    → position_of names wanted hint ≡ position_of names wanted other

-- Whatever the order of names, what is found has the name.
abbrev pub FindsTheName : Type 0
FindsTheName = (names : List NameEntry) (wanted : List ℕ) (hint position : ℕ)
    → position_of names wanted hint ≡ Some position → text_at names position ≡ Some wanted

-- Whatever the order of names, a right hint finds its name.
abbrev pub RightHintFinds : Type 0
RightHintFinds = (names : List NameEntry) (wanted : List ℕ) (hint : ℕ)
    → text_at names hint ≡ Some wanted → position_of names wanted hint ≡ Some hint

-- Where names rise, a lookup of a listed name leads to the target of its index, with any hint.
abbrev pub NamesLead : Type 0
NamesLead = (e : Exports) (name : NameEntry) (hint position : ℕ) → names_rise e.names ≡ true
    → slice_get e.names position ≡ Some name → by_name e name.text hint
    ≡ target_at e.targets name.index

-- The ordinal of an index leads to its target.
abbrev pub OrdinalsLead : Type 0
OrdinalsLead = (e : Exports) (index : ℕ) → e.base < 2 ^ 32 → index < 2 ^ 32
    → by_ordinal e (ordinal_of e.base index) ≡ target_at e.targets index
