-- The options that are given, and questions on them.
use Rattle.std.specs.Prelude.{ℕ, Bool, true, false, List, [], ◌∷◌, Option, None, Some}
use Rattle.std.specs.Prelude.{if◌then◌else◌}
use Rattle.std.specs.List.{filter_map, fold}
use denote.Enum.Bare.{sameb}
use Rattle.implib_options.specs.contracts.table.Meaning.{the_type}
use Rattle.implib_options.specs.declared.given.Given.{Given}
use Rattle.implib_options.specs.declared.table.Meaning.{Meaning}

-- an option as it is given: what it means, and its value, which is empty where it takes none
abbrev pub GivenView : Type 0
GivenView = Meaning × List ℕ

abbrev pub given_view : Given → GivenView
given_view given = (given.meaning, given.value.now)

-- whether an option means this
abbrev pub means : Meaning → GivenView → Bool
means meaning given = sameb the_type given.0 meaning

-- the value of an option that means this
abbrev pub value_of : Meaning → GivenView → Option (List ℕ)
value_of meaning given = if means meaning given then Some given.1 else None

-- the values that are given for a meaning, in order
abbrev pub all : Meaning → List GivenView → List (List ℕ)
all meaning given = filter_map (value_of meaning) given

-- the one that is given last
abbrev pub last : Meaning → List GivenView → Option (List ℕ)
last meaning given =
    fold (λ earlier option. if means meaning option then Some option.1 else earlier) None given

-- whether there is a value
abbrev pub has_values : List (List ℕ) → Bool
has_values [] = false
has_values (value ∷ values) = true

-- whether an option that means this is given
abbrev pub has : Meaning → List GivenView → Bool
has meaning given = has_values (all meaning given)

-- whether, of two meanings that undo each other, the first comes last
abbrev pub is_last : Meaning → Meaning → List GivenView → Bool
is_last one other given =
    fold (λ was option.
    if means one option then true else if means other option then false else was) false given
