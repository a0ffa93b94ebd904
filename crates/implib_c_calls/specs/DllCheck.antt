-- What the members of a library come to in a DLL, member by member, and what of its exports none
-- asks for; how that is encoded for C, and how an encoding is read (this project's choice). What an
-- import comes to is `implib_compare`'s.
use Rattle.std.specs.Prelude.{ℕ, ◌<◌, ◌^◌, All, List, [], ◌∷◌, ◌++◌, Option}
use Rattle.std.specs.Prelude.{if◌then◌else◌, map}
use Rattle.implib.specs.Import.{is_empty_text}
use Rattle.implib_dll.specs.Exports.{Exports}
use Rattle.implib_compare.specs.DllCheck.DllName.{loader_name}
use Rattle.implib_compare.specs.DllCheck.Imports.{asks_in, judgements}
use Rattle.implib_compare.specs.DllCheck.Missing.{missing}
use Rattle.implib_compare.specs.declared.dll_check.import.Judgement.{Judgement}
use Rattle.implib_compare.specs.declared.dll_check.import.Judgement.TheVariants.{Lost, NoImport, Reached}
use Rattle.implib_compare.specs.declared.dll_check.import.Judgement.TheVariants.{Searched}
use Rattle.implib_compare.specs.declared.dll_check.import.Loss.{Loss}
use Rattle.implib_compare.specs.declared.dll_check.import.Loss.TheVariants.{DataAsFunction, NotFound}
use Rattle.implib_compare.specs.declared.dll_check.import.Loss.TheVariants.{OtherDll, OtherMachine}
use Rattle.implib_read.specs.Classes.{MemberRead}
use Rattle.implib_c_calls.specs.Encoding.{encoded_list, encoded_number, found, list_in}
use Rattle.implib_c_calls.specs.Encoding.{number_in, then_in}

-- What is told: of each member the number of what it comes to; and the exports that no import asks
-- for, each by its index in the export address table.
pub record DllTold : Type 0 where
  pub members : List ℕ
  pub unasked : List ℕ

-- the number of why an import is lost
abbrev pub loss_number : Loss → ℕ
loss_number OtherDll = 3
loss_number OtherMachine = 4
loss_number NotFound = 5
loss_number DataAsFunction = 6

-- the number of what a member comes to
abbrev pub judgement_number : Judgement → ℕ
judgement_number NoImport = 0
judgement_number Reached = 1
judgement_number Searched = 2
judgement_number (Lost loss) = loss_number loss

-- the name that a DLL has: the given one, or where that is empty the one in its export directory
abbrev pub name_given : List ℕ → Exports → List ℕ
name_given name e = if is_empty_text name then e.dll else name

-- the names by which loaders know it: one
abbrev pub names_given : List ℕ → Exports → List (List ℕ)
names_given name e = loader_name (name_given name e) ∷ []

-- What is told of the members of a library beside a DLL of this name.
abbrev pub dll_told : Exports → List ℕ → List MemberRead → DllTold
dll_told e name members = record {
  members = map judgement_number (judgements e (names_given name e) members);
  unasked = missing e (asks_in (names_given name e) members);
}

-- What is written: the two lists.
unfoldable pub encoded_dll_told : DllTold → List ℕ
encoded_dll_told t = encoded_list encoded_number t.members ++ encoded_list encoded_number t.unasked

-- How it is read: what is told at the front of a buffer, and what follows it.
unfoldable pub dll_told_in : List ℕ → Option (DllTold × List ℕ)
dll_told_in =
    then_in (list_in number_in)
    (λ members. then_in (list_in number_in)
    (λ unasked. found (record { members = members; unasked = unasked })))

-- the numbers have 64 bits
pub record DllToldFits (t : DllTold) : Type 0 where
  pub members : All (λ n. n < 2 ^ 64) t.members
  pub unasked : All (λ n. n < 2 ^ 64) t.unasked
