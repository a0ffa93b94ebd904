-- The answers of calls for members and for their archive.
use Rattle.std.proofs.Common.{arith, ◌≡◌, ℕ, List, Some, Result}
use Rattle.std.specs.Str.{IsUtf8}
use Rattle.implib.specs.declared.machine.MachineType.{MachineType}
use Rattle.implib.specs.declared.flavor.Flavor.{Flavor}
use Rattle.implib.specs.Conversions.{machine_numbered}
use Rattle.implib.specs.Members.MemberSpec.{MemberView}
use Rattle.implib.specs.Members.OfText.{MembersOf}
use Rattle.implib_c_calls.specs.declared.outcome.Failure.{Failure}
use Rattle.implib_c_calls.specs.declared.outcome.Failure.TheVariants as failure
use Rattle.implib_c_calls.specs.Answer.{Answers, HasMembers, LacksMembers, OnTextFault, WithInput, flavor_numbered}
use Rattle.implib_c_calls.specs.Given.{IsOutOfMemory, PacksInto, PutsInto, length_given, place_given, status_given}
use Rattle.implib_c_calls.specs.Library.{LacksLibrary, LibraryAnswers, kind_of_flavor}
use Rattle.implib_c_calls.specs.Status.{status_number}
use Rattle.implib_c_calls.proofs.Answer.{lacks_archive, leaves_put}
use Rattle.implib_c_calls.proofs.ReadBack.{members_back}

module _ (text : List ℕ) (machine flavor : ℕ) {m : MachineType} {f : Flavor} (machine_is : machine_numbered machine ≡ Some m) (flavor_is : flavor_numbered flavor ≡ Some f) (utf8 : IsUtf8 text) where
  with_input : {P : MachineType → Flavor → Type 0} → P m f → WithInput text machine flavor P
  with_input holds = record { machine_found = m; flavor_found = f; machine_is = machine_is; flavor_is = flavor_is; utf8 = utf8; holds = holds }

  -- the text is refused, or memory was
  pub lacks_by_text : (why : Failure) → OnTextFault text m f why → LacksMembers text machine flavor why
  lacks_by_text failure.OutOfMemory lacks = with_input tt
  lacks_by_text (failure.SyntaxError fault offset) lacks = with_input lacks
  lacks_by_text (failure.Refused fault) lacks = with_input lacks
  lacks_by_text why lacks = absurd lacks

-- without members there is no archive
pub lacks_library : (text : List ℕ) (machine flavor : ℕ) (why : Failure) → LacksMembers text machine flavor why → LacksLibrary text machine flavor why
lacks_library text machine flavor (failure.NoArchive fault) lacks = absurd lacks
lacks_library text machine flavor why lacks = lacks

module _ {text : List ℕ} {machine flavor : ℕ} {f : Flavor} {members : List MemberView} (has : HasMembers text machine flavor f members) where
  has_with : {P : MachineType → Flavor → Type 0} → (MembersOf text has.machine_found has.flavor_found members → P has.machine_found has.flavor_found) → WithInput text machine flavor P
  has_with holds = grind arith

  without_memory : (why : Failure) → IsOutOfMemory why → LacksMembers text machine flavor why
  without_memory failure.OutOfMemory is = has_with (λ made. tt)
  without_memory why is = absurd is

  -- they are put into the buffer, or not
  pub members_put : {old : List ℕ} (new : List ℕ) (result : Result ℕ Failure) → PutsInto members old new result
      → Answers text machine flavor old new (length_given result) (place_given result) (status_number (status_given result))
  members_put = grind (arith, leaves_put, has_with, members_back, without_memory)

  -- their archive is put into the buffer, or not
  pub members_packed : {old : List ℕ} (new : List ℕ) (result : Result ℕ Failure) → PacksInto (kind_of_flavor f) members old new result
      → LibraryAnswers text machine flavor old new (length_given result) (place_given result) (status_number (status_given result))
  members_packed = grind (arith, leaves_put, has_with, lacks_archive)
