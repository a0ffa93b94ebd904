-- Where the forwarders of a DLL lead, in the DLLs of some folders (this project's choice;
-- docs/CHECK.md, "Beside a DLL").
use Rattle.std.specs.Prelude.{◌≡◌, ℕ, true, List, [], None, Option, Some, if◌then◌else◌}
use Rattle.implib_dll.specs.Exports.{Exports}
use Rattle.implib_compare.specs.DllCheck.Folders.{AreKnown, Listing, content_at}
use Rattle.implib_compare.specs.DllCheck.Forwarding.{Content, End, ends}
use Rattle.implib_read.specs.Classes.{MemberRead}
use Rattle.implib_check_driver.specs.Calls.{CheckView, is_searching}

-- What there is of DLLs by their loader's names, where forwarders are followed.
abbrev pub Through : Type 0
Through = Option (List ℕ → Content)

abbrev pub through : (List ℕ → List ℕ) → List Listing → CheckView → Through
through file folders check = if is_searching check then Some (content_at file folders) else None

-- Where the forwarders lead that members come to in a DLL, through others.
abbrev pub ends_through : (List ℕ → Content) → Exports → List (List ℕ) → List MemberRead →
    List (Option End)
ends_through content e names members =
    ends (record { exports = e; names = names; others = λ name. Some (content name) }) members

-- the bytes of files, and the names in folders, are known where forwarders are followed
pub record AreKnownFor (seen : List ℕ → Option (List ℕ)) (listed : List ℕ → Option (List (List ℕ)))
    (check : CheckView) (file : List ℕ → List ℕ) (names : List ℕ → List (List ℕ)) : Type 0 where
  pub files : is_searching check ≡ true → AreKnown seen file
  pub folders : is_searching check ≡ true → AreKnown listed names
