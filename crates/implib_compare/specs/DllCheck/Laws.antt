-- What the imports that are made of a DLL come to.
use Rattle.std.specs.Prelude.{◌≡◌, ℕ, Bool, true, false, List, All, Option, Some}
use Rattle.std.specs.List.{list_any}
use Rattle.std.specs.Option.{is_some}
use Rattle.implib.specs.Import.{Ask}
use Rattle.implib_dll.specs.Exports.{Exports}
use Rattle.implib_libraries.specs.FromDll.Laws.{Fits, asks_of}
use Rattle.implib_compare.specs.DllCheck.Forwarding.{Beside, Content, ends, is_unknown}
use Rattle.implib_compare.specs.DllCheck.Verdict.{verdict_of}
use Rattle.implib_read.specs.Classes.{MemberRead}

-- an ask is found, and without a search
pub record Passes (e : Exports) (ask : Ask) : Type 0 where
  pub found : (is_data : Bool) → is_some (verdict_of e ask is_data).target ≡ true
  pub at_once : (is_data : Bool) → (verdict_of e ask is_data).at_once ≡ true

-- What is asked for by the imports that are made of a DLL is found there, and without a search.
abbrev pub OwnAsksPass : Type 0
OwnAsksPass = (e : Exports) → Fits e → All (Passes e) (asks_of e)

-- More is known of DLLs: what is known of one stays.
abbrev pub Extends : (List ℕ → Option Content) → (List ℕ → Option Content) → Type 0
Extends known more =
    (name : List ℕ) (content : Content) → known name ≡ Some content → more name ≡ Some content

-- Where enough is known of other DLLs, so that each forwarder of the members leads to an end,
-- nothing that is known besides changes where they lead.
abbrev pub KnownDllsDecide : Type 0
KnownDllsDecide = (b : Beside) (more : List ℕ → Option Content) (members : List MemberRead)
    → Extends b.others more → list_any is_unknown (ends b members) ≡ false
    → ends (record b { others = more }) members ≡ ends b members
