-- What is asked for by the imports that are made of a DLL passes.
use Rattle.std.proofs.Common.{◌≡◌, ℕ, true, false, List, ap, ◌∙◌, refl}
use Rattle.std.specs.Prelude.{bytes_eq}
use Rattle.std.specs.Option.{option_map_or}
use Rattle.std.proofs.lemmas.List.Elements.{All-weaker}
use Rattle.implib.proofs.Members.GnuReadings.{same_bytes}
use Rattle.implib.specs.Import.{Ask, Name, Ordinal}
use Rattle.implib_dll.specs.Exports.{Exports}
use Rattle.implib_libraries.proofs.FromDll.Found.{asks_are_found}
use Rattle.implib_libraries.specs.FromDll.Laws.{IsFoundAtOnce, asks_of}
use Rattle.implib_compare.specs.DllCheck.Laws.{OwnAsksPass, Passes}

bytes_eq-itself : (bytes : List ℕ) → bytes_eq bytes bytes ≡ true
bytes_eq-itself bytes = same_bytes bytes

passes : (e : Exports) (ask : Ask) → IsFoundAtOnce e ask → Passes e ask
passes e (Ordinal ordinal) found = record { found = λ is_data. found.is_found; at_once = λ is_data. refl }
passes e (Name name hint) found = record {
  found = λ is_data. found.is_found;
  at_once = λ is_data. ap (λ text. option_map_or (λ t. bytes_eq t name) text false) found.at_once ∙ bytes_eq-itself name;
}

pub own_asks_pass : OwnAsksPass
own_asks_pass e fits = All-weaker (IsFoundAtOnce e) (Passes e) (passes e) (asks_of e) (asks_are_found e fits)
