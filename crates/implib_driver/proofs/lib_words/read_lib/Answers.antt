use Rattle.std.proofs.Common.{◌∙◌, List, Ok, ℕ, ap, map, subst, sym}
use Rattle.std.specs.Option.{option_map}
use Rattle.std.specs.String.{string_bytes}
use Rattle.implib_driver.specs.LibWords.{IsReadAsLib, lack_of, lacking, whole, wrong}
use Rattle.implib_driver.proofs.lib_words.read_lib.Goals as goal
use Rattle.implib_options.specs.declared.table.Words.TheVariants.{Lib}
use Rattle.implib_options.specs.declared.words.ReadError.{ReadError}
use Rattle.implib_options.specs.declared.words.ReadError.TheVariants.{OutOfMemory, Refused}
use Rattle.implib_options.specs.Given.{given_view}
use Rattle.implib_options.specs.Saying.{fault_view}
use Rattle.implib_options.specs.Words.{IsRead, IsRefusal}

-- words that no option is spelled by are refused for that
refused : (words : List (List ℕ)) (error : ReadError) → IsRefusal (IsRead Lib words) error → IsRefusal (IsReadAsLib words) error
refused words (Refused fault) is = wrong (fault_view fault) is
refused words OutOfMemory is = tt

pub returns-in-Some-clause-refused : goal.returns-in-Some-clause-refused
returns-in-Some-clause-refused c =
    lacking (map given_view c.in-Ok.given.items) (fault_view c.in-Some.fault) c.in-Ok.ensures.ok
    (ap (λ g. lack_of (map given_view g)) (sym c.deref.ensures.value) ∙ sym c.in_ok-fault-in-Ok.ensures ∙ ap (option_map fault_view) c.in-Some.is)

pub returns-in_ok-push_ways-in-Ok-clause-ok : goal.returns-in_ok-push_ways-in-Ok-clause-ok
returns-in_ok-push_ways-in-Ok-clause-ok c =
    subst (λ g. IsReadAsLib (map string_bytes c.args.words.now) (Ok g)) (sym c.in_ok-push_ways-in-Ok.ensures)
    (whole (map given_view c.in-Ok.given.items) c.in-Ok.ensures.ok
    (ap (λ g. lack_of (map given_view g)) (sym c.deref.ensures.value) ∙ sym c.in_ok-fault-in-Ok.ensures ∙ ap (option_map fault_view) c.in_default.is))

pub returns-in-Err-clause-refused : goal.returns-in-Err-clause-refused
returns-in-Err-clause-refused c = refused (map string_bytes c.args.words.now) c.in-Err.error c.in-Err.ensures.refused
