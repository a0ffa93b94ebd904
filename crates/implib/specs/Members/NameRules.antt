-- The rules on names: which definitions are refused for a name, and for which cause first.
use Rattle.std.specs.Prelude.{◌≡◌, ℕ, ◌+◌, Bool, ◌&&◌, ◌||◌, not, List, [], ◌∷◌, Option, Some, None}
use Rattle.std.specs.Prelude.{Result, IsErrAnd, bytes_eq, if◌then◌else◌, is_some, unwrap_or}
use Rattle.implib.specs.declared.error.Error.{Error}
use Rattle.implib.specs.declared.flavor.Flavor.{Flavor}
use Rattle.implib.specs.declared.flavor.Flavor.TheVariants.{Msvc, Gnu}
use Rattle.implib.specs.declared.machine.MachineType.{MachineType}
use Rattle.implib.specs.Ascii.{line_feed}
use Rattle.implib.specs.Definition.{DefinitionView, ExportView, given_name}
use Rattle.implib.specs.Fault.{Cause, EmptyImportName, NulInImportName, EmptyName, NulInExport}
use Rattle.implib.specs.Fault.{EmptyAskedName, EmptyLibraryName, LineEndInLibraryName, NoNameType}
use Rattle.implib.specs.Fault.{NulInLibraryName, error_cause}
use Rattle.implib.specs.Import.{holds, is_empty_text, name_asked}
use Rattle.implib.specs.Members.Msvc.{asked_by_short_import}
use Rattle.implib.specs.Renaming.{renamed}

-- the name that an export asks for in a flavour
abbrev pub asked_in : Flavor → MachineType → ExportView → List ℕ
asked_in Msvc machine e = asked_by_short_import machine e
asked_in Gnu machine e = name_asked machine e

-- the name that an export is to ask for: the one that it gives, or else the one that its flavour
-- asks for
abbrev pub name_to_ask : Flavor → MachineType → ExportView → List ℕ
name_to_ask flavor machine e = unwrap_or e.asked_name (asked_in flavor machine e)

-- Whether an export gives a name and its flavour asks for another. For example, a short import of
-- the symbol a never asks for b.
abbrev pub asks_another : Flavor → MachineType → ExportView → Bool
asks_another flavor machine e =
    is_some e.asked_name && not (bytes_eq (asked_in flavor machine e) (given_name e))

-- whether one of an export's texts holds a NUL
abbrev pub holds_nul : ExportView → Bool
holds_nul e =
    holds 0 e.name || holds 0 e.symbol_name || holds 0 e.alias_target || holds 0 (given_name e)

-- The first rule on names that an export breaks. For example, on I386 an export `_` for GNU's
-- linker asks for the empty name, and an export a for Microsoft's linker has no name type to ask
-- for b.
abbrev pub name_refusal : Flavor → MachineType → ℕ → ExportView → Option Cause
name_refusal flavor machine index e =
    if is_empty_text e.name then Some (EmptyName index)
    else if holds_nul e then Some (NulInExport index)
    else if not e.no_name && is_empty_text (name_to_ask flavor machine e)
    then Some (EmptyAskedName index)
    else if not e.no_name && asks_another flavor machine e then Some (NoNameType index)
    else None

-- the first of two answers
abbrev pub first_of_both : Option Cause → Option Cause → Option Cause
first_of_both (Some cause) later = Some cause
first_of_both None later = later

-- the first rule on names that an export breaks, the exports numbered from this index; private ones
-- are skipped
abbrev pub names_refusal : Flavor → MachineType → ℕ → List ExportView → Option Cause
names_refusal flavor machine index [] = None
names_refusal flavor machine index (e ∷ exports) =
    first_of_both (if e.private then None else name_refusal flavor machine index e)
    (names_refusal flavor machine (index + 1) exports)

-- the first rule on the import name that is broken
abbrev pub import_name_refusal : List ℕ → Option Cause
import_name_refusal name =
    if is_empty_text name then Some EmptyImportName
    else if holds 0 name then Some NulInImportName
    else None

-- the first rule on the library's name for the linker that is broken, where there is one; in an
-- archive's table of long names a line feed ends a name
abbrev pub library_name_refusal : Option (List ℕ) → Option Cause
library_name_refusal None = None
library_name_refusal (Some name) =
    if is_empty_text name then Some EmptyLibraryName
    else if holds 0 name then Some NulInLibraryName
    else if holds line_feed name then Some LineEndInLibraryName
    else None

-- the first rule on names that a definition breaks, its exports under their names to link by
abbrev pub definition_names_refusal : DefinitionView → MachineType → Flavor → Option Cause
definition_names_refusal d machine flavor =
    first_of_both (import_name_refusal d.import_name)
    (first_of_both (library_name_refusal d.library_name) (names_refusal flavor machine 0 d.exports))

-- where a rule on names refuses the definition, the answer is that refusal, whatever memory there
-- is
abbrev pub RefusesAlways : {T : Type 0} → DefinitionView → MachineType → Flavor → Result T Error →
    Type 0
RefusesAlways d machine flavor result =
    (cause : Cause) → definition_names_refusal (renamed d) machine flavor ≡ Some cause →
    IsErrAnd result (λ error. error_cause error ≡ Some cause)
