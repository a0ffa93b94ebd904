-- What the imports of a library, or of a definition, come to in a DLL (this project's choice;
-- docs/CHECK.md, "Beside a DLL").
use Rattle.std.specs.Prelude.{◌≡◌, ◌⊎◌, ℕ, All, Bool, true, false, ◌||◌, List, [], ◌∷◌, Err, None, Ok}
use Rattle.std.specs.Prelude.{Option, Some, codes, if◌then◌else◌, is_some, nat_eq, unwrap_or}
use Rattle.std.specs.List.{list_any, starts_with}
use Rattle.implib.specs.Conversions.{machine_numbered}
use Rattle.implib.specs.declared.flavor.Flavor.TheVariants.{Gnu, Msvc}
use Rattle.implib.specs.declared.machine.MachineType.TheVariants.{AMD64}
use Rattle.implib_compare.specs.Comparison.{has_unread}
use Rattle.implib_compare.specs.Meant.{IsLibraryFor, IsRefusalFor}
use Rattle.implib_dll.specs.Exports.{Exports, exports_in}
use Rattle.implib_dll.specs.Outcome.{Read}
use Rattle.implib_dll.specs.declared.section.Layout.TheVariants.{File}
use Rattle.implib_compare.specs.DllCheck.DllName.{loader_name}
use Rattle.implib_compare.specs.DllCheck.Forwarding.{Content, End, Known, ends, is_stop, is_unknown}
use Rattle.implib_compare.specs.DllCheck.Forwarding.{known_in}
use Rattle.implib_compare.specs.DllCheck.Imports.{is_import, is_lost, judgements}
use Rattle.implib_compare.specs.declared.dll_check.import.Judgement.{Judgement}
use Rattle.implib_read.specs.Archives.{Archive, archive_in}
use Rattle.implib_read.specs.Classes.{MemberRead, library_in, members_read}
use Rattle.implib_rules.specs.Additions.{no_additions}
use Rattle.implib_rules.specs.Library.{is_out_of_memory}
use Rattle.implib_rules.specs.Names.{last_part}
use Rattle.implib_rules.specs.Options.{LibraryOptionsView}
use Rattle.implib_rules.specs.declared.library.Refusal.{Refusal}
use Rattle.implib_check_driver.specs.Answer.{AnswerView, IsRefusedAs, no_library, saying}
use Rattle.implib_check_driver.specs.Calls.{CheckView}
use Rattle.implib_check_driver.specs.Exported.{IsNoDll}
use Rattle.implib_check_driver.specs.Through.{Through, ends_through}

-- whether bytes begin as an image does (PE/COFF specification, "MS-DOS Stub (Image Only)"), and as
-- an archive, or a thin one
abbrev pub begins_dll : List ℕ → Bool
begins_dll bytes = starts_with nat_eq bytes (codes "MZ")

abbrev pub is_library : List ℕ → Bool
is_library bytes = starts_with nat_eq bytes (codes "!<arch>\n")

abbrev pub begins_archive : List ℕ → Bool
begins_archive bytes = is_library bytes || starts_with nat_eq bytes (codes "!<thin>\n")

-- The names by which loaders know a DLL: the one that a call gives, or else that of its file.
abbrev pub names_of : Option (List ℕ) → List ℕ → List (List ℕ)
names_of given path = loader_name (last_part (unwrap_or given path)) ∷ []

-- The status of what imports come to: 1 where one is lost, 4 where a member may import what is not
-- read, and 1 where there is no import.
abbrev pub against_status : List Judgement → Bool → ℕ
against_status found unread =
    if list_any is_lost found then 1 else if unread then 4 else if list_any is_import found then 0
    else 1

-- The same of what they come to, and where forwarders lead: 1 where one leads to nothing.
abbrev pub held_status : List Judgement → List (Option End) → Bool → ℕ
held_status found ends unread = if list_any is_stop ends then 1 else against_status found unread

-- The answer for members in a DLL, by where forwarders lead: its status.
abbrev pub IsHeldAs : Exports → List (List ℕ) → List MemberRead → List (Option End) →
    AnswerView → Type 0
IsHeldAs e names members ends a =
    a.status ≡ held_status (judgements e names members) ends (has_unread members)

-- Some DLLs are known, as they are in the folders, and by them a forwarder leads to one more.
pub record LeadFurther (content : List ℕ → Content) (e : Exports) (names : List (List ℕ))
    (members : List MemberRead) : Type 0 where
  pub known : List Known
  pub right : All (λ (d : Known). d.content ≡ content d.name) known
  pub further : list_any is_unknown
      (ends (record { exports = e; names = names; others = known_in known }) members) ≡ true

-- The answer for members in a DLL that loaders know by these names, and through it in others, if
-- forwarders are followed: 4 where the DLLs that they lead through are too many to be read.
abbrev pub IsHeldThrough : Through → List ℕ → Exports → List (List ℕ) → List MemberRead →
    AnswerView → Type 0
IsHeldThrough None path e names members a = IsHeldAs e names members [] a
IsHeldThrough (Some content) path e names members a =
    (LeadFurther content e names members
    × (a ≡ saying 4 path (codes "forwarders lead through too many DLLs")))
    ⊎ IsHeldAs e names members (ends_through content e names members) a

-- the same of the names by which a call knows the DLL
abbrev pub IsAgainst : Through → CheckView → Exports → List MemberRead → AnswerView → Type 0
IsAgainst others check e members a =
    IsHeldThrough others check.definition e (names_of check.dll check.definition) members a

-- whether a call has an option that a definition alone is read by
abbrev pub has_options : CheckView → Bool
has_options c =
    is_some c.machine || (is_some c.native || (is_some c.flavor || (c.older_symbols
    || (c.naming.is_plain
    || (c.naming.kills_at || (c.naming.exports_as || c.naming.keeps_decorated))))))

-- the answer for members in the DLL that bytes are read as
abbrev pub IsMembersIn : Through → CheckView → List MemberRead → Read (Option Exports) →
    AnswerView → Type 0
IsMembersIn others check members (Ok (Some e)) a =
    IsAgainst others check e members a
IsMembersIn others check members (Ok None) a = IsNoDll check.definition (Ok None) a
IsMembersIn others check members (Err fault) a = IsNoDll check.definition (Err fault) a

-- For which machine and linker a definition is read that is held against a DLL: the machine and the
-- flavour that the call names, else the DLL's machine, if libraries are made for it, and
-- Microsoft's flavour, or GNU's where older symbols are asked for.
abbrev pub options_against : CheckView → Exports → LibraryOptionsView
options_against c e = record {
  machine = unwrap_or c.machine (unwrap_or (machine_numbered e.machine) AMD64);
  flavor = unwrap_or c.flavor (if c.older_symbols then Gnu else Msvc);
  dll = c.dll;
  naming = c.naming;
  additions = no_additions;
}

-- The answer for a definition in a DLL: of a library that it has for these options, as that is
-- read.
pub record IsHeld (others : Through) (check : CheckView) (e : Exports) (definition : List ℕ)
    (a : AnswerView) : Type 0 where
  pub file : List ℕ
  pub is_library : IsLibraryFor check.older_symbols definition (options_against check e) file
  pub meant : List MemberRead
  pub read : library_in file ≡ Some meant
  pub is : IsAgainst others check e meant a

-- the answer for a definition that is refused
pub record IsRefused (check : CheckView) (e : Exports) (definition : List ℕ)
    (a : AnswerView) : Type 0 where
  pub why : Refusal
  pub is_refusal : IsRefusalFor check.older_symbols definition (options_against check e) why
  pub has_memory : is_out_of_memory why ≡ false
  pub is : IsRefusedAs 1 a

-- The answer for a definition beside the DLL of a file's bytes.
abbrev pub DefinitionAgainst : Through → CheckView → List ℕ → Read (Option Exports) →
    AnswerView → Type 0
DefinitionAgainst others check definition (Ok (Some e)) a =
    IsHeld others check e definition a ⊎ IsRefused check e definition a
DefinitionAgainst others check definition (Ok None) a = IsNoDll check.definition (Ok None) a
DefinitionAgainst others check definition (Err fault) a = IsNoDll check.definition (Err fault) a

-- what is said of the options of a definition
abbrev pub options_text : List ℕ
options_text = codes "a library has no need of the options of a definition beside a DLL"

-- The answer for the library of a file's bytes, if they are one, beside the DLL of another's.
abbrev pub IsArchiveAgainst : Through → CheckView → Option Archive → List ℕ → List ℕ →
    AnswerView → Type 0
IsArchiveAgainst others check None library dll a = a ≡ no_library check.library library
IsArchiveAgainst others check (Some archive) library dll a =
    IsMembersIn others check (members_read archive.members) (exports_in File dll) a

-- The same: 2 where the call has options of definitions.
abbrev pub LibraryAgainst : Through → CheckView → List ℕ → List ℕ → AnswerView → Type 0
LibraryAgainst others check library dll a =
    (has_options check ≡ true → a ≡ saying 2 check.library options_text)
    × (has_options check ≡ false →
    IsArchiveAgainst others check (archive_in library) library dll a)
