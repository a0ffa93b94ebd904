-- Imports whose short import has the name that the DLL is asked for as a third text, of name type 4
-- (export as), as llvm-dlltool writes them since its version 18; and the members for Microsoft's
-- linker with such imports.
use Rattle.std.specs.Prelude.{◌≡◌, ℕ, ◌+◌, ◌*◌, ◌==◌, Bool, ◌&&◌, ◌||◌, nat_le, List, [], ◌∷◌, ◌++◌}
use Rattle.std.specs.Prelude.{Option, None, Some, drop, if◌then◌else◌, map, take}
use Rattle.std.specs.List.{flat_map}
use Rattle.implib.specs.declared.flavor.Flavor.{Flavor}
use Rattle.implib.specs.declared.flavor.Flavor.TheVariants.{Msvc, Gnu}
use Rattle.implib.specs.declared.machine.MachineType.{MachineType}
use Rattle.implib.specs.Definition.{DefinitionView, ExportView}
use Rattle.implib.specs.Fault.{Cause}
use Rattle.implib.specs.Formats.Object.{u16_at}
use Rattle.implib.specs.Formats.ShortImport.{ShortImport, import_data, is_short_import}
use Rattle.implib.specs.Formats.ShortImport.{short_import_header_size, text_in}
use Rattle.implib.specs.Import.{Import, Name, import_symbols, is_empty_text, public_exports}
use Rattle.implib.specs.LibraryName.{NamesOfDll, names_for}
use Rattle.implib.specs.Members.MemberLists.{alias_specs, all_import_specs, has_code, is_weak}
use Rattle.implib.specs.Members.Members.{AreMembersOf, length_refusal, refusal}
use Rattle.implib.specs.Members.MemberSpec.{AShortImport, MemberSpec, MemberView, member_of}
use Rattle.implib.specs.Members.Msvc.{short_import_of, short_import_symbols, symbol_or_name}
use Rattle.implib.specs.Members.MsvcMembers.{header_specs}
use Rattle.implib.specs.Members.NameRules.{first_of_both}
use Rattle.implib.specs.Members.ReadBack.{ReadBack}
use Rattle.implib.specs.Renaming.{renamed_export}
use Rattle.implib_rules.specs.Linked.{NamingView, has_target, makes, word_of}
use Rattle.implib_rules.specs.Order.{library_specs}

-- the name type of a short import with a third text ("Import Name Type", IMPORT_NAME_EXPORTAS)
abbrev pub import_name_export_as : ℕ
import_name_export_as = 4

-- the symbol of an export's short import
abbrev pub symbol_made : ExportView → List ℕ
symbol_made e = symbol_or_name e.symbol_name (word_of e)

-- a name, unless it is empty or on the machine another name type makes it of the symbol
abbrev pub name_apart : MachineType → List ℕ → Option (List ℕ) → Option (List ℕ)
name_apart machine symbol None = None
name_apart machine symbol (Some name) =
    if is_empty_text name || makes machine symbol name then None else Some name

-- The name that an export, as it is linked, has as the third text of its short import, if it has
-- one: it is public, by name and no alias, and no other name type makes the name of its symbol. For
-- example, of a, which asks for b, it is b.
abbrev pub exported_name : MachineType → ExportView → Option (List ℕ)
exported_name machine e =
    if e.private || (e.no_name || has_target e) then None
    else name_apart machine (symbol_made e) e.asked_name

-- an export with such a name as an alias of that name, which has weak externals where its short
-- import is to be
abbrev pub kept_by : Option (List ℕ) → ExportView → ExportView
kept_by None e = e
kept_by (Some name) e = record e { alias_target = name; asked_name = Some (symbol_made e) }

abbrev pub kept : MachineType → ExportView → ExportView
kept machine e = kept_by (exported_name machine e) e

-- a definition with such exports as aliases
abbrev pub kept_definition : MachineType → DefinitionView → DefinitionView
kept_definition machine d = record d { exports = map (kept machine) d.exports }

-- the short import of an export with a third text, which follows the NUL of the DLL's name
abbrev pub export_as_import : MachineType → List ℕ → ExportView → List ℕ → ShortImport
export_as_import machine dll e name = record (short_import_of machine dll e) {
  name_type = import_name_export_as;
  dll = dll ++ 0 ∷ name;
}

-- its specification
abbrev pub export_as_spec : MachineType → NamesOfDll → ExportView → List ℕ → MemberSpec
export_as_spec machine dll e name = record {
  name = dll.linked;
  contents = AShortImport (export_as_import machine dll.text e name);
  symbols = short_import_symbols e;
}

-- the specification of the short import of an export that has such a name
abbrev pub export_as_specs_by : MachineType → NamesOfDll → ExportView → Option (List ℕ) →
    List MemberSpec
export_as_specs_by machine dll e None = []
export_as_specs_by machine dll e (Some name) = export_as_spec machine dll e name ∷ []

abbrev pub export_as_specs : MachineType → NamesOfDll → ExportView → List MemberSpec
export_as_specs machine dll e = export_as_specs_by machine dll e (exported_name machine e)

-- the specifications of what an export has after all imports: a short import with a third text, or
-- the weak externals of an alias
abbrev pub later_specs_by : MachineType → NamesOfDll → ExportView → Option (List ℕ) →
    List MemberSpec
later_specs_by machine dll e None = alias_specs machine dll.linked e
later_specs_by machine dll e (Some name) = export_as_spec machine dll e name ∷ []

abbrev pub later_specs : MachineType → NamesOfDll → ExportView → List MemberSpec
later_specs machine dll e = later_specs_by machine dll e (exported_name machine e)

-- the short imports with a third text of a definition, in the order of its exports
abbrev pub all_export_as_specs : MachineType → DefinitionView → List MemberSpec
all_export_as_specs machine d =
    flat_map (export_as_specs machine (names_for Msvc d)) (public_exports d)

-- The members for Microsoft's linker: those of the DLL, the short imports of the exports that other
-- name types serve, in their order, and last, in the order of theirs, what the others have.
abbrev pub export_as_library : MachineType → DefinitionView → List MemberSpec
export_as_library machine d =
    header_specs machine (names_for Msvc d)
    ++ (all_import_specs machine (kept_definition machine d)
    ++ flat_map (later_specs machine (names_for Msvc d)) (public_exports d))

-- the first rule that refuses a definition whose exports may have a third text: one on names, or on
-- lengths
abbrev pub export_as_refusal : DefinitionView → MachineType → Option Cause
export_as_refusal d machine =
    first_of_both (refusal (kept_definition machine d) machine Msvc)
    (length_refusal (all_export_as_specs machine d))

-- The members are those of a definition whose exports may have a third text, in order.
pub record IsExportAsLibrary (d : DefinitionView) (machine : MachineType)
    (members : List MemberView) : Type 0 where
  -- no short import with a third text is too long
  pub fit : length_refusal (all_export_as_specs machine d) ≡ None
  -- all members of the definition with aliases in their place, which is not refused
  pub all : List MemberView
  pub made : AreMembersOf (kept_definition machine d) machine Msvc all
  pub reads : ReadBack (kept_definition machine d) machine Msvc all
  -- those of the library
  pub is : members ≡ map member_of (export_as_library machine d)

-- the definition whose members are made for a flavour: an export with a third text is an alias
-- there
abbrev pub definition_made : NamingView → MachineType → Flavor → DefinitionView → DefinitionView
definition_made naming machine Msvc d = if naming.exports_as then kept_definition machine d else d
definition_made naming machine Gnu d = d

-- the members of the library of a definition
abbrev pub specs_made : NamingView → MachineType → Flavor → DefinitionView → List MemberSpec
specs_made naming machine Msvc d =
    if naming.exports_as then export_as_library machine d else library_specs d machine Msvc
specs_made naming machine Gnu d = library_specs d machine Gnu

-- the first rule that refuses the definition
abbrev pub refusal_made : NamingView → MachineType → Flavor → DefinitionView → Option Cause
refusal_made naming machine Msvc d =
    if naming.exports_as then export_as_refusal d machine else refusal d machine Msvc
refusal_made naming machine Gnu d = refusal d machine Gnu

-- the members of a library, in order
pub record AreMadeFor (naming : NamingView) (d : DefinitionView) (machine : MachineType)
    (flavor : Flavor) (members : List MemberView) : Type 0 where
  -- the definition is not refused
  pub accepted : refusal_made naming machine flavor d ≡ None
  -- all members of the definition that is made
  pub all : List MemberView
  pub made : AreMembersOf (definition_made naming machine flavor d) machine flavor all
  pub reads : ReadBack (definition_made naming machine flavor d) machine flavor all
  -- those of the library
  pub is : members ≡ map member_of (specs_made naming machine flavor d)

-- Reading a short import with a third text, by its bytes alone.

-- what is read of one
pub record ExportAsRead : Type 0 where
  pub machine : ℕ
  pub symbol : List ℕ
  pub import : Import

-- the import in a header and its texts, where nothing follows the third
abbrev pub export_as_of : List ℕ → List ℕ → List ℕ → Option (List ℕ × List ℕ) → Option ExportAsRead
export_as_of bytes symbol dll None = None
export_as_of bytes symbol dll (Some (name, byte ∷ rest)) = None
export_as_of bytes symbol dll (Some (name, [])) = Some record {
  machine = u16_at bytes 6;
  symbol = symbol;
  import = record {
    dll = dll;
    declared = import_symbols (u16_at bytes 18 == 4 * 4 + import_data) symbol;
    ask = Name name (u16_at bytes 16);
  };
}

abbrev pub export_as_after_dll : List ℕ → List ℕ → Option (List ℕ × List ℕ) → Option ExportAsRead
export_as_after_dll bytes symbol None = None
export_as_after_dll bytes symbol (Some (dll, rest)) = export_as_of bytes symbol dll (text_in rest)

abbrev pub export_as_after_symbol : List ℕ → Option (List ℕ × List ℕ) → Option ExportAsRead
export_as_after_symbol bytes None = None
export_as_after_symbol bytes (Some (symbol, rest)) = export_as_after_dll bytes symbol (text_in rest)

-- The import that these bytes are: a header of 20 bytes of a short import, whose types' number is
-- 16, 17 or 18, and three texts with a NUL each. For example,
-- `00 00 ff ff 00 00 64 86 00 00 00 00 0c 00 00 00 00 00 10 00`, `a`, NUL, `foo.dll`, NUL, `b` and
-- NUL: a of foo.dll, which asks for b.
abbrev pub export_as_in : List ℕ → Option ExportAsRead
export_as_in bytes =
    if is_short_import bytes && nat_le 16 (u16_at bytes 18) && nat_le (u16_at bytes 18) 18
    then export_as_after_symbol bytes (text_in (drop short_import_header_size bytes)) else None

-- Views of what the program puts in order.

-- what an export has after all imports: one weak external, or two, or a short import in their place
pub record LaterView : Type 0 where
  -- there is a weak external of the symbol beside that of its address
  pub has_code : Bool
  pub instead : Option MemberView

-- what an export has, if it is an alias or has a third text
abbrev pub later_by : MachineType → NamesOfDll → ExportView → Option (List ℕ) → List LaterView
later_by machine dll e None =
    if is_weak e then record { has_code = has_code e; instead = None } ∷ [] else []
later_by machine dll e (Some name) =
    record { has_code = has_code e; instead = Some (member_of (export_as_spec machine dll e name)) }
    ∷ []

abbrev pub later_of : MachineType → NamesOfDll → ExportView → List LaterView
later_of machine dll e = later_by machine dll e (exported_name machine e)

-- the same of an export under whichever name, which is passed over if it is private
abbrev pub later_unless_private : MachineType → NamesOfDll → ExportView → List LaterView
later_unless_private machine dll e =
    if e.private then [] else later_of machine dll (renamed_export e)

-- the specification of the short import with a third text of an export, under whichever name,
-- unless it is private
abbrev pub export_as_unless_private : MachineType → NamesOfDll → ExportView → List MemberSpec
export_as_unless_private machine dll e =
    if e.private then [] else export_as_specs machine dll (renamed_export e)

-- how many weak externals there are
abbrev pub weak_externals : LaterView → ℕ
weak_externals l = if l.has_code then 2 else 1

-- the next of the weak externals, or a short import in their place
abbrev pub placed_one : LaterView → List MemberView → Option MemberView → List MemberView
placed_one l aliases None = take (weak_externals l) aliases
placed_one l aliases (Some member) = member ∷ []

-- the members that come after all imports
abbrev pub placed : List LaterView → List MemberView → List MemberView
placed [] aliases = []
placed (l ∷ laters) aliases =
    placed_one l aliases l.instead ++ placed laters (drop (weak_externals l) aliases)
