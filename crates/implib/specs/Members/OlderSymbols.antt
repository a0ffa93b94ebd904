-- The members for GNU's linker where the object of each export has an older symbol of its address
-- beside that of today (docs/FORMATS.md, "Older symbols").
use Rattle.std.specs.Prelude.{◌≡◌, ℕ, ◌+◌, true, List, [], ◌∷◌, ◌++◌, Option, None, Some, codes}
use Rattle.std.specs.Prelude.{drop, if◌then◌else◌, length, map, reverse}
use Rattle.std.specs.List.{filter_map, flat_map, list_all}
use Rattle.std.specs.Option.{option_and_then, option_map}
use Rattle.implib.specs.declared.coff.object.Place.TheVariants.{Undefined, Section}
use Rattle.implib.specs.declared.flavor.Flavor.TheVariants.{Gnu}
use Rattle.implib.specs.declared.machine.MachineType.{MachineType}
use Rattle.implib.specs.Definition.{DefinitionView, ExportView}
use Rattle.implib.specs.Fault.{Cause}
use Rattle.implib.specs.Formats.Constants.{class_external, class_static}
use Rattle.implib.specs.Formats.File.{AnAlias, AnImport, File, Meaning, declared_by, file_in}
use Rattle.implib.specs.Formats.Writer.{AddedSymbol, WriterState, layout_of}
use Rattle.implib.specs.Import.{Import, aliases_for, expected_import, imp_symbol, public_exports}
use Rattle.implib.specs.LibraryName.{NamesOfDll, names_for}
use Rattle.implib.specs.Members.Gnu.{added, archive_symbols, code_symbol, export_name}
use Rattle.implib.specs.Members.Gnu.{export_sections, head_symbol}
use Rattle.implib.specs.Members.GnuMembers.{alias_specs, head_spec, tail_spec}
use Rattle.implib.specs.Members.GnuReader.{code_of_export, meaning_with}
use Rattle.implib.specs.Members.Members.{has_u16_ordinal, length_refusal}
use Rattle.implib.specs.Members.MemberSpec.{AnObject, MemberSpec, MemberView, file_size, member_of}
use Rattle.implib.specs.Members.NameRules.{definition_names_refusal, first_of_both}
use Rattle.implib.specs.Members.ReadBack.{expected_code, file_at, file_of}
use Rattle.implib.specs.Renaming.{renamed}

-- The older symbol of an export's address. For example, `___impbar` of bar, and `___imp_bar` of
-- `_bar`.
abbrev pub older_symbol : List ℕ → List ℕ
older_symbol name = codes "___imp" ++ name

-- the object of an export with these symbols
abbrev pub object_with : MachineType → ExportView → List AddedSymbol → WriterState
object_with machine e symbols =
    record { machine = machine; sections = export_sections machine e; symbols = symbols }

-- its symbols, by the descriptor's: at the address there are two
abbrev pub older_symbols : List ℕ → ExportView → List AddedSymbol
older_symbols head e =
    added head Undefined class_external  -- 0
    ∷ (code_symbol e  -- 1; not for data
    ++ added (imp_symbol e.name) (Section 5) class_external  -- 2; for data 1
    ∷ added (codes ".idata$6") (Section 7) class_static  -- 3; for data 2
    ∷ added (older_symbol e.name) (Section 5) class_external  -- 4; for data 3
    ∷ [])

-- The object of an export. For example, that of bar of foo.dll has 502 bytes on AMD64.
unfoldable pub older_object : MachineType → List ℕ → ExportView → WriterState
older_object machine dll e = object_with machine e (older_symbols (head_symbol machine dll) e)

-- its archive symbols
abbrev pub older_archive_symbols : ExportView → List (List ℕ)
older_archive_symbols e = archive_symbols e ++ older_symbol e.name ∷ []

-- the specification of an export's member
unfoldable pub older_spec : MachineType → List ℕ → ℕ → ExportView → MemberSpec
older_spec machine dll number e = record {
  name = export_name dll number;
  contents = AnObject (layout_of (older_object machine dll e));
  symbols = older_archive_symbols e;
}

-- the specifications of the export of this number, in the order of building
abbrev pub older_specs_of : MachineType → List ℕ → ℕ → ExportView → List MemberSpec
older_specs_of machine dll number e =
    alias_specs machine dll number e ++ older_spec machine dll number e ∷ []

-- the specifications of exports that are numbered from this number, in the order of building
abbrev pub numbered_older_specs : MachineType → List ℕ → ℕ → List ExportView → List MemberSpec
numbered_older_specs machine dll number [] = []
numbered_older_specs machine dll number (e ∷ exports) =
    older_specs_of machine dll number e ++ numbered_older_specs machine dll (number + 1) exports

-- the tail, the head, and what was built, from the last to the first
abbrev pub older_gnu_specs : MachineType → NamesOfDll → List ExportView → List MemberSpec
older_gnu_specs machine dll exports =
    tail_spec machine dll ∷ head_spec machine dll.linked
    ∷ reverse (numbered_older_specs machine dll.linked 0 exports)

-- the members of a definition whose exports are under their names to link by
abbrev pub older_specs : DefinitionView → MachineType → List MemberSpec
older_specs d machine = older_gnu_specs machine (names_for Gnu d) (public_exports d)

-- the first rule that such a definition breaks: on names, or on lengths
unfoldable pub older_renamed_refusal : DefinitionView → MachineType → Option Cause
older_renamed_refusal d machine =
    first_of_both (definition_names_refusal d machine Gnu) (length_refusal (older_specs d machine))

-- the first rule that refuses a definition
unfoldable pub older_refusal : DefinitionView → MachineType → Option Cause
older_refusal d machine = older_renamed_refusal (renamed d) machine

-- the members are those of the definition, which is not refused
pub record AreOlderMembersOf (d : DefinitionView) (machine : MachineType)
    (members : List MemberView) : Type 0 where
  pub accepted : older_refusal d machine ≡ None
  pub made : members ≡ map member_of (older_specs (renamed d) machine)
  pub ordinals : list_all has_u16_ordinal (public_exports (renamed d)) ≡ true

-- the import of an export, which these symbols declare: beside that of today, the older one of its
-- address
abbrev pub older_import : MachineType → List ℕ → ExportView → Import
older_import machine dll e = record (expected_import machine dll e) {
  declared = imp_symbol e.name ∷ older_symbol e.name ∷ (if e.is_data then [] else e.name ∷ []);
}

-- what an export's members mean: its aliases, then its import
abbrev pub older_meanings : MachineType → List ℕ → ExportView → List Meaning
older_meanings machine dll e =
    map AnAlias (aliases_for e.name e.alias_target) ++ AnImport (older_import machine dll e) ∷ []

-- What the members are read as; the first is the tail, the second the head. Nothing is imported
-- that is not imported without older symbols.
pub record OlderReadBack (d : DefinitionView) (machine : MachineType)
    (members : List MemberView) : Type 0 where
  -- each file reads as specified
  pub files : map (λ m. file_in m.bytes) members
      ≡ map (λ p. Some (file_of p.contents)) (older_specs (renamed d) machine)
  -- each file has the specified length
  pub lengths : map (λ m. length m.bytes) members
      ≡ map (λ p. file_size p.contents) (older_specs (renamed d) machine)
  -- each member declares exactly its archive symbols
  pub declared : map (λ m. option_map declared_by (file_in m.bytes)) members
      ≡ map (λ m. Some m.symbols) members
  pub tail : File
  pub head : File
  pub tail_read : file_at members 0 ≡ Some tail
  pub head_read : file_at members 1 ≡ Some head
  -- the members after these two, read backwards: export by export, its aliases and its import
  pub meanings : map (λ m. option_and_then (meaning_with head tail) (file_in m.bytes))
      (reverse (drop 2 members))
      ≡ map Some (flat_map (older_meanings machine d.import_name) (public_exports (renamed d)))
  -- the code of each export is relocated as its machine's stub, to the address of that export by
  -- its symbol of today
  pub code : filter_map (λ m. option_and_then code_of_export (file_in m.bytes))
      (reverse (drop 2 members))
      ≡ map (expected_code machine) (public_exports (renamed d))
