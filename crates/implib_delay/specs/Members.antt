-- The members of a library of delayed imports, each specified before it is encoded.
use Rattle.std.specs.Prelude.{◌≡◌, ℕ, ◌+◌, true, List, [], ◌∷◌, ◌++◌, map, Option, Some, None}
use Rattle.std.specs.Prelude.{if◌then◌else◌}
use Rattle.std.specs.List.{list_all, list_any}
use Rattle.implib.specs.declared.machine.MachineType.{MachineType}
use Rattle.implib.specs.Definition.{DefinitionView, ExportView}
use Rattle.implib.specs.Fault.{MemberTooLong}
use Rattle.implib.specs.Formats.Writer.{layout_of}
use Rattle.implib.specs.Import.{imp_symbol, public_exports}
use Rattle.implib.specs.LibraryName.{NamesOfDll, linked_name}
use Rattle.implib.specs.Members.MemberSpec.{AnObject, MemberSpec, MemberView, member_of}
use Rattle.implib.specs.Members.Members.{has_u16_ordinal, is_too_long}
use Rattle.implib_delay.specs.Names.{export_name, handle_symbol, head_name, name_symbol, tail_name}
use Rattle.implib_delay.specs.Names.{tail_symbol}
use Rattle.implib_delay.specs.Objects.{export_object, head_object, tail_object}
use Rattle.implib_delay.specs.Refusal.{DelayCause, OfNames, first_cause, input_refusal}

-- the specification of the head
unfoldable pub head_spec : MachineType → List ℕ → MemberSpec
head_spec machine library = record {
  name = head_name library;
  contents = AnObject (layout_of (head_object machine library));
  symbols = tail_symbol machine library ∷ handle_symbol library ∷ [];
}

-- the specification of the tail
unfoldable pub tail_spec : MachineType → NamesOfDll → MemberSpec
tail_spec machine dll = record {
  name = tail_name dll.linked;
  contents = AnObject (layout_of (tail_object machine dll));
  symbols = name_symbol dll.linked ∷ [];
}

-- the specification of the member of the export of a number
unfoldable pub export_spec : MachineType → List ℕ → ℕ → ExportView → MemberSpec
export_spec machine library number e = record {
  name = export_name library number;
  contents = AnObject (layout_of (export_object machine library e));
  symbols = e.name ∷ imp_symbol e.name ∷ [];
}

-- the specifications of exports that are numbered from this number
abbrev pub numbered_specs : MachineType → List ℕ → ℕ → List ExportView → List MemberSpec
numbered_specs machine library number [] = []
numbered_specs machine library number (e ∷ exports) =
    (export_spec machine library number e ∷ [])
    ++ numbered_specs machine library (number + 1) exports

-- The exports in order, the head and the tail. For example, for bar and qux in foo.dll:
-- `foo_dll_d_s00000.o`, `foo_dll_d_s00001.o`, `foo_dll_d_h.o` and `foo_dll_d_t.o`.
abbrev pub delayed_specs : MachineType → NamesOfDll → List ExportView → List MemberSpec
delayed_specs machine dll exports =
    numbered_specs machine dll.linked 0 exports
    ++ (head_spec machine dll.linked ∷ tail_spec machine dll ∷ [])

-- the names of a definition's library and of its DLL
abbrev pub names_of : DefinitionView → NamesOfDll
names_of d = record { linked = linked_name d; text = d.import_name }

-- the first rule that refuses a definition: on the input, then on lengths
unfoldable pub delay_refusal : DefinitionView → MachineType → Option DelayCause
delay_refusal d machine =
    first_cause (input_refusal d machine)
    (if list_any is_too_long (delayed_specs machine (names_of d) (public_exports d))
    then Some (OfNames MemberTooLong)
    else None)

-- the members are those of the definition, which is not refused
pub record AreDelayedMembersOf (d : DefinitionView) (machine : MachineType)
    (members : List MemberView) : Type 0 where
  pub accepted : delay_refusal d machine ≡ None
  pub made : members ≡ map member_of (delayed_specs machine (names_of d) (public_exports d))
  pub ordinals : list_all has_u16_ordinal (public_exports d) ≡ true
