-- The members for GNU's linker, as specifications (docs/FORMATS.md, "Members for GNU's linker").
use Rattle.std.specs.Prelude.{ℕ, ◌+◌, List, [], ◌∷◌, ◌++◌, reverse, if◌then◌else◌}
use Rattle.implib.specs.declared.machine.MachineType.{MachineType}
use Rattle.implib.specs.Definition.{ExportView}
use Rattle.implib.specs.LibraryName.{NamesOfDll}
use Rattle.implib.specs.Members.Gnu.{archive_symbols, export_name, export_object, head_name}
use Rattle.implib.specs.Members.Gnu.{head_object, head_symbol, iname_symbol, tail_name, tail_object}
use Rattle.implib.specs.Members.Gnu.{weak_address_name, weak_name}
use Rattle.implib.specs.Import.{imp_symbol, is_alias}
use Rattle.implib.specs.Members.WeakExternal.{weak_spec}
use Rattle.implib.specs.Formats.Writer.{layout_of}
use Rattle.implib.specs.Members.MemberSpec.{AnObject, MemberSpec}

-- the specification of the tail
unfoldable pub tail_spec : MachineType → NamesOfDll → MemberSpec
tail_spec machine dll = record {
  name = tail_name dll.linked;
  contents = AnObject (layout_of (tail_object machine dll));
  symbols = iname_symbol machine dll.linked ∷ [];
}

-- the specification of the head
unfoldable pub head_spec : MachineType → List ℕ → MemberSpec
head_spec machine dll = record {
  name = head_name dll;
  contents = AnObject (layout_of (head_object machine dll));
  symbols = head_symbol machine dll ∷ [];
}

-- the specification of an export's member
unfoldable pub export_spec : MachineType → List ℕ → ℕ → ExportView → MemberSpec
export_spec machine dll number e = record {
  name = export_name dll number;
  contents = AnObject (layout_of (export_object machine dll e));
  symbols = archive_symbols e;
}

-- the specifications of the weak externals of an export: of its symbol, and of its address
unfoldable pub alias_specs : MachineType → List ℕ → ℕ → ExportView → List MemberSpec
alias_specs machine dll number e =
    if is_alias e.alias_target e.name then
    weak_spec machine (weak_name dll number) e.name e.alias_target
    ∷ weak_spec machine (weak_address_name dll number) (imp_symbol e.name)
    (imp_symbol e.alias_target)
    ∷ []
    else []

-- the specifications of the export of this number, in the order of building
abbrev pub numbered_specs_of : MachineType → List ℕ → ℕ → ExportView → List MemberSpec
numbered_specs_of machine dll number e =
    alias_specs machine dll number e ++ export_spec machine dll number e ∷ []

-- the number of an export's members: its weak externals, and its own
abbrev pub gnu_member_count : ExportView → ℕ
gnu_member_count e = if is_alias e.alias_target e.name then 3 else 1

-- the specifications of exports that are numbered from this number, in the order of building
abbrev pub numbered_specs : MachineType → List ℕ → ℕ → List ExportView → List MemberSpec
numbered_specs machine dll number [] = []
numbered_specs machine dll number (e ∷ exports) =
    numbered_specs_of machine dll number e ++ numbered_specs machine dll (number + 1) exports

-- The tail, the head, and what was built, from the last to the first. For example, for bar and qux
-- in foo.dll: `foo_dll_a_t.o`, `foo_dll_a_h.o`, `foo_dll_a_s00001.o` and `foo_dll_a_s00000.o`.
abbrev pub gnu_specs : MachineType → NamesOfDll → List ExportView → List MemberSpec
gnu_specs machine dll exports =
    tail_spec machine dll ∷ head_spec machine dll.linked
    ∷ reverse (numbered_specs machine dll.linked 0 exports)
