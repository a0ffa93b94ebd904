-- The members for Microsoft's linker, as specifications (docs/FORMATS.md, "Members for Microsoft's
-- linker").
use Rattle.std.specs.Prelude.{ℕ, List, [], ◌∷◌, ◌++◌, if◌then◌else◌}
use Rattle.implib.specs.declared.machine.MachineType.{MachineType}
use Rattle.implib.specs.Definition.{ExportView}
use Rattle.implib.specs.LibraryName.{NamesOfDll}
use Rattle.implib.specs.Import.{imp_symbol, is_alias}
use Rattle.implib.specs.Members.Msvc.{short_import_of, short_import_symbols, short_import_symbol}
use Rattle.implib.specs.Members.MsvcObjects.{descriptor, descriptor_symbol, null_descriptor}
use Rattle.implib.specs.Members.MsvcObjects.{null_descriptor_symbol, null_thunk, null_thunk_symbol}
use Rattle.implib.specs.Members.WeakExternal.{weak_spec}
use Rattle.implib.specs.Members.MemberSpec.{AShortImport, AnObject, MemberSpec}

-- the specification of the import descriptor
unfoldable pub descriptor_spec : MachineType → NamesOfDll → MemberSpec
descriptor_spec machine dll = record {
  name = dll.linked;
  contents = AnObject (descriptor machine dll);
  symbols = descriptor_symbol dll.linked ∷ [];
}

-- the specification of the null descriptor
unfoldable pub null_descriptor_spec : MachineType → List ℕ → MemberSpec
null_descriptor_spec machine dll = record {
  name = dll;
  contents = AnObject (null_descriptor machine);
  symbols = null_descriptor_symbol ∷ [];
}

-- the specification of the null thunk
unfoldable pub null_thunk_spec : MachineType → List ℕ → MemberSpec
null_thunk_spec machine dll = record {
  name = dll;
  contents = AnObject (null_thunk machine dll);
  symbols = null_thunk_symbol dll ∷ [];
}

-- the header members: import descriptor, null descriptor, null thunk
unfoldable pub header_specs : MachineType → NamesOfDll → List MemberSpec
header_specs machine dll =
    descriptor_spec machine dll ∷ null_descriptor_spec machine dll.linked
    ∷ null_thunk_spec machine dll.linked ∷ []

-- the specification of the weak external of an export's symbol
abbrev pub weak_symbol_spec : MachineType → List ℕ → ExportView → MemberSpec
weak_symbol_spec machine dll e = weak_spec machine dll (short_import_symbol e) e.alias_target

-- the specification of the weak external of the symbol of its address
abbrev pub weak_address_spec : MachineType → List ℕ → ExportView → MemberSpec
weak_address_spec machine dll e =
    weak_spec machine dll (imp_symbol (short_import_symbol e)) (imp_symbol e.alias_target)

-- the specifications of the weak externals of an export: of its symbol, and of its address
unfoldable pub weak_specs : MachineType → List ℕ → ExportView → List MemberSpec
weak_specs machine dll e =
    if is_alias e.alias_target (short_import_symbol e) then
    weak_symbol_spec machine dll e ∷ weak_address_spec machine dll e ∷ []
    else []

-- the specification of an export's short import
abbrev pub short_import_spec : MachineType → NamesOfDll → ExportView → MemberSpec
short_import_spec machine dll e = record {
  name = dll.linked;
  contents = AShortImport (short_import_of machine dll.text e);
  symbols = short_import_symbols e;
}

-- the number of an export's members: its weak externals, and its short import
abbrev pub member_count : ExportView → ℕ
member_count e = if is_alias e.alias_target (short_import_symbol e) then 3 else 1

-- the specifications of an export
abbrev pub export_specs : MachineType → NamesOfDll → ExportView → List MemberSpec
export_specs machine dll e = weak_specs machine dll.linked e ++ short_import_spec machine dll e ∷ []
