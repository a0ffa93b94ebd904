-- A null descriptor whose symbol is named after its library (this project's option; rustc's writer
-- of import libraries has the same form). Under the usual symbol all libraries define one name,
-- which a link of whole archives takes for a repeated definition.
use Rattle.std.specs.Prelude.{ℕ, List, [], ◌∷◌, ◌++◌, codes}
use Rattle.implib.specs.declared.coff.object.Place.TheVariants.{Section, Undefined}
use Rattle.implib.specs.declared.machine.MachineType.{MachineType}
use Rattle.implib.specs.Formats.Constants.{class_external, class_section, class_static}
use Rattle.implib.specs.Formats.Writer.{AddedSymbol, WriterState, layout_of}
use Rattle.implib.specs.LibraryName.{NamesOfDll}
use Rattle.implib.specs.Members.Gnu.{added}
use Rattle.implib.specs.Members.MemberSpec.{AnObject, MemberSpec}
use Rattle.implib.specs.Members.MsvcObjects.{base_name, descriptor_sections, descriptor_symbol}
use Rattle.implib.specs.Members.MsvcObjects.{null_descriptor_section, null_thunk_symbol}

-- The symbol. For example, `__NULL_IMPORT_DESCRIPTOR_foo` of foo.dll.
unfoldable pub named_null_symbol : List ℕ → List ℕ
named_null_symbol library = codes "__NULL_IMPORT_DESCRIPTOR_" ++ base_name library

-- the symbols of the import descriptor: its own, those of its sections, the null descriptor's and
-- the null thunk's
abbrev pub descriptor_symbols : List ℕ → List ℕ → List ℕ → List AddedSymbol
descriptor_symbols own null null_thunk =
    added own (Section 1) class_external  -- 0
    ∷ added (codes ".idata$2") (Section 1) class_section  -- 1
    ∷ added (codes ".idata$6") (Section 2) class_static  -- 2
    ∷ added (codes ".idata$4") Undefined class_section  -- 3
    ∷ added (codes ".idata$5") Undefined class_section  -- 4
    ∷ added null Undefined class_external  -- 5
    ∷ added null_thunk Undefined class_external  -- 6
    ∷ []

-- the import descriptor, which leaves that symbol to the null descriptor
unfoldable pub named_descriptor : MachineType → NamesOfDll → WriterState
named_descriptor machine dll = record {
  machine = machine;
  sections = descriptor_sections machine dll.text;
  symbols = descriptor_symbols (descriptor_symbol dll.linked) (named_null_symbol dll.linked)
      (null_thunk_symbol dll.linked);
}

-- the null descriptor, which defines it
unfoldable pub named_null : MachineType → List ℕ → WriterState
named_null machine library = record {
  machine = machine;
  sections = null_descriptor_section ∷ [];
  symbols = added (named_null_symbol library) (Section 1) class_external ∷ [];
}

-- the two members, in the place of the library's first two
unfoldable pub named_descriptor_spec : MachineType → NamesOfDll → MemberSpec
named_descriptor_spec machine dll = record {
  name = dll.linked;
  contents = AnObject (layout_of (named_descriptor machine dll));
  symbols = descriptor_symbol dll.linked ∷ [];
}

unfoldable pub named_null_spec : MachineType → List ℕ → MemberSpec
named_null_spec machine library = record {
  name = library;
  contents = AnObject (layout_of (named_null machine library));
  symbols = named_null_symbol library ∷ [];
}

abbrev pub named_specs : MachineType → NamesOfDll → List MemberSpec
named_specs machine dll =
    named_descriptor_spec machine dll ∷ named_null_spec machine dll.linked ∷ []
