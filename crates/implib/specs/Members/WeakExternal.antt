-- The object of a weak external, for both flavours (docs/FORMATS.md, "Weak externals"; PE/COFF
-- specification, "Auxiliary Format 3: Weak Externals").
use Rattle.std.specs.Prelude.{ℕ, ◌+◌, List, [], ◌∷◌, ◌++◌, Some, codes}
use Rattle.implib.specs.declared.machine.MachineType.{MachineType}
use Rattle.implib.specs.Formats.Bytes.{u32_bytes}
use Rattle.implib.specs.Formats.Constants.{lnk_info, lnk_remove, class_external, class_static}
use Rattle.implib.specs.Formats.Constants.{class_weak_external, section_undefined, section_absolute}
use Rattle.implib.specs.Formats.Constants.{weak_search_alias}
use Rattle.implib.specs.Machine.{machine_number}
use Rattle.implib.specs.Formats.Object.{ObjectSection}
use Rattle.implib.specs.Formats.Layout.{symbol, ObjectLayout, LayoutSymbol, InRecord, InStringTable}
use Rattle.implib.specs.Members.ImportTables.{zeros}
use Rattle.implib.specs.Members.MemberSpec.{AnObject, MemberSpec}

-- The auxiliary record of a weak external: the index of the symbol that replaces it, the
-- characteristics, and ten bytes without a use. For example, for the symbol 2: `02 00 00 00 03 00
-- 00 00` and ten zeros.
abbrev pub weak_auxiliary : ℕ → List ℕ
weak_auxiliary index = u32_bytes index ++ (u32_bytes weak_search_alias ++ zeros 10)

-- the section of a weak external, without data
abbrev pub weak_section : ObjectSection
weak_section = record {
  name = codes ".drectve";
  flags = lnk_info + lnk_remove;  -- 0xA00
  bytes = [];
  relocations = [];
}

-- the symbols of a weak external: of the two names in the string table, the second is weak for the
-- first
abbrev pub weak_symbols : List LayoutSymbol
weak_symbols =
    symbol (InRecord (codes "@comp.id")) section_absolute class_static  -- 0
    ∷ symbol (InRecord (codes "@feat.00")) section_absolute class_static  -- 1
    ∷ symbol (InStringTable 0) section_undefined class_external  -- 2: the target
    -- 3: the weak symbol; 4: its auxiliary record
    ∷ record {
      name = InStringTable 1;
      value = 0;
      section = section_undefined;
      class = class_weak_external;
      aux = Some (weak_auxiliary 2);
    }
    ∷ []

-- The object that makes one symbol weak for another. For example, that of foo for baz has 162
-- bytes.
unfoldable pub weak_object : MachineType → List ℕ → List ℕ → ObjectLayout
weak_object machine weak target = record {
  machine = machine_number machine;
  characteristics = 0;
  sections = weak_section ∷ [];
  symbols = weak_symbols;
  strings = target ∷ weak ∷ [];
}

-- the specification of its member, under this name; its archive symbol is the weak one
abbrev pub weak_spec : MachineType → List ℕ → List ℕ → List ℕ → MemberSpec
weak_spec machine name weak target = record {
  name = name;
  contents = AnObject (weak_object machine weak target);
  symbols = weak ∷ [];
}
