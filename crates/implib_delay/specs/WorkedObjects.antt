-- Objects of delayed imports worked by hand: those of foo.dll with all their numbers, on both
-- machines, the names of their members, and definitions that are refused.
use Rattle.std.specs.Prelude.{◌≡◌, ℕ, List, [], ◌∷◌, ◌++◌, Some, codes, true}
use Rattle.implib.specs.declared.machine.MachineType.TheVariants.{I386, ARMNT, AMD64, ARM64}
use Rattle.implib.specs.Definition.{DefinitionView, ExportView, empty_definition, empty_export}
use Rattle.implib.specs.Fault.{NulInExport}
use Rattle.implib.specs.Formats.Layout.{InRecord, InStringTable, ObjectLayout}
use Rattle.implib.specs.Formats.Writer.{layout_of}
use Rattle.implib.specs.LibraryName.{own_names}
use Rattle.implib.specs.Worked.Digits.{hex}
use Rattle.implib.specs.Worked.Machines.{at}
use Rattle.implib.specs.Worked.Objects.{section, symbol, zeros}
use Rattle.implib_delay.specs.Names.{export_name, head_name, tail_name}
use Rattle.implib_delay.specs.Objects.{export_object, head_object, tail_object}
use Rattle.implib_delay.specs.Refusal.{IsAlias, NoMachine, OfNames, input_refusal}

-- the head of foo.dll on AMD64
unfoldable pub head64 : ObjectLayout
head64 = record {
  machine = 0x8664;
  characteristics = 0;
  sections =
      section (codes ".text" ++ zeros 3) 0x60500020 (hex "48 81 ec 88 00 00 00 48 89 8c 24 90 00 00 00 48 89 94 24 98 00 00 00 4c 89 84 24 a0 00 00 00 4c 89 8c 24 a8 00 00 00 0f 29 44 24 20 0f 29 4c 24 30 0f 29 54 24 40 0f 29 5c 24 50 0f 29 64 24 60 0f 29 6c 24 70 48 89 c2 4c 89 d9 e8 00 00 00 00 48 8b 8c 24 90 00 00 00 48 8b 94 24 98 00 00 00 4c 8b 84 24 a0 00 00 00 4c 8b 8c 24 a8 00 00 00 0f 28 44 24 20 0f 28 4c 24 30 0f 28 54 24 40 0f 28 5c 24 50 0f 28 64 24 60 0f 28 6c 24 70 48 81 c4 88 00 00 00 ff e0") (at 76 2 4 ∷ [])
      ∷ section (codes ".data" ++ zeros 3) 0xC0400040 (zeros 8) []
      ∷ section (codes ".xdata" ++ zeros 2) 0x40300040 (hex "01 07 02 00 07 01 11 00") []
      ∷ section (codes ".pdata" ++ zeros 2) 0x40300040 (hex "00 00 00 00 97 00 00 00 00 00 00 00")
      (at 0 3 3 ∷ at 4 3 3 ∷ at 8 4 3 ∷ [])
      ∷ [];
  symbols =
      symbol (InStringTable 0) 1 2
      ∷ symbol (InStringTable 1) 2 2
      ∷ symbol (InStringTable 2) 0 2
      ∷ symbol (InRecord (codes ".text")) 1 3
      ∷ symbol (InRecord (codes ".xdata")) 3 3
      ∷ [];
  strings = codes "__tailMerge_foo_dll" ∷ codes "__DLL_HANDLE_foo_dll" ∷ codes "__delayLoadHelper2"
      ∷ [];
}

-- its tail
unfoldable pub tail64 : ObjectLayout
tail64 = record {
  machine = 0x8664;
  characteristics = 0;
  sections =
      section (codes ".didat$4") 0xC0400040 (zeros 8) []
      ∷ section (codes ".didat$5") 0xC0400040 (zeros 8) []
      ∷ section (codes ".didat$7") 0xC0300040 (codes "foo.dll" ++ zeros 1) []
      ∷ [];
  symbols =
      symbol (InStringTable 0) 3 2
      ∷ [];
  strings = codes "__foo_dll_iname" ∷ [];
}

-- bar with the hint 258
unfoldable pub by_name64 : ObjectLayout
by_name64 = record {
  machine = 0x8664;
  characteristics = 0;
  sections =
      section (codes ".text" ++ zeros 3) 0x60300020 (hex "ff 25 00 00 00 00 48 8d 05 00 00 00 00 4c 8d 1d 00 00 00 00 e9 00 00 00 00") (at 2 8 4 ∷ at 9 8 4 ∷ at 16 6 4 ∷ at 21 2 4 ∷ [])
      ∷ section (codes ".didat$2") 0xC0300040 (1 ∷ zeros 31)
      (at 4 3 3 ∷ at 8 4 3 ∷ at 12 8 3 ∷ at 16 7 3 ∷ [])
      ∷ section (codes ".didat$5") 0xC0400040 (6 ∷ zeros 7) (at 0 5 1 ∷ [])
      ∷ section (codes ".didat$4") 0xC0400040 (zeros 8) (at 0 9 3 ∷ [])
      ∷ section (codes ".didat$6") 0xC0300040 (hex "02 01 62 61 72 00") []
      ∷ [];
  symbols =
      symbol (InRecord (codes "bar")) 1 2
      ∷ symbol (InStringTable 0) 3 2
      ∷ symbol (InStringTable 1) 0 2
      ∷ symbol (InStringTable 2) 0 2
      ∷ symbol (InStringTable 3) 0 2
      ∷ symbol (InRecord (codes ".text")) 1 3
      ∷ symbol (InRecord (codes ".didat$2")) 2 3
      ∷ symbol (InRecord (codes ".didat$4")) 4 3
      ∷ symbol (InRecord (codes ".didat$5")) 3 3
      ∷ symbol (InRecord (codes ".didat$6")) 5 3
      ∷ [];
  strings = codes "__imp_bar" ∷ codes "__tailMerge_foo_dll" ∷ codes "__foo_dll_iname"
      ∷ codes "__DLL_HANDLE_foo_dll" ∷ [];
}

-- the ordinal 258 under the same name
unfoldable pub by_ordinal64 : ObjectLayout
by_ordinal64 = record {
  machine = 0x8664;
  characteristics = 0;
  sections =
      section (codes ".text" ++ zeros 3) 0x60300020 (hex "ff 25 00 00 00 00 48 8d 05 00 00 00 00 4c 8d 1d 00 00 00 00 e9 00 00 00 00") (at 2 8 4 ∷ at 9 8 4 ∷ at 16 6 4 ∷ at 21 2 4 ∷ [])
      ∷ section (codes ".didat$2") 0xC0300040 (1 ∷ zeros 31)
      (at 4 3 3 ∷ at 8 4 3 ∷ at 12 8 3 ∷ at 16 7 3 ∷ [])
      ∷ section (codes ".didat$5") 0xC0400040 (6 ∷ zeros 7) (at 0 5 1 ∷ [])
      ∷ section (codes ".didat$4") 0xC0400040 (hex "02 01 00 00 00 00 00 80") []
      ∷ section (codes ".didat$6") 0xC0300040 [] []
      ∷ [];
  symbols =
      symbol (InRecord (codes "bar")) 1 2
      ∷ symbol (InStringTable 0) 3 2
      ∷ symbol (InStringTable 1) 0 2
      ∷ symbol (InStringTable 2) 0 2
      ∷ symbol (InStringTable 3) 0 2
      ∷ symbol (InRecord (codes ".text")) 1 3
      ∷ symbol (InRecord (codes ".didat$2")) 2 3
      ∷ symbol (InRecord (codes ".didat$4")) 4 3
      ∷ symbol (InRecord (codes ".didat$5")) 3 3
      ∷ symbol (InRecord (codes ".didat$6")) 5 3
      ∷ [];
  strings = codes "__imp_bar" ∷ codes "__tailMerge_foo_dll" ∷ codes "__foo_dll_iname"
      ∷ codes "__DLL_HANDLE_foo_dll" ∷ [];
}

-- the head of foo.dll on I386
unfoldable pub head32 : ObjectLayout
head32 = record {
  machine = 0x14C;
  characteristics = 0;
  sections =
      section (codes ".text" ++ zeros 3) 0x60500020 (hex "51 52 50 ff 74 24 0c e8 00 00 00 00 5a 59 83 c4 04 ff e0") (at 8 2 20 ∷ [])
      ∷ section (codes ".data" ++ zeros 3) 0xC0300040 (zeros 4) []
      ∷ [];
  symbols =
      symbol (InStringTable 0) 1 2
      ∷ symbol (InStringTable 1) 2 2
      ∷ symbol (InStringTable 2) 0 2
      ∷ [];
  strings = codes "___tailMerge_foo_dll" ∷ codes "__DLL_HANDLE_foo_dll"
      ∷ codes "___delayLoadHelper2@8" ∷ [];
}

-- its tail
unfoldable pub tail32 : ObjectLayout
tail32 = record {
  machine = 0x14C;
  characteristics = 0;
  sections =
      section (codes ".didat$4") 0xC0300040 (zeros 4) []
      ∷ section (codes ".didat$5") 0xC0300040 (zeros 4) []
      ∷ section (codes ".didat$7") 0xC0300040 (codes "foo.dll" ++ zeros 1) []
      ∷ [];
  symbols =
      symbol (InStringTable 0) 3 2
      ∷ [];
  strings = codes "__foo_dll_iname" ∷ [];
}

-- bar with the hint 258
unfoldable pub by_name32 : ObjectLayout
by_name32 = record {
  machine = 0x14C;
  characteristics = 0;
  sections =
      section (codes ".text" ++ zeros 3) 0x60300020 (hex "ff 25 00 00 00 00 b8 00 00 00 00 68 00 00 00 00 e9 00 00 00 00") (at 2 8 6 ∷ at 7 8 6 ∷ at 12 6 6 ∷ at 17 2 20 ∷ [])
      ∷ section (codes ".didat$2") 0xC0300040 (1 ∷ zeros 31)
      (at 4 3 7 ∷ at 8 4 7 ∷ at 12 8 7 ∷ at 16 7 7 ∷ [])
      ∷ section (codes ".didat$5") 0xC0300040 (6 ∷ zeros 3) (at 0 5 6 ∷ [])
      ∷ section (codes ".didat$4") 0xC0300040 (zeros 4) (at 0 9 7 ∷ [])
      ∷ section (codes ".didat$6") 0xC0300040 (hex "02 01 62 61 72 00") []
      ∷ [];
  symbols =
      symbol (InRecord (codes "_bar")) 1 2
      ∷ symbol (InStringTable 0) 3 2
      ∷ symbol (InStringTable 1) 0 2
      ∷ symbol (InStringTable 2) 0 2
      ∷ symbol (InStringTable 3) 0 2
      ∷ symbol (InRecord (codes ".text")) 1 3
      ∷ symbol (InRecord (codes ".didat$2")) 2 3
      ∷ symbol (InRecord (codes ".didat$4")) 4 3
      ∷ symbol (InRecord (codes ".didat$5")) 3 3
      ∷ symbol (InRecord (codes ".didat$6")) 5 3
      ∷ [];
  strings = codes "__imp__bar" ∷ codes "___tailMerge_foo_dll" ∷ codes "__foo_dll_iname"
      ∷ codes "__DLL_HANDLE_foo_dll" ∷ [];
}

-- the ordinal 258 under the same name
unfoldable pub by_ordinal32 : ObjectLayout
by_ordinal32 = record {
  machine = 0x14C;
  characteristics = 0;
  sections =
      section (codes ".text" ++ zeros 3) 0x60300020 (hex "ff 25 00 00 00 00 b8 00 00 00 00 68 00 00 00 00 e9 00 00 00 00") (at 2 8 6 ∷ at 7 8 6 ∷ at 12 6 6 ∷ at 17 2 20 ∷ [])
      ∷ section (codes ".didat$2") 0xC0300040 (1 ∷ zeros 31)
      (at 4 3 7 ∷ at 8 4 7 ∷ at 12 8 7 ∷ at 16 7 7 ∷ [])
      ∷ section (codes ".didat$5") 0xC0300040 (6 ∷ zeros 3) (at 0 5 6 ∷ [])
      ∷ section (codes ".didat$4") 0xC0300040 (hex "02 01 00 80") []
      ∷ section (codes ".didat$6") 0xC0300040 [] []
      ∷ [];
  symbols =
      symbol (InRecord (codes "_bar")) 1 2
      ∷ symbol (InStringTable 0) 3 2
      ∷ symbol (InStringTable 1) 0 2
      ∷ symbol (InStringTable 2) 0 2
      ∷ symbol (InStringTable 3) 0 2
      ∷ symbol (InRecord (codes ".text")) 1 3
      ∷ symbol (InRecord (codes ".didat$2")) 2 3
      ∷ symbol (InRecord (codes ".didat$4")) 4 3
      ∷ symbol (InRecord (codes ".didat$5")) 3 3
      ∷ symbol (InRecord (codes ".didat$6")) 5 3
      ∷ [];
  strings = codes "__imp__bar" ∷ codes "___tailMerge_foo_dll" ∷ codes "__foo_dll_iname"
      ∷ codes "__DLL_HANDLE_foo_dll" ∷ [];
}

-- an export of a name, with the number 258
abbrev pub numbered : List ℕ → ExportView
numbered name = record empty_export { name = name; ordinal = 258 }

-- the same by ordinal
abbrev pub nameless : List ℕ → ExportView
nameless name = record empty_export { name = name; ordinal = 258; no_name = true }

-- the objects of foo.dll
pub record WorkedObjects : Type 0 where
  pub head_on_amd64 : layout_of (head_object AMD64 (codes "foo.dll")) ≡ head64
  pub head_on_i386 : layout_of (head_object I386 (codes "foo.dll")) ≡ head32
  pub tail_on_amd64 : layout_of (tail_object AMD64 (own_names (codes "foo.dll"))) ≡ tail64
  pub tail_on_i386 : layout_of (tail_object I386 (own_names (codes "foo.dll"))) ≡ tail32
  pub name_on_amd64 : layout_of (export_object AMD64 (codes "foo.dll") (numbered (codes "bar")))
      ≡ by_name64
  pub name_on_i386 : layout_of (export_object I386 (codes "foo.dll") (numbered (codes "_bar")))
      ≡ by_name32
  pub ordinal_on_amd64 : layout_of (export_object AMD64 (codes "foo.dll") (nameless (codes "bar")))
      ≡ by_ordinal64
  pub ordinal_on_i386 : layout_of (export_object I386 (codes "foo.dll") (nameless (codes "_bar")))
      ≡ by_ordinal32

-- the names of the members of foo.dll
pub record WorkedNames : Type 0 where
  pub head : head_name (codes "foo.dll") ≡ codes "foo_dll_d_h.o"
  pub tail : tail_name (codes "foo.dll") ≡ codes "foo_dll_d_t.o"
  pub first : export_name (codes "foo.dll") 0 ≡ codes "foo_dll_d_s00000.o"
  pub later : export_name (codes "foo.dll") 100000 ≡ codes "foo_dll_d_s100000.o"

-- a definition of a DLL
abbrev pub of_dll : List ℕ → List ExportView → DefinitionView
of_dll name exports = record empty_definition { import_name = name; exports = exports }

-- what is refused first
pub record WorkedRefusals : Type 0 where
  pub arm64 : input_refusal (of_dll (codes "foo.dll") []) ARM64 ≡ Some NoMachine
  pub armnt : input_refusal (of_dll [] []) ARMNT ≡ Some NoMachine
  pub nul : input_refusal (of_dll (codes "foo.dll") (numbered (0x61 ∷ 0 ∷ []) ∷ [])) AMD64
      ≡ Some (OfNames (NulInExport 0))
  pub alias : input_refusal
      (of_dll (codes "foo.dll")
      (record empty_export { name = codes "e"; alias_target = codes "f" } ∷ [])) AMD64
      ≡ Some (IsAlias 0)
