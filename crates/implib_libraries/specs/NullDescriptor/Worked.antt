-- The two objects worked by hand, with all their numbers: of foo.dll on AMD64, of bar.exe on I386
-- and of a.drv, whose ending stays, on ARM64.
use Rattle.std.specs.Prelude.{◌≡◌, ℕ, List, [], ◌∷◌, ◌++◌, codes}
use Rattle.implib.specs.declared.machine.MachineType.TheVariants.{I386, AMD64, ARM64}
use Rattle.implib.specs.Formats.Layout.{InRecord, InStringTable, LayoutSymbol, ObjectLayout}
use Rattle.implib.specs.Formats.Writer.{layout_of}
use Rattle.implib.specs.LibraryName.{own_names}
use Rattle.implib.specs.Worked.Machines.{at}
use Rattle.implib.specs.Worked.Objects.{section, symbol, zeros}
use Rattle.implib_libraries.specs.NullDescriptor.Named.{named_descriptor, named_descriptor_spec, named_null}
use Rattle.implib_libraries.specs.NullDescriptor.Named.{named_null_spec}

-- the symbols of an import descriptor
abbrev pub symbols : List LayoutSymbol
symbols =
    symbol (InStringTable 0) 1 2
    ∷ symbol (InRecord (codes ".idata$2")) 1 104
    ∷ symbol (InRecord (codes ".idata$6")) 2 3
    ∷ symbol (InRecord (codes ".idata$4")) 0 104
    ∷ symbol (InRecord (codes ".idata$5")) 0 104
    ∷ symbol (InStringTable 1) 0 2
    ∷ symbol (InStringTable 2) 0 2
    ∷ []

unfoldable pub descriptor_on_amd64 : ObjectLayout
descriptor_on_amd64 = record {
  machine = 0x8664;
  characteristics = 0;
  sections =
      section (codes ".idata$2") 0xC0300040 (zeros 20) (at 12 2 3 ∷ at 0 3 3 ∷ at 16 4 3 ∷ [])
      ∷ section (codes ".idata$6") 0xC0200040 (codes "foo.dll" ++ zeros 1) []
      ∷ [];
  symbols = symbols;
  strings =
      codes "__IMPORT_DESCRIPTOR_foo" ∷ codes "__NULL_IMPORT_DESCRIPTOR_foo"
      ∷ (0x7F ∷ codes "foo_NULL_THUNK_DATA") ∷ [];
}

unfoldable pub descriptor_on_i386 : ObjectLayout
descriptor_on_i386 = record {
  machine = 0x14C;
  characteristics = 0;
  sections =
      section (codes ".idata$2") 0xC0300040 (zeros 20) (at 12 2 7 ∷ at 0 3 7 ∷ at 16 4 7 ∷ [])
      ∷ section (codes ".idata$6") 0xC0200040 (codes "bar.exe" ++ zeros 1) []
      ∷ [];
  symbols = symbols;
  strings =
      codes "__IMPORT_DESCRIPTOR_bar" ∷ codes "__NULL_IMPORT_DESCRIPTOR_bar"
      ∷ (0x7F ∷ codes "bar_NULL_THUNK_DATA") ∷ [];
}

-- a null descriptor with this symbol
abbrev pub null_on : ℕ → List ℕ → ObjectLayout
null_on machine name = record {
  machine = machine;
  characteristics = 0;
  sections = section (codes ".idata$3") 0xC0300040 (zeros 20) [] ∷ [];
  symbols = symbol (InStringTable 0) 1 2 ∷ [];
  strings = name ∷ [];
}

-- what was worked
pub record WorkedHeaders : Type 0 where
  pub descriptor_on_amd64 : layout_of (named_descriptor AMD64 (own_names (codes "foo.dll")))
      ≡ descriptor_on_amd64
  pub descriptor_on_i386 : layout_of (named_descriptor I386 (own_names (codes "bar.exe")))
      ≡ descriptor_on_i386
  pub null_on_amd64 : layout_of (named_null AMD64 (codes "foo.dll"))
      ≡ null_on 0x8664 (codes "__NULL_IMPORT_DESCRIPTOR_foo")
  pub null_on_i386 : layout_of (named_null I386 (codes "bar.exe"))
      ≡ null_on 0x14C (codes "__NULL_IMPORT_DESCRIPTOR_bar")
  pub null_on_arm64 : layout_of (named_null ARM64 (codes "a.drv"))
      ≡ null_on 0xAA64 (codes "__NULL_IMPORT_DESCRIPTOR_a.drv")
  -- the archive lists for each what it defines
  pub listed_descriptor : (named_descriptor_spec AMD64 (own_names (codes "foo.dll"))).symbols
      ≡ codes "__IMPORT_DESCRIPTOR_foo" ∷ []
  pub listed_null : (named_null_spec AMD64 (codes "foo.dll")).symbols
      ≡ codes "__NULL_IMPORT_DESCRIPTOR_foo" ∷ []
