-- What a linker takes files for, worked by hand: short imports by their bytes, and section symbols.
use Rattle.std.specs.Prelude.{◌≡◌, ℕ, List, [], ◌∷◌, ◌++◌, codes, Some, None}
use Rattle.implib.specs.declared.coff.object.Relocation.{Relocation}
use Rattle.implib.specs.declared.machine.MachineType.TheVariants.{I386, AMD64, ARM64}
use Rattle.implib.specs.Formats.Object.{ASymbol, Entry, Object, ObjectSection}
use Rattle.implib_link.specs.Flavors.Expansion.{before_last_stop, descriptor_symbol_by_name, entry}
use Rattle.implib_link.specs.Flavors.Expansion.{expanded_in, with_section_symbols}

-- a short import: the machine's two bytes, the size of the two texts, the ordinal, the types, the
-- texts
abbrev pub short_import_file : List ℕ → ℕ → ℕ → ℕ → List ℕ → List ℕ → List ℕ
short_import_file machine size ordinal types symbol dll =
    0 ∷ 0 ∷ 0xFF ∷ 0xFF ∷ 0 ∷ 0 ∷ (machine ++ 0 ∷ 0 ∷ 0 ∷ 0 ∷ size ∷ 0 ∷ 0 ∷ 0 ∷ ordinal ∷ 0 ∷ types ∷ 0
    ∷ (symbol ++ 0 ∷ (dll ++ 0 ∷ [])))

abbrev pub an_object : ℕ → List ObjectSection → List Entry → Object
an_object machine sections entries = record {
  machine = machine;
  time = 0;
  optional_header_size = 0;
  characteristics = 0;
  sections = sections;
  entries = entries;
}

abbrev pub a_section : List ℕ → ℕ → List ℕ → List Relocation → ObjectSection
a_section name flags bytes relocations =
    record { name = name; flags = flags; bytes = bytes; relocations = relocations }

abbrev pub text_section : List ℕ → List Relocation → ObjectSection
text_section bytes relocations =
    a_section (codes ".text" ++ 0 ∷ 0 ∷ 0 ∷ []) 0x6030_0020 bytes relocations

-- the bytes of the machines
abbrev pub amd64_bytes : List ℕ
amd64_bytes = 0x64 ∷ 0x86 ∷ []

abbrev pub i386_bytes : List ℕ
i386_bytes = 0x4C ∷ 0x01 ∷ []

-- a relocation of a thunk to the hint and the name
abbrev pub to_hint : ℕ → List Relocation
to_hint kind = record { offset = 0; symbol = 3; kind = kind } ∷ []

-- `bar` of foo.dll on AMD64, code by its name: the symbols are 0 `__IMPORT_DESCRIPTOR_foo`, 1
-- `.text`, 2 `__imp_bar`, 3 `.idata$6`, 4 `bar`
abbrev pub expanded_bar : Object
expanded_bar = an_object 0x8664
    (text_section (0xFF ∷ 0x25 ∷ 0 ∷ 0 ∷ 0 ∷ 0 ∷ 0x90 ∷ 0x90 ∷ [])
    (record { offset = 2; symbol = 2; kind = 4 } ∷ [])
    ∷ a_section (codes ".idata$5") 0xC040_0040 (0 ∷ 0 ∷ 0 ∷ 0 ∷ 0 ∷ 0 ∷ 0 ∷ 0 ∷ []) (to_hint 3)
    ∷ a_section (codes ".idata$4") 0xC040_0040 (0 ∷ 0 ∷ 0 ∷ 0 ∷ 0 ∷ 0 ∷ 0 ∷ 0 ∷ []) (to_hint 3)
    ∷ a_section (codes ".idata$6") 0xC020_0040 (2 ∷ 0 ∷ (codes "bar" ++ 0 ∷ [])) []
    ∷ [])
    (entry (codes "__IMPORT_DESCRIPTOR_foo") 0 2
    ∷ entry (codes ".text" ++ 0 ∷ 0 ∷ 0 ∷ []) 1 3
    ∷ entry (codes "__imp_bar") 2 2
    ∷ entry (codes ".idata$6") 4 3
    ∷ entry (codes "bar") 1 2
    ∷ [])

-- `_cord` of a.b.dll on I386, data by its ordinal
abbrev pub expanded_cord : Object
expanded_cord = an_object 0x14C
    (text_section [] []
    ∷ a_section (codes ".idata$5") 0xC030_0040 (7 ∷ 0 ∷ 0 ∷ 0x80 ∷ []) []
    ∷ a_section (codes ".idata$4") 0xC030_0040 (7 ∷ 0 ∷ 0 ∷ 0x80 ∷ []) []
    ∷ [])
    (entry (codes "__IMPORT_DESCRIPTOR_a.b") 0 2
    ∷ entry (codes ".text" ++ 0 ∷ 0 ∷ 0 ∷ []) 1 3
    ∷ entry (codes "__imp__cord") 2 2
    ∷ [])

-- `_pi` of foo.dll on I386, a constant, by its name without the prefix
abbrev pub expanded_pi : Object
expanded_pi = an_object 0x14C
    (text_section [] []
    ∷ a_section (codes ".idata$5") 0xC030_0040 (0 ∷ 0 ∷ 0 ∷ 0 ∷ []) (to_hint 7)
    ∷ a_section (codes ".idata$4") 0xC030_0040 (0 ∷ 0 ∷ 0 ∷ 0 ∷ []) (to_hint 7)
    ∷ a_section (codes ".idata$6") 0xC020_0040 (0 ∷ 0 ∷ (codes "pi" ++ 0 ∷ [])) []
    ∷ [])
    (entry (codes "__IMPORT_DESCRIPTOR_foo") 0 2
    ∷ entry (codes ".text" ++ 0 ∷ 0 ∷ 0 ∷ []) 1 3
    ∷ entry (codes "__imp__pi") 2 2
    ∷ entry (codes ".idata$6") 4 3
    ∷ entry (codes "_pi") 2 2
    ∷ [])

-- a symbol of class section for `.idata$5`, whose value is the flags 0xC0000040
abbrev pub with_flags : Entry
with_flags =
    ASymbol (record {
      name = codes ".idata$5";
      value = 0xC000_0040;
      section = 0;
      kind = 0;
      class = 104;
    })

-- an object with a section `.idata$4` of its own: its symbols stand for that one, two others for
-- one that is new, whatever value they have, and one of no group for none
abbrev pub with_symbols : Object
with_symbols = an_object 0x8664
    (a_section (codes ".idata$4") 0xC030_0040 (1 ∷ 2 ∷ 3 ∷ 4 ∷ []) [] ∷ [])
    (entry (codes ".idata$4") 0 104
    ∷ entry (codes ".idata$5") 0 104
    ∷ with_flags
    ∷ entry (codes ".rdata") 0 104
    ∷ entry (codes ".idata$6") 0 2
    ∷ [])

abbrev pub symbols_placed : Object
symbols_placed = an_object 0x8664
    (a_section (codes ".idata$4") 0xC030_0040 (1 ∷ 2 ∷ 3 ∷ 4 ∷ []) []
    ∷ a_section (codes ".idata$5") 0xC030_0040 [] []
    ∷ [])
    (entry (codes ".idata$4") 1 3
    ∷ entry (codes ".idata$5") 2 3
    ∷ entry (codes ".idata$5") 2 3
    ∷ entry (codes ".rdata") 0 104
    ∷ entry (codes ".idata$6") 0 2
    ∷ [])

-- Short imports are taken for these objects; none where the machine is another one, where the
-- import type is 3, and where the name type is 4. The descriptors looked for go by the last full
-- stop.
pub record WorkedExpansion : Type 0 where
  pub bar : expanded_in AMD64 (short_import_file amd64_bytes 12 2 4 (codes "bar") (codes "foo.dll"))
      ≡ Some expanded_bar
  pub cord : expanded_in I386
      (short_import_file i386_bytes 14 7 1 (codes "_cord") (codes "a.b.dll"))
      ≡ Some expanded_cord
  pub pi : expanded_in I386 (short_import_file i386_bytes 12 0 10 (codes "_pi") (codes "foo.dll"))
      ≡ Some expanded_pi
  pub other_machine : expanded_in ARM64
      (short_import_file amd64_bytes 12 2 4 (codes "bar") (codes "foo.dll"))
      ≡ None
  pub other_type : expanded_in AMD64
      (short_import_file amd64_bytes 12 2 7 (codes "bar") (codes "foo.dll"))
      ≡ None
  pub other_name : expanded_in AMD64
      (short_import_file amd64_bytes 12 2 16 (codes "bar") (codes "foo.dll"))
      ≡ None
  pub drv : descriptor_symbol_by_name (codes "foo.drv") ≡ codes "__IMPORT_DESCRIPTOR_foo"
  pub plain : before_last_stop (codes "foo") ≡ codes "foo"
  pub stops : before_last_stop (codes "a.b.dll") ≡ codes "a.b"
  pub symbols : with_section_symbols with_symbols ≡ symbols_placed
