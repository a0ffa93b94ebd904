-- Counts and positions that one byte, or two, do not hold, worked by hand.
use Rattle.std.specs.Prelude.{◌≡◌, ℕ, List, [], ◌∷◌, ◌++◌, Some, codes, drop, length, map}
use Rattle.std.specs.Prelude.{replicate, take}
use Rattle.implib.specs.declared.coff.object.Place.TheVariants.{Undefined, Section}
use Rattle.implib.specs.declared.flavor.Flavor.TheVariants.{Msvc}
use Rattle.implib.specs.declared.machine.MachineType.TheVariants.{I386, AMD64}
use Rattle.implib.specs.Definition.{empty_definition}
use Rattle.implib.specs.Fault.{EmptyAskedName, EmptyName, NoNameType, NulInExport}
use Rattle.implib.specs.Formats.Layout.{header_bytes, section_header}
use Rattle.implib.specs.Formats.Object.{ObjectSection}
use Rattle.implib.specs.Formats.Writer.{HasRoomFor, IsPlaceAmong, IsSymbolIndex, WriterState}
use Rattle.implib.specs.Formats.Writer.{sections_with_relocation, with_relocation, with_section}
use Rattle.implib.specs.Formats.Writer.{with_symbol}
use Rattle.implib.specs.Members.NameRules.{name_refusal}
use Rattle.implib.specs.Text.Parses.{Parses}
use Rattle.implib.specs.Text.Position.{line_and_column}
use Rattle.implib.specs.Worked.Digits.{hex}
use Rattle.implib.specs.Worked.Members.{IsRefused, nul, of_dll}
use Rattle.implib.specs.Worked.Objects.{section}
use Rattle.implib.specs.Worked.Records.{added, empty_object, relocation}
use Rattle.implib.specs.Worked.Statements.{plain_export}

-- `count` sections that hold nothing
abbrev pub empty_sections : ℕ → List ObjectSection
empty_sections count = replicate count (section (codes ".idata$2") 0 [] [])

-- a section of four bytes with `count` relocations
abbrev pub relocated : ℕ → ObjectSection
relocated count =
    section (codes ".idata$5") 0 (hex "00 00 00 00")
    (replicate count (record relocation { offset = 0 }))

-- a writer with these sections and with `count` symbols
abbrev pub holding : List ObjectSection → ℕ → WriterState
holding sections count =
    record { machine = AMD64; sections = sections; symbols = replicate count (added Undefined) }

-- how many relocations each section has
abbrev pub relocation_counts : List ObjectSection → List ℕ
relocation_counts sections = map (λ s. length s.relocations) sections

-- objects of more than 255 sections, relocations and symbols
pub record CountsOfObjects : Type 0 where
  -- they are counted in two bytes
  pub sections_counted : take 2
      (drop 2 (header_bytes (record empty_object { sections = empty_sections 257 })))
      ≡ hex "01 01"
  pub relocations_counted : take 2 (drop 32 (section_header 0 (relocated 258))) ≡ hex "02 01"
  -- one more is added after them
  pub section_added : length (with_section (holding (empty_sections 300) 0) (relocated 0)).sections
      ≡ 301
  pub symbol_added : length (with_symbol (holding [] 300) (added Undefined)).symbols ≡ 301
  pub relocation_added :
      relocation_counts (with_relocation (holding (empty_sections 300) 0) 257 relocation).sections
      ≡ replicate 256 0 ++ 1 ∷ replicate 43 0
  pub relocation_behind : relocation_counts
      (sections_with_relocation (relocated 300 ∷ []) 1 relocation)
      ≡ 301 ∷ []
  -- a section takes 65,535 relocations, and a symbol is in any of 32,767 sections
  pub room : HasRoomFor (record relocation { offset = 0 }) (relocated 65534)
  pub place : IsPlaceAmong 32767 (Section 32767)
  pub index : IsSymbolIndex (replicate 300 (added Undefined)) 299

-- columns, lines and indexes of exports that two bytes do not hold, and a number that four do not
pub record CountsOfTexts : Type 0 where
  -- of 70,000 letters and of 70,000 line feeds
  pub long_line : line_and_column (replicate 70000 0x61) ≡ (1, 70001)
  pub many_lines : line_and_column (replicate 70000 0x0A) ≡ (70001, 1)
  pub behind_others : IsRefused
      (of_dll (codes "foo.dll") (replicate 300 (plain_export (codes "a")) ++ plain_export [] ∷ []))
      AMD64
      (EmptyName 300)
  pub great_index : name_refusal Msvc AMD64 70000 (plain_export []) ≡ Some (EmptyName 70000)
  pub great_index_of_nul : name_refusal Msvc AMD64 70000 (plain_export nul)
      ≡ Some (NulInExport 70000)
  pub great_index_of_asked : name_refusal Msvc I386 70000 (plain_export (codes "_"))
      ≡ Some (EmptyAskedName 70000)
  pub great_index_of_type :
      name_refusal Msvc AMD64 70000
      (record (plain_export (codes "a")) { asked_name = Some (codes "b") })
      ≡ Some (NoNameType 70000)
  pub heap_above_32_bits : Parses (codes "HEAPSIZE 4294967296,8589934592") AMD64
      (record empty_definition { heap_reserve = 4294967296; heap_commit = 8589934592 })
