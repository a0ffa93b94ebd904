-- Files that are refused, each for its first fault, and near misses: `worked_pe32` with changed
-- bytes.
use Rattle.std.specs.Prelude.{◌≡◌, Some, Ok, codes, take}
use Rattle.implib_dll.specs.declared.fault.Cause.TheVariants.{NoDosHeader, NoPeSignature}
use Rattle.implib_dll.specs.declared.fault.Cause.TheVariants.{OptionalHeaderCut, UnknownMagic}
use Rattle.implib_dll.specs.declared.fault.Cause.TheVariants.{TooManySections, SectionTableCut}
use Rattle.implib_dll.specs.declared.fault.Cause.TheVariants.{SectionsOverlap, SectionDataCut}
use Rattle.implib_dll.specs.declared.fault.Cause.TheVariants.{DirectoryOutside, DllNameOutside}
use Rattle.implib_dll.specs.declared.fault.Cause.TheVariants.{AddressTableOutside, NameTableOutside}
use Rattle.implib_dll.specs.declared.fault.Cause.TheVariants.{OrdinalTableOutside, ForwarderOutside}
use Rattle.implib_dll.specs.declared.fault.Cause.TheVariants.{NameOutside, TextsTooLong}
use Rattle.implib_dll.specs.declared.section.Layout.TheVariants.{File}
use Rattle.implib_dll.specs.Digits.{changed}
use Rattle.implib_dll.specs.Exports.{exports_in, text_within}
use Rattle.implib_dll.specs.Outcome.{refusal}
use Rattle.implib_dll.specs.WorkedFiles.{worked_exports, worked_pe32, worked_pe32_plus}

-- Refused files, with the offset of what is wrong.
pub record WorkedRefusals : Type 0 where
  -- a byte less than an MS-DOS header; another magic number
  pub short : exports_in File (take 63 worked_pe32) ≡ refusal NoDosHeader 0
  pub no_mz : exports_in File (changed 1 0x5B worked_pe32) ≡ refusal NoDosHeader 0
  -- another signature; an offset of it that leads out of the file
  pub signature : exports_in File (changed 0x40 0x4E worked_pe32) ≡ refusal NoPeSignature 0x3C
  pub signature_out : exports_in File (changed 0x3D 0x10 worked_pe32) ≡ refusal NoPeSignature 0x3C
  -- a byte of a header too little for the fields of PE32, and for data directory 0; a header that
  -- leads out
  pub fields_cut : exports_in File (changed 0x54 95 worked_pe32) ≡ refusal OptionalHeaderCut 0x54
  pub directory_cut : exports_in File (changed 0x54 103 worked_pe32)
      ≡ refusal OptionalHeaderCut 0x54
  pub header_out : exports_in File (changed 0x55 0x10 worked_pe32) ≡ refusal OptionalHeaderCut 0x54
  -- the same of PE32+
  pub plus_cut : exports_in File (changed 0x54 119 worked_pe32_plus)
      ≡ refusal OptionalHeaderCut 0x54
  pub magic : exports_in File (changed 0x58 0x07 worked_pe32) ≡ refusal UnknownMagic 0x58
  -- 96 section headers and 97
  pub table_cut : exports_in File (changed 0x46 96 worked_pe32) ≡ refusal SectionTableCut 0x46
  pub many_sections : exports_in File (changed 0x46 97 worked_pe32) ≡ refusal TooManySections 0x46
  -- `.bss` ends where `.edata` begins, and a byte later
  pub sections_touch : exports_in File (changed 0xF0 0 (changed 0xF1 0x10 worked_pe32))
      ≡ Ok (Some worked_exports)
  pub sections_overlap : exports_in File (changed 0xF0 1 (changed 0xF1 0x10 worked_pe32))
      ≡ refusal SectionsOverlap 0x11C
  -- `.edata` begins before `.bss`
  pub descend : exports_in File (changed 0x11D 0x18 worked_pe32) ≡ refusal SectionsOverlap 0x11C
  -- a byte of the data of `.edata` is missing
  pub data_cut : exports_in File (take 420 worked_pe32) ≡ refusal SectionDataCut 0x124
  -- a byte too few for the directory, or an address before its section
  pub directory_past : exports_in File (changed 0xB8 0x42 worked_pe32)
      ≡ refusal DirectoryOutside 0xB8
  pub directory_before : exports_in File (changed 0xB9 0x2F worked_pe32)
      ≡ refusal DirectoryOutside 0xB8
  -- the first address past `.edata`, and a `.bss` has no bytes
  pub dll_past : exports_in File (changed 0x148 0x69 worked_pe32) ≡ refusal DllNameOutside 0x148
  pub dll_in_bss : exports_in File (changed 0x148 0 (changed 0x149 0x20 worked_pe32))
      ≡ refusal DllNameOutside 0x148
  -- a byte too few for each table
  pub addresses_past : exports_in File (changed 0x158 0x56 worked_pe32)
      ≡ refusal AddressTableOutside 0x158
  pub names_past : exports_in File (changed 0x15C 0x5E worked_pe32) ≡ refusal NameTableOutside 0x15C
  pub ordinals_past : exports_in File (changed 0x160 0x64 worked_pe32)
      ≡ refusal OrdinalTableOutside 0x160
  -- a forwarder without its NUL, the second name past the section
  pub forwarder_cut : exports_in File (changed 0x1A4 0x41 worked_pe32)
      ≡ refusal ForwarderOutside 0x170
  pub name_past : exports_in File (changed 0x17C 0x69 worked_pe32) ≡ refusal NameOutside 0x17C
  -- a text of five bytes takes six bytes of room, its NUL counted
  pub room : text_within NameOutside 7 6 (Some (codes "alpha")) ≡ Ok (codes "alpha", 0)
  pub no_room : text_within NameOutside 7 5 (Some (codes "alpha")) ≡ refusal TextsTooLong 7
