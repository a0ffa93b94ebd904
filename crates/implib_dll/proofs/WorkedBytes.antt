-- Worked files, lookups and memory, by computing.
use Rattle.std.proofs.Common.{arith, refl}
use Rattle.implib_dll.specs.Bytes.{bytes_at, text_in, u16_at, u32_at}
use Rattle.implib_dll.specs.Digits.{bytes_of_digits}
use Rattle.implib_dll.specs.Exports.{exports_at, exports_behind, exports_in, table_at, target_of}
use Rattle.implib_dll.specs.Imports.{ask_at, asks_in, descriptor_count, dll_at, first_end, imports_behind, imports_in, thunk_count}
use Rattle.implib_dll.specs.Headers.{entry_in, header_at, header_for, header_with, signature_in}
use Rattle.implib_dll.specs.Lookup.{order_at, searched}
use Rattle.implib_dll.specs.Memory.{byte_at, searched_in}
use Rattle.implib_dll.specs.Outcome.{each_from}
use Rattle.implib_dll.specs.Sections.{contents_at, kind_at, located, part_at, section_at, text_at}
use Rattle.implib_dll.specs.WorkedDlls.{WorkedDlls, worked_arm64, worked_armnt, worked_i386}
use Rattle.implib_dll.specs.WorkedFiles.{WorkedFiles, worked_pe32, worked_pe32_plus, worked_unnamed, worked_zoo}
use Rattle.implib_dll.specs.WorkedImports.{WorkedImports, program_of_gnu, program_of_lld}
use Rattle.implib_dll.specs.WorkedLookups.{WorkedLookups}
use Rattle.implib_dll.specs.WorkedMemory.{WorkedMemory, worked_image, worked_sections}
use Rattle.implib_dll.specs.WorkedRefusals.{WorkedRefusals}

pub worked_files : WorkedFiles
unfolding bytes_at bytes_of_digits contents_at each_from entry_in exports_at exports_behind exports_in header_at header_for header_with kind_at located part_at section_at signature_in table_at target_of text_at text_in u16_at u32_at worked_pe32 worked_pe32_plus worked_unnamed worked_zoo
worked_files = record {
  pe32 = refl;
  pe32_plus = refl;
  zoo = refl;
  rows = refl;
  forwarder_last = refl;
  forwarder_past = refl;
  bss_last = refl;
  bss_past = refl;
  no_execute = refl;
  execute = refl;
  no_address = refl;
  no_entry = refl;
  machine = refl;
  base_0 = refl;
  base_65535 = refl;
}

pub worked_dlls : WorkedDlls
unfolding bytes_at bytes_of_digits contents_at each_from entry_in exports_at exports_behind exports_in header_at header_for header_with kind_at located part_at section_at signature_in table_at target_of text_at text_in u16_at u32_at worked_arm64 worked_armnt worked_i386
worked_dlls = record {
  arm64 = refl;
  armnt = refl;
  i386 = refl;
  i386_rows = refl;
  arm64_no_execute = refl;
  i386_forwarder_past = refl;
}

pub worked_lookups : WorkedLookups
unfolding order_at searched
worked_lookups = grind arith

pub worked_refusals : WorkedRefusals
unfolding bytes_at bytes_of_digits contents_at each_from entry_in exports_at exports_behind exports_in header_at header_for header_with kind_at located part_at section_at signature_in table_at target_of text_at text_in u16_at u32_at worked_pe32 worked_pe32_plus
worked_refusals = record {
  short = refl;
  no_mz = refl;
  signature = refl;
  signature_out = refl;
  fields_cut = refl;
  directory_cut = refl;
  header_out = refl;
  plus_cut = refl;
  magic = refl;
  table_cut = refl;
  many_sections = refl;
  sections_touch = refl;
  sections_overlap = refl;
  descend = refl;
  data_cut = refl;
  directory_past = refl;
  directory_before = refl;
  dll_past = refl;
  dll_in_bss = refl;
  addresses_past = refl;
  names_past = refl;
  ordinals_past = refl;
  forwarder_cut = refl;
  name_past = refl;
  room = refl;
  no_room = refl;
}

pub worked_memory : WorkedMemory
unfolding bytes_at bytes_of_digits contents_at each_from entry_in exports_at exports_behind exports_in header_at header_for header_with kind_at located part_at section_at signature_in table_at target_of text_at text_in u16_at u32_at worked_pe32 worked_pe32_plus byte_at searched_in worked_image worked_sections
worked_memory = record {
  image = refl;
  image_cut = refl;
  code = refl;
  before = refl;
  bss = refl;
  letter = refl;
  nul = refl;
  past = refl;
  count = refl;
  address = refl;
  index = refl;
  same = refl;
  shorter = refl;
  longer = refl;
  below = refl;
  above = refl;
  right = refl;
  low = refl;
  hint_past = refl;
  none = refl;
}

pub worked_imports : WorkedImports
unfolding ask_at asks_in bytes_at bytes_of_digits contents_at descriptor_count dll_at each_from entry_in first_end header_at header_for header_with imports_behind imports_in located part_at program_of_gnu program_of_lld section_at signature_in text_at text_in thunk_count u16_at u32_at
worked_imports = record {
  gnu = refl;
  lld = refl;
  gnu_ordinal = refl;
  lld_ordinal = refl;
  hint = refl;
  no_lookups = refl;
  other_lookups = refl;
  nothing_asked = refl;
  unnamed = refl;
  no_addresses = refl;
  no_entry = refl;
  no_address = refl;
  entry_cut = refl;
  directory_outside = refl;
  directory_open = refl;
  directory_ended = refl;
  name_outside = refl;
  lookups_outside = refl;
  addresses_outside = refl;
  lookups_open = refl;
  lookups_ended = refl;
  lld_lookups_open = refl;
  lld_lookups_ended = refl;
  ask_outside = refl;
  ask_above = refl;
  ask_high = refl;
  name_past = refl;
  thunk_taken = refl;
  thunk_too_long = refl;
  long_thunk_taken = refl;
  long_thunk_too_long = refl;
}
