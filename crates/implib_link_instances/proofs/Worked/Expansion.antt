-- What a linker takes files for, by computing.
use Rattle.std.proofs.Common.{arith}
use Rattle.implib.specs.Formats.Bytes.{u16_bytes}
use Rattle.implib.specs.Formats.Object.{bytes_at, object_in, u16_at, u32_at}
use Rattle.implib.specs.Formats.ShortImport.{short_import_in}
use Rattle.implib_link.specs.Flavors.Expansion.{import_object, descriptor_symbol_by_name, expanded_in, with_section_symbols}
use Rattle.implib_link_instances.specs.Worked.Expansion.{WorkedExpansion}

pub worked_expansion : WorkedExpansion
unfolding expanded_in short_import_in u16_at u32_at u16_bytes import_object descriptor_symbol_by_name with_section_symbols object_in bytes_at
worked_expansion = grind arith
