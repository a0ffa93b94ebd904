-- What a module definition holds: its texts as bytes, its exports as a list, its numbers.
-- Two definitions that show the same here are equal field by field.
use Rattle.std.specs.Prelude.{ℕ, Bool, false, List, [], map, Option, None, unwrap_or}
use Rattle.std.specs.String.{string_bytes}
use Rattle.std.specs.Option.{option_map}
use Rattle.implib.specs.declared.def.definition.ModuleDef.{ModuleDef}
use Rattle.implib.specs.declared.def.definition.ShortExport.{ShortExport}

-- what an export holds
pub record ExportView : Type 0 where
  pub name : List ℕ
  pub ext_name : Option (List ℕ)
  pub symbol_name : List ℕ
  pub asked_name : Option (List ℕ)
  pub alias_target : List ℕ
  pub ordinal : ℕ
  pub no_name : Bool
  pub is_data : Bool
  pub private : Bool
  pub constant : Bool

-- what a definition holds
pub record DefinitionView : Type 0 where
  pub exports : List ExportView
  pub import_name : List ℕ
  pub library_name : Option (List ℕ)
  pub image_base : ℕ
  pub stack_reserve : ℕ
  pub stack_commit : ℕ
  pub heap_reserve : ℕ
  pub heap_commit : ℕ
  pub major_image_version : ℕ
  pub minor_image_version : ℕ
  pub major_os_version : ℕ
  pub minor_os_version : ℕ

-- what an export of the program holds
abbrev pub export_view : ShortExport → ExportView
export_view e = record {
  name = string_bytes e.name;
  ext_name = option_map string_bytes e.ext_name;
  symbol_name = string_bytes e.symbol_name;
  asked_name = option_map string_bytes e.asked_name;
  alias_target = string_bytes e.alias_target;
  ordinal = e.ordinal;
  no_name = e.no_name;
  is_data = e.is_data;
  private = e.private;
  constant = e.constant;
}

-- the asked name that an export gives, and an empty one where it gives none
abbrev pub given_name : ExportView → List ℕ
given_name e = unwrap_or e.asked_name []

-- what a definition of the program holds
abbrev pub definition_view : ModuleDef → DefinitionView
definition_view d = record {
  exports = map export_view d.exports.items;
  import_name = string_bytes d.import_name;
  library_name = option_map string_bytes d.library_name;
  image_base = d.image_base;
  stack_reserve = d.stack_reserve;
  stack_commit = d.stack_commit;
  heap_reserve = d.heap_reserve;
  heap_commit = d.heap_commit;
  major_image_version = d.major_image_version;
  minor_image_version = d.minor_image_version;
  major_os_version = d.major_os_version;
  minor_os_version = d.minor_os_version;
}

-- an export with empty texts, the number 0 and no flag
abbrev pub empty_export : ExportView
empty_export = record {
  name = [];
  ext_name = None;
  symbol_name = [];
  asked_name = None;
  alias_target = [];
  ordinal = 0;
  no_name = false;
  is_data = false;
  private = false;
  constant = false;
}

-- a definition with no exports, an empty name, no name of the library and all numbers 0
abbrev pub empty_definition : DefinitionView
empty_definition = record {
  exports = [];
  import_name = [];
  library_name = None;
  image_base = 0;
  stack_reserve = 0;
  stack_commit = 0;
  heap_reserve = 0;
  heap_commit = 0;
  major_image_version = 0;
  minor_image_version = 0;
  major_os_version = 0;
  minor_os_version = 0;
}
