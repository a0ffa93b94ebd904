-- How a definition is encoded for C, and how an encoding is read (this project's choice).
use Rattle.std.specs.Prelude.{ℕ, ◌+◌, ◌/◌, ◌%◌, ◌<◌, ◌^◌, ◌==◌, nat_lt, All, Bool, true, false}
use Rattle.std.specs.Prelude.{List, ◌++◌, map}
use Rattle.std.specs.Prelude.{Option, None, Some, if◌then◌else◌}
use Rattle.std.specs.Option.{option_map}
use Rattle.implib.specs.declared.def.definition.ShortExport.{ShortExport}
use Rattle.implib.specs.Definition.{DefinitionView, ExportView, export_view}
use Rattle.implib_c_calls.specs.Encoding.{encoded_list, encoded_number, encoded_text, found}
use Rattle.implib_c_calls.specs.Encoding.{list_in, number_in, text_in, then_in}

-- What a text states.

-- of an export
pub record StatedExport : Type 0 where
  pub name : List ℕ
  pub ext_name : Option (List ℕ)
  pub alias_target : List ℕ
  pub ordinal : ℕ
  pub no_name : Bool
  pub is_data : Bool
  pub private : Bool
  pub constant : Bool

-- of a DLL
pub record StatedDefinition : Type 0 where
  pub import_name : List ℕ
  pub image_base : ℕ
  pub stack_reserve : ℕ
  pub stack_commit : ℕ
  pub heap_reserve : ℕ
  pub heap_commit : ℕ
  pub major_image_version : ℕ
  pub minor_image_version : ℕ
  pub exports : List StatedExport

-- of a definition's export
abbrev pub stated_export : ExportView → StatedExport
stated_export e = record {
  name = e.name;
  ext_name = e.ext_name;
  alias_target = e.alias_target;
  ordinal = e.ordinal;
  no_name = e.no_name;
  is_data = e.is_data;
  private = e.private;
  constant = e.constant;
}

-- of an export of the program
abbrev pub stated_of : ShortExport → StatedExport
stated_of e = stated_export (export_view e)

-- of a definition
abbrev pub stated : DefinitionView → StatedDefinition
stated d = record {
  import_name = d.import_name;
  image_base = d.image_base;
  stack_reserve = d.stack_reserve;
  stack_commit = d.stack_commit;
  heap_reserve = d.heap_reserve;
  heap_commit = d.heap_commit;
  major_image_version = d.major_image_version;
  minor_image_version = d.minor_image_version;
  exports = map stated_export d.exports;
}

-- What is written.

-- a text that may be missing: the number 0; else the number 1, and the text
abbrev pub encoded_optional : Option (List ℕ) → List ℕ
encoded_optional None = encoded_number 0
encoded_optional (Some text) = encoded_number 1 ++ encoded_text text

-- the number of a flag, where it is set; else 0
abbrev pub flag : Bool → ℕ → ℕ
flag true number = number
flag false number = 0

-- the attributes of an export: 1 for NONAME, 2 for DATA, 4 for CONSTANT and 8 for PRIVATE
abbrev pub flags_of : StatedExport → ℕ
flags_of e = flag e.no_name 1 + flag e.is_data 2 + flag e.constant 4 + flag e.private 8

-- an export: its name, the external name, the target after `==`, the ordinal, and the attributes
unfoldable pub encoded_export : StatedExport → List ℕ
encoded_export e =
    encoded_text e.name
    ++ (encoded_optional e.ext_name
    ++ (encoded_text e.alias_target
    ++ (encoded_number e.ordinal
    ++ encoded_number (flags_of e))))

-- A definition: the name of the DLL, the numbers of its statements, and the exports in order.
unfoldable pub encoded_definition : StatedDefinition → List ℕ
encoded_definition d =
    encoded_text d.import_name
    ++ (encoded_number d.image_base
    ++ (encoded_number d.stack_reserve
    ++ (encoded_number d.stack_commit
    ++ (encoded_number d.heap_reserve
    ++ (encoded_number d.heap_commit
    ++ (encoded_number d.major_image_version
    ++ (encoded_number d.minor_image_version
    ++ encoded_list encoded_export d.exports)))))))

-- How it is read. Each reader gives what it finds at the front, and the bytes after it.

-- after a number: no text for 0, and a text for 1
abbrev pub optional_after : ℕ → List ℕ → Option (Option (List ℕ) × List ℕ)
optional_after number bytes =
    if number == 0 then Some (None, bytes)
    else if number == 1 then option_map (λ text. (Some text.0, text.1)) (text_in bytes)
    else None

-- a text that may be missing
unfoldable pub optional_in : List ℕ → Option (Option (List ℕ) × List ℕ)
optional_in = then_in number_in optional_after

-- whether a flag is set in a number
abbrev pub has_flag : ℕ → ℕ → Bool
has_flag flags number = (flags / number) % 2 == 1

-- an export of these, if no other flag is set
abbrev pub export_with : List ℕ → Option (List ℕ) → List ℕ → ℕ → ℕ → Option StatedExport
export_with name ext_name alias_target ordinal flags = if nat_lt flags 16 then Some (record {
  name = name;
  ext_name = ext_name;
  alias_target = alias_target;
  ordinal = ordinal;
  no_name = has_flag flags 1;
  is_data = has_flag flags 2;
  private = has_flag flags 8;
  constant = has_flag flags 4;
}) else None

-- an export
unfoldable pub export_in : List ℕ → Option (StatedExport × List ℕ)
export_in =
    then_in text_in
    (λ name. then_in optional_in
    (λ ext_name. then_in text_in
    (λ target. then_in number_in
    (λ ordinal. then_in number_in
    (λ flags bytes. option_map (λ e. (e, bytes))
    (export_with name ext_name target ordinal flags))))))

-- the definition at the front of a buffer, and what follows it
unfoldable pub definition_in : List ℕ → Option (StatedDefinition × List ℕ)
definition_in =
    then_in text_in
    (λ name. then_in number_in
    (λ base. then_in number_in
    (λ stack_reserve. then_in number_in
    (λ stack_commit. then_in number_in
    (λ heap_reserve. then_in number_in
    (λ heap_commit. then_in number_in
    (λ major. then_in number_in
    (λ minor. then_in (list_in export_in)
    (λ exports. found (record {
      import_name = name;
      image_base = base;
      stack_reserve = stack_reserve;
      stack_commit = stack_commit;
      heap_reserve = heap_reserve;
      heap_commit = heap_commit;
      major_image_version = major;
      minor_image_version = minor;
      exports = exports;
    }))))))))))

-- the numbers have 64 bits, as those of a text do
pub record NumbersFit (d : StatedDefinition) : Type 0 where
  pub image_base : d.image_base < 2 ^ 64
  pub stack_reserve : d.stack_reserve < 2 ^ 64
  pub stack_commit : d.stack_commit < 2 ^ 64
  pub heap_reserve : d.heap_reserve < 2 ^ 64
  pub heap_commit : d.heap_commit < 2 ^ 64
  pub major_image_version : d.major_image_version < 2 ^ 64
  pub minor_image_version : d.minor_image_version < 2 ^ 64
  pub ordinals : All (λ e. e.ordinal < 2 ^ 64) d.exports
