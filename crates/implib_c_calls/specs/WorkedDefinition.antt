-- Encodings of definitions worked by hand, and buffers that are read.
use Rattle.std.specs.Prelude.{◌≡◌, ℕ, true, false, List, [], ◌∷◌, ◌++◌, None, Some, codes}
use Rattle.implib.specs.Worked.Digits.{hex}
use Rattle.implib_c_calls.specs.Definition.{StatedDefinition, definition_in, encoded_definition}
use Rattle.implib_c_calls.specs.Definition.{export_in}

-- a definition whose numbers differ, with an export that has each text, and one that has a name
-- alone
unfoldable pub two_exports : StatedDefinition
two_exports = record {
  import_name = codes "a";
  image_base = 0x102030405060708;
  stack_reserve = 1;
  stack_commit = 2;
  heap_reserve = 3;
  heap_commit = 4;
  major_image_version = 5;
  minor_image_version = 6;
  exports =
      record {
        name = codes "b";
        ext_name = Some (codes "c");
        alias_target = codes "de";
        ordinal = 0x708;
        no_name = true;
        is_data = false;
        private = true;
        constant = false;
      }
      ∷ record {
        name = codes "f";
        ext_name = None;
        alias_target = [];
        ordinal = 0;
        no_name = false;
        is_data = true;
        private = false;
        constant = true;
      }
      ∷ [];
}

-- its encoding
unfoldable pub two_exports_bytes : List ℕ
two_exports_bytes =
    hex "01 00 00 00 00 00 00 00 61"
    ++ (hex "08 07 06 05 04 03 02 01"
    ++ (hex "01 00 00 00 00 00 00 00"
    ++ (hex "02 00 00 00 00 00 00 00"
    ++ (hex "03 00 00 00 00 00 00 00"
    ++ (hex "04 00 00 00 00 00 00 00"
    ++ (hex "05 00 00 00 00 00 00 00"
    ++ (hex "06 00 00 00 00 00 00 00"
    ++ (hex "02 00 00 00 00 00 00 00"
    ++ (hex "01 00 00 00 00 00 00 00 62"
    ++ (hex "01 00 00 00 00 00 00 00"
    ++ (hex "01 00 00 00 00 00 00 00 63"
    ++ (hex "02 00 00 00 00 00 00 00 64 65"
    ++ (hex "08 07 00 00 00 00 00 00"
    ++ (hex "09 00 00 00 00 00 00 00"
    ++ (hex "01 00 00 00 00 00 00 00 66"
    ++ (hex "00 00 00 00 00 00 00 00"
    ++ (hex "00 00 00 00 00 00 00 00"
    ++ (hex "00 00 00 00 00 00 00 00"
    ++ hex "06 00 00 00 00 00 00 00"))))))))))))))))))

-- an export named `g`, but for the bytes of its external name, and with these attributes
unfoldable pub export_bytes : List ℕ → List ℕ → List ℕ
export_bytes ext_name flags =
    hex "01 00 00 00 00 00 00 00 67"
    ++ (ext_name
    ++ (hex "00 00 00 00 00 00 00 00"
    ++ (hex "00 00 00 00 00 00 00 00"
    ++ flags)))

-- what the encodings are, and what is read of bytes that are none
pub record WorkedDefinitions : Type 0 where
  pub two : encoded_definition two_exports ≡ two_exports_bytes
  pub seven_bytes : definition_in (hex "00 00 00 00 00 00 00") ≡ None
  pub third_text : export_in
      (export_bytes (hex "02 00 00 00 00 00 00 00") (hex "00 00 00 00 00 00 00 00")) ≡ None
  pub fifth_attribute : export_in
      (export_bytes (hex "00 00 00 00 00 00 00 00") (hex "10 00 00 00 00 00 00 00")) ≡ None
