-- Whole objects byte by byte, worked by hand. A line is a header, half of one, data, a relocation,
-- a symbol's record, or a string; a section's header takes two lines.
use Rattle.std.specs.Prelude.{◌≡◌, ℕ, List, [], ◌∷◌, codes}
use Rattle.std.specs.List.{concat}
use Rattle.implib.specs.declared.machine.MachineType.TheVariants.{I386, ARMNT, AMD64, ARM64}
use Rattle.implib.specs.Formats.Layout.{encoded}
use Rattle.implib.specs.Worked.Digits.{hex}
use Rattle.implib.specs.Worked.Machines.{numbers}
use Rattle.implib.specs.Worked.Objects.{descriptor, function, head, null_descriptor, null_thunk}
use Rattle.implib.specs.Worked.Objects.{one_section, tail, two_names, weak}

-- 70 bytes
unfoldable pub two_names_bytes : List ℕ
two_names_bytes = concat (
    hex "64 86 00 00 00 00 00 00 14 00 00 00 02 00 00 00 00 00 00 00"
    ∷ codes "abcdefgh" ∷ hex "00 00 00 00 00 00 00 00 02 00"
    ∷ hex "00 00 00 00 04 00 00 00 00 00 00 00 00 00 00 00 02 00"
    ∷ hex "0e 00 00 00"
    ∷ codes "abcdefghi" ∷ hex "00"
    ∷ [])

-- 112 bytes
unfoldable pub one_section_bytes : List ℕ
one_section_bytes = concat (
    hex "64 aa 01 00 00 00 00 00 5a 00 00 00 01 00 00 00 00 00 00 00"
    ∷ codes ".idata$2" ∷ hex "00 00 00 00 00 00 00 00 14 00 00 00 3c 00 00 00"
    ∷ hex "50 00 00 00 00 00 00 00 01 00 00 00 40 00 30 c0"
    ∷ hex "00 00 00 00 00 00 00 00 00 00 00 00 00 00 00 00 00 00 00 00"
    ∷ hex "10 00 00 00 00 00 00 00 02 00"
    ∷ codes "x" ∷ hex "00 00 00 00 00 00 00 00 00 00 00 01 00 00 00 02 00"
    ∷ hex "04 00 00 00"
    ∷ [])

-- 358 bytes: of foo.dll on AMD64
unfoldable pub descriptor_bytes : List ℕ
descriptor_bytes = concat (
    hex "64 86 02 00 00 00 00 00 9e 00 00 00 07 00 00 00 00 00 00 00"
    ∷ codes ".idata$2" ∷ hex "00 00 00 00 00 00 00 00 14 00 00 00 64 00 00 00"
    ∷ hex "78 00 00 00 00 00 00 00 03 00 00 00 40 00 30 c0"
    ∷ codes ".idata$6" ∷ hex "00 00 00 00 00 00 00 00 08 00 00 00 96 00 00 00"
    ∷ hex "00 00 00 00 00 00 00 00 00 00 00 00 40 00 20 c0"
    ∷ hex "00 00 00 00 00 00 00 00 00 00 00 00 00 00 00 00 00 00 00 00"
    ∷ hex "0c 00 00 00 02 00 00 00 03 00"
    ∷ hex "00 00 00 00 03 00 00 00 03 00"
    ∷ hex "10 00 00 00 04 00 00 00 03 00"
    ∷ codes "foo.dll" ∷ hex "00"
    ∷ hex "00 00 00 00 04 00 00 00 00 00 00 00 01 00 00 00 02 00"
    ∷ codes ".idata$2" ∷ hex "00 00 00 00 01 00 00 00 68 00"
    ∷ codes ".idata$6" ∷ hex "00 00 00 00 02 00 00 00 03 00"
    ∷ codes ".idata$4" ∷ hex "00 00 00 00 00 00 00 00 68 00"
    ∷ codes ".idata$5" ∷ hex "00 00 00 00 00 00 00 00 68 00"
    ∷ hex "00 00 00 00 1c 00 00 00 00 00 00 00 00 00 00 00 02 00"
    ∷ hex "00 00 00 00 35 00 00 00 00 00 00 00 00 00 00 00 02 00"
    ∷ hex "4a 00 00 00"
    ∷ codes "__IMPORT_DESCRIPTOR_foo" ∷ hex "00"
    ∷ codes "__NULL_IMPORT_DESCRIPTOR" ∷ hex "00"
    ∷ hex "7f" ∷ codes "foo_NULL_THUNK_DATA" ∷ hex "00"
    ∷ [])

-- 127 bytes: on ARM64
unfoldable pub null_descriptor_bytes : List ℕ
null_descriptor_bytes = concat (
    hex "64 aa 01 00 00 00 00 00 50 00 00 00 01 00 00 00 00 00 00 00"
    ∷ codes ".idata$3" ∷ hex "00 00 00 00 00 00 00 00 14 00 00 00 3c 00 00 00"
    ∷ hex "00 00 00 00 00 00 00 00 00 00 00 00 40 00 30 c0"
    ∷ hex "00 00 00 00 00 00 00 00 00 00 00 00 00 00 00 00 00 00 00 00"
    ∷ hex "00 00 00 00 04 00 00 00 00 00 00 00 01 00 00 00 02 00"
    ∷ hex "1d 00 00 00"
    ∷ codes "__NULL_IMPORT_DESCRIPTOR" ∷ hex "00"
    ∷ [])

-- 151 bytes: of foo.dll on I386
unfoldable pub null_thunk_bytes : List ℕ
null_thunk_bytes = concat (
    hex "4c 01 02 00 00 00 00 00 6c 00 00 00 01 00 00 00 00 00 00 01"
    ∷ codes ".idata$5" ∷ hex "00 00 00 00 00 00 00 00 04 00 00 00 64 00 00 00"
    ∷ hex "00 00 00 00 00 00 00 00 00 00 00 00 40 00 30 c0"
    ∷ codes ".idata$4" ∷ hex "00 00 00 00 00 00 00 00 04 00 00 00 68 00 00 00"
    ∷ hex "00 00 00 00 00 00 00 00 00 00 00 00 40 00 30 c0"
    ∷ hex "00 00 00 00"
    ∷ hex "00 00 00 00"
    ∷ hex "00 00 00 00 04 00 00 00 00 00 00 00 01 00 00 00 02 00"
    ∷ hex "19 00 00 00"
    ∷ hex "7f" ∷ codes "foo_NULL_THUNK_DATA" ∷ hex "00"
    ∷ [])

-- 162 bytes: foo for baz on I386
unfoldable pub weak_bytes : List ℕ
weak_bytes = concat (
    hex "4c 01 01 00 00 00 00 00 3c 00 00 00 05 00 00 00 00 00 00 00"
    ∷ codes ".drectve" ∷ hex "00 00 00 00 00 00 00 00 00 00 00 00 00 00 00 00"
    ∷ hex "00 00 00 00 00 00 00 00 00 00 00 00 00 0a 00 00"
    ∷ codes "@comp.id" ∷ hex "00 00 00 00 ff ff 00 00 03 00"
    ∷ codes "@feat.00" ∷ hex "00 00 00 00 ff ff 00 00 03 00"
    ∷ hex "00 00 00 00 04 00 00 00 00 00 00 00 00 00 00 00 02 00"
    ∷ hex "00 00 00 00 08 00 00 00 00 00 00 00 00 00 00 00 69 01"
    ∷ hex "02 00 00 00 03 00 00 00 00 00 00 00 00 00 00 00 00 00"
    ∷ hex "0c 00 00 00"
    ∷ codes "baz" ∷ hex "00"
    ∷ codes "foo" ∷ hex "00"
    ∷ [])

-- 452 bytes: of foo.dll on I386
unfoldable pub head_bytes : List ℕ
head_bytes = concat (
    hex "4c 01 06 00 00 00 00 00 36 01 00 00 06 00 00 00 00 00 00 00"
    ∷ codes ".text" ∷ hex "00 00 00" ∷ hex "00 00 00 00 00 00 00 00 00 00 00 00 00 00 00 00"
    ∷ hex "00 00 00 00 00 00 00 00 00 00 00 00 20 00 50 60"
    ∷ codes ".data" ∷ hex "00 00 00" ∷ hex "00 00 00 00 00 00 00 00 00 00 00 00 00 00 00 00"
    ∷ hex "00 00 00 00 00 00 00 00 00 00 00 00 40 00 50 c0"
    ∷ codes ".bss" ∷ hex "00 00 00 00" ∷ hex "00 00 00 00 00 00 00 00 00 00 00 00 00 00 00 00"
    ∷ hex "00 00 00 00 00 00 00 00 00 00 00 00 80 00 50 c0"
    ∷ codes ".idata$2" ∷ hex "00 00 00 00 00 00 00 00 14 00 00 00 04 01 00 00"
    ∷ hex "18 01 00 00 00 00 00 00 03 00 00 00 40 00 30 c0"
    ∷ codes ".idata$5" ∷ hex "00 00 00 00 00 00 00 00 00 00 00 00 00 00 00 00"
    ∷ hex "00 00 00 00 00 00 00 00 00 00 00 00 40 00 30 c0"
    ∷ codes ".idata$4" ∷ hex "00 00 00 00 00 00 00 00 00 00 00 00 00 00 00 00"
    ∷ hex "00 00 00 00 00 00 00 00 00 00 00 00 40 00 30 c0"
    ∷ hex "00 00 00 00 00 00 00 00 00 00 00 00 00 00 00 00 00 00 00 00"
    ∷ hex "00 00 00 00 03 00 00 00 07 00"
    ∷ hex "10 00 00 00 02 00 00 00 07 00"
    ∷ hex "0c 00 00 00 05 00 00 00 07 00"
    ∷ codes ".file" ∷ hex "00 00 00 00 00 00 00 fe ff 00 00 67 01"
    ∷ codes "fake" ∷ hex "00 00 00 00 00 00 00 00 00 00 00 00 00 00"
    ∷ codes ".idata$5" ∷ hex "00 00 00 00 05 00 00 00 03 00"
    ∷ codes ".idata$4" ∷ hex "00 00 00 00 06 00 00 00 03 00"
    ∷ hex "00 00 00 00 04 00 00 00 00 00 00 00 04 00 00 00 02 00"
    ∷ hex "00 00 00 00 13 00 00 00 00 00 00 00 00 00 00 00 02 00"
    ∷ hex "22 00 00 00"
    ∷ codes "__head_foo_dll" ∷ hex "00"
    ∷ codes "_foo_dll_iname" ∷ hex "00"
    ∷ [])

-- 348 bytes: of foo.dll on ARMNT
unfoldable pub tail_bytes : List ℕ
tail_bytes = concat (
    hex "c4 01 06 00 00 00 00 00 14 01 00 00 03 00 00 00 00 00 00 00"
    ∷ codes ".text" ∷ hex "00 00 00" ∷ hex "00 00 00 00 00 00 00 00 00 00 00 00 00 00 00 00"
    ∷ hex "00 00 00 00 00 00 00 00 00 00 00 00 20 00 50 60"
    ∷ codes ".data" ∷ hex "00 00 00" ∷ hex "00 00 00 00 00 00 00 00 00 00 00 00 00 00 00 00"
    ∷ hex "00 00 00 00 00 00 00 00 00 00 00 00 40 00 50 c0"
    ∷ codes ".bss" ∷ hex "00 00 00 00" ∷ hex "00 00 00 00 00 00 00 00 00 00 00 00 00 00 00 00"
    ∷ hex "00 00 00 00 00 00 00 00 00 00 00 00 80 00 50 c0"
    ∷ codes ".idata$4" ∷ hex "00 00 00 00 00 00 00 00 04 00 00 00 04 01 00 00"
    ∷ hex "00 00 00 00 00 00 00 00 00 00 00 00 40 00 30 c0"
    ∷ codes ".idata$5" ∷ hex "00 00 00 00 00 00 00 00 04 00 00 00 08 01 00 00"
    ∷ hex "00 00 00 00 00 00 00 00 00 00 00 00 40 00 30 c0"
    ∷ codes ".idata$7" ∷ hex "00 00 00 00 00 00 00 00 08 00 00 00 0c 01 00 00"
    ∷ hex "00 00 00 00 00 00 00 00 00 00 00 00 40 00 30 c0"
    ∷ hex "00 00 00 00"
    ∷ hex "00 00 00 00"
    ∷ codes "foo.dll" ∷ hex "00"
    ∷ codes ".file" ∷ hex "00 00 00 00 00 00 00 fe ff 00 00 67 01"
    ∷ codes "fake" ∷ hex "00 00 00 00 00 00 00 00 00 00 00 00 00 00"
    ∷ hex "00 00 00 00 04 00 00 00 00 00 00 00 06 00 00 00 02 00"
    ∷ hex "12 00 00 00"
    ∷ codes "foo_dll_iname" ∷ hex "00"
    ∷ [])

-- 474 bytes: the function bar of foo.dll on AMD64
unfoldable pub function_bytes : List ℕ
function_bytes = concat (
    hex "64 86 07 00 00 00 00 00 76 01 00 00 04 00 00 00 00 00 00 00"
    ∷ codes ".text" ∷ hex "00 00 00" ∷ hex "00 00 00 00 00 00 00 00 08 00 00 00 2c 01 00 00"
    ∷ hex "34 01 00 00 00 00 00 00 01 00 00 00 20 00 30 60"
    ∷ codes ".data" ∷ hex "00 00 00" ∷ hex "00 00 00 00 00 00 00 00 00 00 00 00 00 00 00 00"
    ∷ hex "00 00 00 00 00 00 00 00 00 00 00 00 40 00 30 c0"
    ∷ codes ".bss" ∷ hex "00 00 00 00" ∷ hex "00 00 00 00 00 00 00 00 00 00 00 00 00 00 00 00"
    ∷ hex "00 00 00 00 00 00 00 00 00 00 00 00 80 00 30 c0"
    ∷ codes ".idata$7" ∷ hex "00 00 00 00 00 00 00 00 04 00 00 00 3e 01 00 00"
    ∷ hex "42 01 00 00 00 00 00 00 01 00 00 00 00 00 30 c0"
    ∷ codes ".idata$5" ∷ hex "00 00 00 00 00 00 00 00 08 00 00 00 4c 01 00 00"
    ∷ hex "54 01 00 00 00 00 00 00 01 00 00 00 00 00 30 c0"
    ∷ codes ".idata$4" ∷ hex "00 00 00 00 00 00 00 00 08 00 00 00 5e 01 00 00"
    ∷ hex "66 01 00 00 00 00 00 00 01 00 00 00 00 00 30 c0"
    ∷ codes ".idata$6" ∷ hex "00 00 00 00 00 00 00 00 06 00 00 00 70 01 00 00"
    ∷ hex "00 00 00 00 00 00 00 00 00 00 00 00 00 00 20 c0"
    ∷ hex "ff 25 00 00 00 00 90 90"
    ∷ hex "02 00 00 00 02 00 00 00 04 00"
    ∷ hex "00 00 00 00"
    ∷ hex "00 00 00 00 00 00 00 00 03 00"
    ∷ hex "00 00 00 00 00 00 00 00"
    ∷ hex "00 00 00 00 03 00 00 00 03 00"
    ∷ hex "00 00 00 00 00 00 00 00"
    ∷ hex "00 00 00 00 03 00 00 00 03 00"
    ∷ hex "00 00" ∷ codes "bar" ∷ hex "00"
    ∷ hex "00 00 00 00 04 00 00 00 00 00 00 00 00 00 00 00 02 00"
    ∷ codes "bar" ∷ hex "00 00 00 00 00 00 00 00 00 01 00 00 00 02 00"
    ∷ hex "00 00 00 00 12 00 00 00 00 00 00 00 05 00 00 00 02 00"
    ∷ codes ".idata$6" ∷ hex "00 00 00 00 07 00 00 00 03 00"
    ∷ hex "1c 00 00 00"
    ∷ codes "_head_foo_dll" ∷ hex "00"
    ∷ codes "__imp_bar" ∷ hex "00"
    ∷ [])

-- 488 bytes: the function bar of foo.dll on ARM64
unfoldable pub function_bytes_arm64 : List ℕ
function_bytes_arm64 = concat (
    hex "64 aa 07 00 00 00 00 00 84 01 00 00 04 00 00 00 00 00 00 00"
    ∷ codes ".text" ∷ hex "00 00 00" ∷ hex "00 00 00 00 00 00 00 00 0c 00 00 00 2c 01 00 00"
    ∷ hex "38 01 00 00 00 00 00 00 02 00 00 00 20 00 30 60"
    ∷ codes ".data" ∷ hex "00 00 00" ∷ hex "00 00 00 00 00 00 00 00 00 00 00 00 00 00 00 00"
    ∷ hex "00 00 00 00 00 00 00 00 00 00 00 00 40 00 30 c0"
    ∷ codes ".bss" ∷ hex "00 00 00 00" ∷ hex "00 00 00 00 00 00 00 00 00 00 00 00 00 00 00 00"
    ∷ hex "00 00 00 00 00 00 00 00 00 00 00 00 80 00 30 c0"
    ∷ codes ".idata$7" ∷ hex "00 00 00 00 00 00 00 00 04 00 00 00 4c 01 00 00"
    ∷ hex "50 01 00 00 00 00 00 00 01 00 00 00 00 00 30 c0"
    ∷ codes ".idata$5" ∷ hex "00 00 00 00 00 00 00 00 08 00 00 00 5a 01 00 00"
    ∷ hex "62 01 00 00 00 00 00 00 01 00 00 00 00 00 30 c0"
    ∷ codes ".idata$4" ∷ hex "00 00 00 00 00 00 00 00 08 00 00 00 6c 01 00 00"
    ∷ hex "74 01 00 00 00 00 00 00 01 00 00 00 00 00 30 c0"
    ∷ codes ".idata$6" ∷ hex "00 00 00 00 00 00 00 00 06 00 00 00 7e 01 00 00"
    ∷ hex "00 00 00 00 00 00 00 00 00 00 00 00 00 00 20 c0"
    ∷ hex "10 00 00 90 10 02 40 f9 00 02 1f d6"
    ∷ hex "00 00 00 00 02 00 00 00 04 00"
    ∷ hex "04 00 00 00 02 00 00 00 07 00"
    ∷ hex "00 00 00 00"
    ∷ hex "00 00 00 00 00 00 00 00 02 00"
    ∷ hex "00 00 00 00 00 00 00 00"
    ∷ hex "00 00 00 00 03 00 00 00 02 00"
    ∷ hex "00 00 00 00 00 00 00 00"
    ∷ hex "00 00 00 00 03 00 00 00 02 00"
    ∷ hex "00 00" ∷ codes "bar" ∷ hex "00"
    ∷ hex "00 00 00 00 04 00 00 00 00 00 00 00 00 00 00 00 02 00"
    ∷ codes "bar" ∷ hex "00 00 00 00 00 00 00 00 00 01 00 00 00 02 00"
    ∷ hex "00 00 00 00 12 00 00 00 00 00 00 00 05 00 00 00 02 00"
    ∷ codes ".idata$6" ∷ hex "00 00 00 00 07 00 00 00 03 00"
    ∷ hex "1c 00 00 00"
    ∷ codes "_head_foo_dll" ∷ hex "00"
    ∷ codes "__imp_bar" ∷ hex "00"
    ∷ [])

-- The objects are laid out as these bytes.
pub record WorkedLayouts : Type 0 where
  pub two_names : encoded two_names ≡ two_names_bytes
  pub one_section : encoded one_section ≡ one_section_bytes
  pub descriptor : encoded (descriptor (numbers AMD64)) ≡ descriptor_bytes
  pub null_descriptor : encoded (null_descriptor (numbers ARM64)) ≡ null_descriptor_bytes
  pub null_thunk : encoded (null_thunk (numbers I386)) ≡ null_thunk_bytes
  pub weak : encoded (weak (numbers I386) (codes "baz") (codes "foo")) ≡ weak_bytes
  pub head : encoded (head (numbers I386)) ≡ head_bytes
  pub tail : encoded (tail (numbers ARMNT)) ≡ tail_bytes
  pub function_on_amd64 : encoded (function (numbers AMD64)) ≡ function_bytes
  pub function_on_arm64 : encoded (function (numbers ARM64)) ≡ function_bytes_arm64
