-- The code of delayed functions worked by hand: its bytes, as an assembler and a disassembler (GNU
-- `as`, `objdump -d`) have them, and in two places of memory for each mode.
use Rattle.std.specs.Prelude.{◌≡◌, ℕ}
use Rattle.implib.specs.Worked.Digits.{hex}
use Rattle.implib_delay.specs.Processor.{Bits64, Bits32}
use Rattle.implib_delay.specs.Code.{Field, linked_stub, linked_tail, stub_code, tail_code}
use Rattle.implib_delay.specs.Calls.{Placement}

-- a field, by its bytes
abbrev pub field : ℕ → ℕ → ℕ → ℕ → Field
field a b c d = record { first = a; second = b; third = c; fourth = d }

-- On AMD64, in a program that GNU ld 2.40 linked, and in a DLL whose tail lies before its stubs.
abbrev pub program64 : Placement
program64 = record {
  stub = 0x140001720;
  tail = 0x140001790;
  entry = 0x14000A100;
  descriptor = 0x14000A000;
  helper = 0x1400029A0;
  fields = record {
    jump = field 0xDA 0x89 0 0;
    entry = field 0xD3 0x89 0 0;
    descriptor = field 0xCC 0x88 0 0;
    tail = field 0x57 0 0 0;
  };
  helper_field = field 0xC0 0x11 0 0;
}

abbrev pub library64 : Placement
library64 = record {
  stub = 0x180001100;
  tail = 0x180001000;
  entry = 0x180003010;
  descriptor = 0x180002060;
  helper = 0x180000F00;
  fields = record {
    jump = field 0x0A 0x1F 0 0;
    entry = field 0x03 0x1F 0 0;
    descriptor = field 0x4C 0x0F 0 0;
    tail = field 0xE7 0xFE 0xFF 0xFF;
  };
  helper_field = field 0xB0 0xFE 0xFF 0xFF;
}

-- On I386, the same.
abbrev pub program32 : Placement
program32 = record {
  stub = 0x401794;
  tail = 0x401800;
  entry = 0x40A0E0;
  descriptor = 0x40A000;
  helper = 0x402820;
  fields = record {
    jump = field 0xE0 0xA0 0x40 0;
    entry = field 0xE0 0xA0 0x40 0;
    descriptor = field 0x00 0xA0 0x40 0;
    tail = field 0x57 0 0 0;
  };
  helper_field = field 0x14 0x10 0 0;
}

abbrev pub library32 : Placement
library32 = record {
  stub = 0x10001100;
  tail = 0x10001000;
  entry = 0x10003010;
  descriptor = 0x10002060;
  helper = 0x10000F00;
  fields = record {
    jump = field 0x10 0x30 0 0x10;
    entry = field 0x10 0x30 0 0x10;
    descriptor = field 0x60 0x20 0 0x10;
    tail = field 0xEB 0xFE 0xFF 0xFF;
  };
  helper_field = field 0xF4 0xFE 0xFF 0xFF;
}

-- The bytes in the members, whose fields are 0.
pub record WorkedCode : Type 0 where
  pub stub64 : stub_code Bits64 ≡ hex "ff 25 00 00 00 00 48 8d 05 00 00 00 00 4c 8d 1d 00 00 00 00 e9 00 00 00 00"
  pub stub32 : stub_code Bits32 ≡ hex "ff 25 00 00 00 00 b8 00 00 00 00 68 00 00 00 00 e9 00 00 00 00"
  pub tail64 : tail_code Bits64 ≡ hex "48 81 ec 88 00 00 00 48 89 8c 24 90 00 00 00 48 89 94 24 98 00 00 00 4c 89 84 24 a0 00 00 00 4c 89 8c 24 a8 00 00 00 0f 29 44 24 20 0f 29 4c 24 30 0f 29 54 24 40 0f 29 5c 24 50 0f 29 64 24 60 0f 29 6c 24 70 48 89 c2 4c 89 d9 e8 00 00 00 00 48 8b 8c 24 90 00 00 00 48 8b 94 24 98 00 00 00 4c 8b 84 24 a0 00 00 00 4c 8b 8c 24 a8 00 00 00 0f 28 44 24 20 0f 28 4c 24 30 0f 28 54 24 40 0f 28 5c 24 50 0f 28 64 24 60 0f 28 6c 24 70 48 81 c4 88 00 00 00 ff e0"
  pub tail32 : tail_code Bits32 ≡ hex "51 52 50 ff 74 24 0c e8 00 00 00 00 5a 59 83 c4 04 ff e0"

-- The bytes that a linker leaves of them.
pub record WorkedLinkedCode : Type 0 where
  pub program64_stub : linked_stub Bits64 program64.fields
      ≡ hex "ff 25 da 89 00 00 48 8d 05 d3 89 00 00 4c 8d 1d cc 88 00 00 e9 57 00 00 00"
  pub library64_stub : linked_stub Bits64 library64.fields
      ≡ hex "ff 25 0a 1f 00 00 48 8d 05 03 1f 00 00 4c 8d 1d 4c 0f 00 00 e9 e7 fe ff ff"
  pub program32_stub : linked_stub Bits32 program32.fields
      ≡ hex "ff 25 e0 a0 40 00 b8 e0 a0 40 00 68 00 a0 40 00 e9 57 00 00 00"
  pub library32_stub : linked_stub Bits32 library32.fields
      ≡ hex "ff 25 10 30 00 10 b8 10 30 00 10 68 60 20 00 10 e9 eb fe ff ff"
  pub program32_tail : linked_tail Bits32 program32.helper_field
      ≡ hex "51 52 50 ff 74 24 0c e8 14 10 00 00 5a 59 83 c4 04 ff e0"
