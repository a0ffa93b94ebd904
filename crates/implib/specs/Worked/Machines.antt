-- What differs in the objects of foo.dll from machine to machine (docs/FORMATS.md).
use Rattle.std.specs.Prelude.{ℕ, List, [], ◌∷◌, codes}
use Rattle.implib.specs.declared.coff.object.Relocation.{Relocation}
use Rattle.implib.specs.declared.machine.MachineType.{MachineType}
use Rattle.implib.specs.declared.machine.MachineType.TheVariants.{I386, ARMNT, AMD64, ARM64}
use Rattle.implib.specs.Worked.Digits.{hex}

-- a relocation at an offset, to the symbol of an index
abbrev pub at : ℕ → ℕ → ℕ → Relocation
at offset symbol kind = record { offset = offset; symbol = symbol; kind = kind }

-- the numbers and bytes that depend on the machine
pub record Numbers : Type 0 where
  -- of the file header; the characteristics are those of the first three members for Microsoft's
  -- linker
  pub machine : ℕ
  pub characteristics : ℕ
  -- the type of an image-relative relocation
  pub image_relative : ℕ
  -- a thunk of zeros, and that of the ordinal 258
  pub null_thunk : List ℕ
  pub thunk_of_258 : List ℕ
  -- the flags of the null thunk's sections
  pub null_thunk_flags : ℕ
  -- the symbols that join the members for GNU's linker
  pub head : List ℕ
  pub iname : List ℕ
  -- the code of an export, and its relocations to symbol 2
  pub stub : List ℕ
  pub stub_relocations : List Relocation

-- the numbers of each machine
abbrev pub numbers : MachineType → Numbers
numbers I386 = record {
  machine = 0x14C;
  characteristics = 0x100;
  image_relative = 7;
  null_thunk = hex "00 00 00 00";
  thunk_of_258 = hex "02 01 00 80";
  null_thunk_flags = 0xC0300040;
  head = codes "__head_foo_dll";
  iname = codes "_foo_dll_iname";
  stub = hex "ff 25 00 00 00 00 90 90";
  stub_relocations = at 2 2 6 ∷ [];
}
numbers ARMNT = record {
  machine = 0x1C4;
  characteristics = 0x100;
  image_relative = 2;
  null_thunk = hex "00 00 00 00";
  thunk_of_258 = hex "02 01 00 80";
  null_thunk_flags = 0xC0300040;
  head = codes "_head_foo_dll";
  iname = codes "foo_dll_iname";
  stub = hex "00 c0 9f e5 00 f0 9c e5 00 00 00 00";
  stub_relocations = at 8 2 0x0A ∷ [];
}
numbers AMD64 = record {
  machine = 0x8664;
  characteristics = 0;
  image_relative = 3;
  null_thunk = hex "00 00 00 00 00 00 00 00";
  thunk_of_258 = hex "02 01 00 00 00 00 00 80";
  null_thunk_flags = 0xC0400040;
  head = codes "_head_foo_dll";
  iname = codes "foo_dll_iname";
  stub = hex "ff 25 00 00 00 00 90 90";
  stub_relocations = at 2 2 4 ∷ [];
}
numbers ARM64 = record {
  machine = 0xAA64;
  characteristics = 0;
  image_relative = 2;
  null_thunk = hex "00 00 00 00 00 00 00 00";
  thunk_of_258 = hex "02 01 00 00 00 00 00 80";
  null_thunk_flags = 0xC0400040;
  head = codes "_head_foo_dll";
  iname = codes "foo_dll_iname";
  stub = hex "10 00 00 90 10 02 40 f9 00 02 1f d6";
  stub_relocations = at 0 2 4 ∷ at 4 2 7 ∷ [];
}
