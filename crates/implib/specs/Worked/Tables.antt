-- The tables of both flavours for foo.dll, held against objects and bytes that were worked by hand.
use Rattle.std.specs.Prelude.{◌≡◌, ℕ, true, List, [], ◌∷◌, ◌++◌, Some, codes, take, drop}
use Rattle.implib.specs.declared.machine.MachineType.{MachineType}
use Rattle.implib.specs.declared.machine.MachineType.TheVariants.{I386, ARMNT, AMD64, ARM64}
use Rattle.implib.specs.Definition.{ExportView, empty_export}
use Rattle.implib.specs.Import.{Name}
use Rattle.implib.specs.Members.Gnu.{export_object, five_digits, head_name, head_object}
use Rattle.implib.specs.Members.Gnu.{head_symbol, iname_symbol, mangled_name, numbered_name}
use Rattle.implib.specs.Members.Gnu.{tail_name, tail_object}
use Rattle.implib.specs.Members.Msvc.{asked_by_short_import, short_import_bytes, short_import_of}
use Rattle.implib.specs.Members.MsvcObjects.{base_name}
use Rattle.implib.specs.Members.WeakExternal.{weak_object}
use Rattle.implib.specs.Members.MsvcObjects as msvc
use Rattle.implib.specs.Formats.GnuReading.{ask_by_gnu, asked_by_gnu}
use Rattle.implib.specs.Formats.Layout.{ObjectLayout}
use Rattle.implib.specs.Formats.ShortImport.{ask_of_short_import}
use Rattle.implib.specs.Formats.Writer.{layout_of}
use Rattle.implib.specs.Worked.Digits.{hex}
use Rattle.implib.specs.Worked.Machines.{numbers}
use Rattle.implib.specs.Worked.Objects.{descriptor, function, function_asking, function_by_ordinal}
use Rattle.implib.specs.Worked.Objects.{head, null_descriptor, null_thunk, tail, variable}
use Rattle.implib.specs.Worked.Objects.{variable_by_ordinal, weak}
use Rattle.implib.specs.Worked.Statements.{plain_export}
use Rattle.implib.specs.LibraryName.{own_names}

-- the import name
abbrev pub foo_dll : List ℕ
foo_dll = codes "foo.dll"

-- The objects for Microsoft's linker, and both weak externals that make foo weak for baz.
pub record WorkedMsvcTables (machine : MachineType) : Type 0 where
  pub descriptor : msvc.descriptor machine (own_names foo_dll) ≡ descriptor (numbers machine)
  pub null_descriptor : msvc.null_descriptor machine ≡ null_descriptor (numbers machine)
  pub null_thunk : msvc.null_thunk machine foo_dll ≡ null_thunk (numbers machine)
  pub weak : weak_object machine (codes "foo") (codes "baz")
      ≡ weak (numbers machine) (codes "baz") (codes "foo")

-- the object of an export of foo.dll for GNU's linker
abbrev pub gnu_export : MachineType → ExportView → ObjectLayout
gnu_export machine e = layout_of (export_object machine foo_dll e)

-- the function bar
abbrev pub bar : ExportView
bar = plain_export (codes "bar")

-- The objects for GNU's linker.
pub record WorkedGnuTables (machine : MachineType) : Type 0 where
  pub head : layout_of (head_object machine foo_dll) ≡ head (numbers machine)
  pub tail : layout_of (tail_object machine (own_names foo_dll)) ≡ tail (numbers machine)
  pub function : gnu_export machine bar ≡ function (numbers machine)
  pub function_by_ordinal : gnu_export machine (record bar { no_name = true; ordinal = 258 })
      ≡ function_by_ordinal (numbers machine)
  pub variable : gnu_export machine (record bar { is_data = true; ordinal = 258 })
      ≡ variable (numbers machine)
  pub variable_by_ordinal : gnu_export machine
      (record bar { is_data = true; no_name = true; ordinal = 258 })
      ≡ variable_by_ordinal (numbers machine)

-- a function that gives the name that the DLL is asked for
abbrev pub asking : List ℕ → List ℕ → ExportView
asking name given = record (plain_export name) { asked_name = Some given }

-- What is asked for in GNU's objects: I386 takes an underscore off, unless there is an `@` or a
-- name is given.
pub record WorkedGnuNames : Type 0 where
  pub underscore_on_i386 : gnu_export I386 (plain_export (codes "_bar"))
      ≡ function_asking (numbers I386) (codes "_bar") (codes "__imp__bar") (hex "00 00 62 61 72 00")
  pub underscore_on_armnt : gnu_export ARMNT (plain_export (codes "_bar"))
      ≡ function_asking (numbers ARMNT) (codes "_bar") (codes "__imp__bar")
      (hex "00 00 5f 62 61 72 00")
  pub with_underscore_and_at_sign : gnu_export I386 (plain_export (codes "_f@8"))
      ≡ function_asking (numbers I386) (codes "_f@8") (codes "__imp__f@8")
      (hex "00 00 5f 66 40 38 00")
  pub with_two_at_signs : gnu_export I386 (plain_export (codes "@h@4"))
      ≡ function_asking (numbers I386) (codes "@h@4") (codes "__imp_@h@4")
      (hex "00 00 40 68 40 34 00")
  pub given_name : gnu_export AMD64 (asking (codes "bar") (codes "b"))
      ≡ function_asking (numbers AMD64) (codes "bar") (codes "__imp_bar") (hex "00 00 62 00")
  pub given_name_with_underscore : gnu_export I386 (asking (codes "_bar") (codes "_b"))
      ≡ function_asking (numbers I386) (codes "_bar") (codes "__imp__bar") (hex "00 00 5f 62 00")

-- a space, and every printable sign that is no letter, and the same with `_` for the full stop
abbrev pub signs : List ℕ
signs = codes " !\"#$%&'()*+,-./0123456789:;<=>?@[\\]^_`{|}~"

abbrev pub signs_mangled : List ℕ
signs_mangled = codes " !\"#$%&'()*+,-_/0123456789:;<=>?@[\\]^_`{|}~"

-- What members and symbols are named after: the import name less one extension, and with `_` for
-- each `.`.
pub record WorkedNames : Type 0 where
  pub base_of_dll : base_name (codes "a-b.dll") ≡ codes "a-b"
  pub base_of_exe : base_name (codes "a.exe") ≡ codes "a"
  pub base_of_sys : base_name (codes "a.sys") ≡ codes "a.sys"
  pub base_of_two : base_name (codes "a.b.dll.dll") ≡ codes "a.b.dll"
  pub base_in_capitals : base_name (codes "a.DLL") ≡ codes "a.DLL"
  pub base_without_full_stop : base_name (codes "dll") ≡ codes "dll"
  pub base_of_extension : base_name (codes ".dll") ≡ []
  pub base_of_drv : base_name (codes "a.drv") ≡ codes "a.drv"
  pub base_of_ocx : base_name (codes "a.ocx") ≡ codes "a.ocx"
  pub base_of_cpl : base_name (codes "a.cpl") ≡ codes "a.cpl"
  pub base_of_exe_in_capitals : base_name (codes "a.EXE") ≡ codes "a.EXE"
  pub base_of_one_capital : base_name (codes "a.Dll") ≡ codes "a.Dll"
  pub base_of_another_sign : base_name (codes "a-dll") ≡ codes "a-dll"
  pub base_with_plus : base_name (codes "a+b.dll") ≡ codes "a+b"
  pub base_of_signs : base_name (signs ++ codes ".exe") ≡ signs
  pub mangled_name_of_sys : mangled_name (codes "a.sys") ≡ codes "a_sys"
  pub mangled_name_of_dll : mangled_name (codes "a-b.dll") ≡ codes "a-b_dll"
  pub mangled_name_of_two : mangled_name (codes "a.b.dll.dll") ≡ codes "a_b_dll_dll"
  pub mangled_name_of_underscore : mangled_name (codes "A_b/@.Dll") ≡ codes "A_b/@_Dll"
  pub mangled_name_of_drv : mangled_name (codes "a.drv") ≡ codes "a_drv"
  pub mangled_name_of_exe_in_capitals : mangled_name (codes "a.EXE") ≡ codes "a_EXE"
  pub mangled_name_with_plus : mangled_name (codes "a+b.dll") ≡ codes "a+b_dll"
  pub mangled_name_with_dollar_sign : mangled_name (codes "a$b") ≡ codes "a$b"
  pub mangled_name_with_space : mangled_name (codes "a b.dll") ≡ codes "a b_dll"
  pub mangled_name_of_signs : mangled_name signs ≡ signs_mangled
  pub descriptor_of_drv : msvc.descriptor_symbol (codes "a+b.drv")
      ≡ codes "__IMPORT_DESCRIPTOR_a+b.drv"
  pub descriptor_of_signs : msvc.descriptor_symbol (signs ++ codes ".dll")
      ≡ codes "__IMPORT_DESCRIPTOR_" ++ signs
  pub null_thunk_of_drv : msvc.null_thunk_symbol (codes "a+b.drv")
      ≡ 0x7F ∷ codes "a+b.drv_NULL_THUNK_DATA"
  pub head_of_drv : head_symbol AMD64 (codes "a+b.drv") ≡ codes "_head_a+b_drv"
  pub head_of_drv_on_i386 : head_symbol I386 (codes "a+b.drv") ≡ codes "__head_a+b_drv"
  pub iname_of_drv : iname_symbol ARMNT (codes "a+b.drv") ≡ codes "a+b_drv_iname"
  pub iname_of_drv_on_i386 : iname_symbol I386 (codes "a+b.drv") ≡ codes "_a+b_drv_iname"
  pub head_member_of_drv : head_name (codes "a+b.drv") ≡ codes "a+b_drv_a_h.o"
  pub tail_member_of_drv : tail_name (codes "a+b.drv") ≡ codes "a+b_drv_a_t.o"
  pub numbered_member_of_drv : numbered_name (codes "a+b.drv") (codes "w") 12345
      ≡ codes "a+b_drv_a_w12345.o"
  pub first_number : five_digits 0 ≡ codes "00000"
  pub greatest_number_of_five : five_digits 99999 ≡ codes "99999"
  pub number_of_six : five_digits 100000 ≡ codes "100000"

-- the short import of an export of foo.dll
abbrev pub short_import_bytes_for : MachineType → ExportView → List ℕ
short_import_bytes_for machine e = short_import_bytes (short_import_of machine foo_dll e)

-- a function that is linked by another name than the DLL's
abbrev pub under_symbol : List ℕ → List ℕ → ExportView
under_symbol name symbol = record empty_export { name = name; symbol_name = symbol }

-- two texts, each with its NUL
abbrev pub texts : List ℕ → List ℕ → List ℕ
texts symbol dll = symbol ++ 0 ∷ (dll ++ 0 ∷ [])

-- Whole short imports. The last four bytes of a header are the ordinal or hint, and the import type
-- with 4 times the name type.
pub record WorkedRecords : Type 0 where
  pub on_i386 : short_import_bytes_for I386 bar
      ≡ hex "00 00 ff ff 00 00 4c 01 00 00 00 00 0c 00 00 00 00 00 04 00" ++ texts (codes "bar") foo_dll
  pub on_armnt : short_import_bytes_for ARMNT bar
      ≡ hex "00 00 ff ff 00 00 c4 01 00 00 00 00 0c 00 00 00 00 00 04 00" ++ texts (codes "bar") foo_dll
  pub on_amd64 : short_import_bytes_for AMD64 bar
      ≡ hex "00 00 ff ff 00 00 64 86 00 00 00 00 0c 00 00 00 00 00 04 00" ++ texts (codes "bar") foo_dll
  pub on_arm64 : short_import_bytes_for ARM64 bar
      ≡ hex "00 00 ff ff 00 00 64 aa 00 00 00 00 0c 00 00 00 00 00 04 00" ++ texts (codes "bar") foo_dll
  pub hint : short_import_bytes_for AMD64 (record bar { ordinal = 0x1234 })
      ≡ hex "00 00 ff ff 00 00 64 86 00 00 00 00 0c 00 00 00 34 12 04 00" ++ texts (codes "bar") foo_dll
  pub constant_by_ordinal :
      short_import_bytes_for AMD64 (record bar { constant = true; no_name = true; ordinal = 2 })
      ≡ hex "00 00 ff ff 00 00 64 86 00 00 00 00 0c 00 00 00 02 00 02 00" ++ texts (codes "bar") foo_dll
  pub data_without_prefix :
      short_import_bytes_for I386 (record empty_export { name = codes "_v"; is_data = true })
      ≡ hex "00 00 ff ff 00 00 4c 01 00 00 00 00 0b 00 00 00 00 00 09 00" ++ texts (codes "_v") foo_dll
  pub undecorated : short_import_bytes_for AMD64 (under_symbol (codes "f") (codes "_f@8"))
      ≡ hex "00 00 ff ff 00 00 64 86 00 00 00 00 0d 00 00 00 00 00 0c 00" ++ texts (codes "_f@8") foo_dll
  -- a short import byte by byte
  pub bytes : short_import_bytes_for AMD64 bar
      ≡ hex "00 00 ff ff 00 00 64 86 00 00 00 00 0c 00 00 00 00 00 04 00 62 61 72 00 66 6f 6f 2e 64 6c 6c 00"

-- the last two bytes of a short import's header
abbrev pub types_of : MachineType → ExportView → List ℕ
types_of machine e = take 2 (drop 18 (short_import_bytes_for machine e))

-- Which name type is taken where several rules hold.
pub record WorkedNameTypes : Type 0 where
  pub no_rule : types_of AMD64 (plain_export (codes "_f")) ≡ hex "04 00"
  pub prefix : types_of I386 (plain_export (codes "_f")) ≡ hex "08 00"
  pub prefix_on_armnt : types_of ARMNT (plain_export (codes "_f")) ≡ hex "04 00"
  pub other_symbol : types_of ARM64 (under_symbol (codes "f") (codes "g")) ≡ hex "0c 00"
  pub decorated_before_prefix : types_of I386 (plain_export (codes "_f@8")) ≡ hex "04 00"
  pub decorated_before_other_symbol : types_of I386 (under_symbol (codes "_f@8") (codes "_g"))
      ≡ hex "04 00"
  pub decorated_on_amd64 : types_of AMD64 (under_symbol (codes "_f@8") (codes "g")) ≡ hex "04 00"
  pub at_sign_alone : types_of I386 (under_symbol (codes "f@8") (codes "g")) ≡ hex "0c 00"
  pub underscore_alone : types_of I386 (under_symbol (codes "_f") (codes "g")) ≡ hex "0c 00"
  pub other_symbol_before_prefix : types_of I386 (under_symbol (codes "f") (codes "_g"))
      ≡ hex "0c 00"
  pub data_under_symbol : types_of AMD64
      (record (under_symbol (codes "f") (codes "g")) { is_data = true })
      ≡ hex "0d 00"
  pub constant_under_symbol : types_of I386
      (record (under_symbol (codes "f") (codes "_g")) { constant = true })
      ≡ hex "0e 00"
  pub both_under_symbol :
      types_of ARMNT
      (record (under_symbol (codes "f") (codes "g")) { is_data = true; constant = true })
      ≡ hex "0d 00"
  pub constant_with_prefix :
      types_of I386 (record empty_export { name = codes "_v"; constant = true }) ≡ hex "0a 00"
  pub decorated_data : types_of I386 (record empty_export { name = codes "_v@8"; is_data = true })
      ≡ hex "05 00"
  pub question_mark : types_of I386 (plain_export (codes "?f@@YAXXZ")) ≡ hex "04 00"
  pub question_mark_as_symbol : types_of AMD64 (under_symbol (codes "f") (codes "?f@@YAXXZ"))
      ≡ hex "0c 00"
  pub question_mark_under_symbol : types_of I386 (under_symbol (codes "?f@@YAXXZ") (codes "_f"))
      ≡ hex "0c 00"
  pub own_symbol : types_of I386 (under_symbol (codes "_f") (codes "_f")) ≡ hex "08 00"
  pub ordinal_before_all : types_of I386
      (record (under_symbol (codes "_f@8") (codes "_g")) { no_name = true })
      ≡ hex "00 00"
  -- the first that makes the given name of the symbol
  pub given_whole : types_of I386 (asking (codes "_F@8") (codes "_F@8")) ≡ hex "04 00"
  pub given_without_prefix : types_of I386 (asking (codes "_F@8") (codes "F@8")) ≡ hex "08 00"
  pub given_undecorated : types_of I386 (asking (codes "_F@8") (codes "F")) ≡ hex "0c 00"
  pub given_own_name : types_of AMD64 (asking (codes "f") (codes "f")) ≡ hex "04 00"
  pub given_of_fastcall : types_of I386 (asking (codes "@F@8") (codes "F")) ≡ hex "0c 00"
  pub given_with_underscore : types_of I386 (asking (codes "_f") (codes "_f")) ≡ hex "04 00"
  pub given_of_symbol_name :
      types_of I386
      (record (under_symbol (codes "a") (codes "_b@4")) { asked_name = Some (codes "b") })
      ≡ hex "0c 00"
  -- where symbols have no underscore none is cut, and `?` and `@` are
  pub given_on_armnt : types_of ARMNT (asking (codes "_f") (codes "f")) ≡ hex "04 00"
  pub given_on_amd64 : types_of AMD64 (asking (codes "_f") (codes "f")) ≡ hex "04 00"
  pub given_on_arm64 : types_of ARM64 (asking (codes "_f@4") (codes "f")) ≡ hex "04 00"
  pub given_behind_question_mark : types_of AMD64 (asking (codes "?f@8") (codes "f@8")) ≡ hex "08 00"
  pub given_beside_ordinal : types_of I386
      (record (asking (codes "_F@8") (codes "F")) { no_name = true })
      ≡ hex "00 00"

-- What short imports ask for, by their name type.
pub record WorkedAskedNames : Type 0 where
  pub whole : asked_by_short_import AMD64 (plain_export (codes "_f")) ≡ codes "_f"
  pub whole_decorated : asked_by_short_import I386 (under_symbol (codes "_f@8") (codes "_g@4"))
      ≡ codes "_g@4"
  pub without_prefix : asked_by_short_import I386 (plain_export (codes "__f")) ≡ codes "_f"
  pub without_question_mark : asked_by_short_import AMD64
      (under_symbol (codes "f") (codes "?f@@YAXXZ"))
      ≡ codes "f"
  pub without_at_sign : asked_by_short_import AMD64 (under_symbol (codes "f") (codes "@g@4"))
      ≡ codes "g"
  pub without_underscore : asked_by_short_import AMD64 (under_symbol (codes "f") (codes "_g@4"))
      ≡ codes "g"
  pub one_prefix_alone : asked_by_short_import AMD64 (under_symbol (codes "f") (codes "??g"))
      ≡ codes "?g"
  pub without_prefix_or_end : asked_by_short_import AMD64 (under_symbol (codes "f") (codes "g"))
      ≡ codes "g"
  pub given_whole : asked_by_short_import I386 (asking (codes "_F@8") (codes "_F@8")) ≡ codes "_F@8"
  pub given_without_prefix : asked_by_short_import I386 (asking (codes "_F@8") (codes "F@8"))
      ≡ codes "F@8"
  pub given_undecorated : asked_by_short_import I386 (asking (codes "_F@8") (codes "F")) ≡ codes "F"
  -- there a short import asks for such a symbol whole: such a definition is refused
  pub given_on_amd64 : asked_by_short_import AMD64 (asking (codes "__f") (codes "_f")) ≡ codes "__f"
  -- GNU `ld` takes an underscore off on I386 alone
  pub by_gnu_on_i386 : asked_by_gnu 0x14C 2 (codes "__f") ≡ codes "_f"
  pub by_gnu_on_armnt : asked_by_gnu 0x1C4 2 (codes "__f") ≡ codes "__f"
  pub by_gnu_on_amd64 : asked_by_gnu 0x8664 3 (codes "_f@8") ≡ codes "_f"
  pub by_gnu_on_arm64 : asked_by_gnu 0xAA64 2 (codes "@f@8") ≡ codes "f@8"
  pub by_gnu_question_mark : asked_by_gnu 0x8664 3 (codes "?f@@YAXXZ") ≡ codes "f"
  pub by_gnu_whole : asked_by_gnu 0x14C 1 (codes "_f") ≡ codes "_f"
  -- so by a symbol name the two can ask for two names
  pub by_gnu_of_symbol_name : ask_by_gnu
      (short_import_of AMD64 (codes "foo.dll") (under_symbol (codes "foo") (codes "_foo@8")))
      ≡ Name (codes "_foo") 0
  pub by_lld_of_symbol_name : ask_of_short_import
      (short_import_of AMD64 (codes "foo.dll") (under_symbol (codes "foo") (codes "_foo@8")))
      ≡ Name (codes "foo") 0
  -- no name type makes b of a: such a definition is refused
  pub given_of_no_name_type : asked_by_short_import AMD64 (asking (codes "a") (codes "b"))
      ≡ codes "a"
