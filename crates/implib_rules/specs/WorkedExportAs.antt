-- Libraries with third texts worked by hand, their short imports byte by byte as llvm-dlltool 19
-- writes them; and what is read of such short imports.
use Rattle.std.specs.Prelude.{◌≡◌, ℕ, ◌<◌, ◌≤◌, ◌^◌, List, [], ◌∷◌, true, false, None, Some, codes}
use Rattle.std.specs.Prelude.{drop, map}
use Rattle.implib.specs.declared.flavor.Flavor.TheVariants.{Msvc}
use Rattle.implib.specs.declared.machine.MachineType.{MachineType}
use Rattle.implib.specs.declared.machine.MachineType.TheVariants.{I386, ARMNT, AMD64, ARM64}
use Rattle.implib.specs.Definition.{DefinitionView, ExportView, empty_definition}
use Rattle.implib.specs.Fault.{EmptyAskedName, NoNameType}
use Rattle.implib.specs.Import.{Name, holds, import_symbols}
use Rattle.implib.specs.Machine.{machine_number}
use Rattle.implib.specs.Members.MemberSpec.{file_bytes}
use Rattle.implib.specs.Members.NameRules.{definition_names_refusal}
use Rattle.implib.specs.Members.Msvc.{short_import_bytes, short_import_size, short_import_symbol}
use Rattle.implib_rules.specs.ExportAs.{definition_made, exported_name, export_as_import}
use Rattle.implib_rules.specs.ExportAs.{export_as_in, refusal_made, specs_made}
use Rattle.implib_rules.specs.Linked.{NamingView, linked}
use Rattle.implib_rules.specs.WorkedNames.{line}

-- the rules of `--export-as`
abbrev pub exporting : NamingView
exporting = record {
  is_plain = false;
  kills_at = false;
  exports_as = true;
  keeps_decorated = false;
}

-- the rules of both `-k` and `--export-as`
abbrev pub killing_and_exporting : NamingView
killing_and_exporting =
    record { is_plain = false; kills_at = true; exports_as = true; keeps_decorated = false }

-- `bar`, `a == b`, `c == bar`, `d == e DATA`, `f @7 == g` and `p == q PRIVATE` of foo.dll
abbrev pub with_names : DefinitionView
with_names = record empty_definition {
  import_name = codes "foo.dll";
  exports = line (codes "bar") [] ∷ line (codes "a") (codes "b") ∷ line (codes "c") (codes "bar")
      ∷ record (line (codes "d") (codes "e")) { is_data = true }
      ∷ record (line (codes "f") (codes "g")) { ordinal = 7 }
      ∷ record (line (codes "p") (codes "q")) { private = true } ∷ [];
}

-- `F@4`, `a == F` and `b == F@4`
abbrev pub with_stdcall : DefinitionView
with_stdcall = record empty_definition {
  import_name = codes "foo.dll";
  exports = line (codes "F@4") [] ∷ line (codes "a") (codes "F") ∷ line (codes "b") (codes "F@4")
      ∷ [];
}

-- the archive symbols of the members after the first three, in order
abbrev pub symbols_after_header : MachineType → NamingView → DefinitionView → List (List (List ℕ))
symbols_after_header machine naming d =
    map (λ p. p.symbols) (drop 3 (specs_made naming machine Msvc (linked machine naming Msvc d)))

-- the bytes of the members from a place on
abbrev pub bytes_from : ℕ → MachineType → NamingView → DefinitionView → List (List ℕ)
bytes_from place machine naming d =
    map (λ p. file_bytes p.contents)
    (drop place (specs_made naming machine Msvc (linked machine naming Msvc d)))

-- what such libraries have
pub record ExportAsWorked : Type 0 where
  -- an import by another name type first; then, in the order of the exports, third texts and weak
  -- externals
  pub amd64 : symbols_after_header AMD64 exporting with_names
      ≡ (codes "__imp_bar" ∷ codes "bar" ∷ []) ∷ (codes "__imp_a" ∷ codes "a" ∷ [])
      ∷ (codes "c" ∷ []) ∷ (codes "__imp_c" ∷ [])
      ∷ (codes "__imp_d" ∷ []) ∷ (codes "__imp_f" ∷ codes "f" ∷ []) ∷ []
  pub i386 : symbols_after_header I386 exporting with_names
      ≡ (codes "__imp__bar" ∷ codes "_bar" ∷ []) ∷ (codes "__imp__a" ∷ codes "_a" ∷ [])
      ∷ (codes "_c" ∷ []) ∷ (codes "__imp__c" ∷ [])
      ∷ (codes "__imp__d" ∷ []) ∷ (codes "__imp__f" ∷ codes "_f" ∷ []) ∷ []
  -- with `-k` `F@4` asks for F, so that a is weak for it, and nothing asks for `F@4` but b
  pub killed : symbols_after_header I386 killing_and_exporting with_stdcall
      ≡ (codes "__imp__F@4" ∷ codes "_F@4" ∷ []) ∷ (codes "_a" ∷ []) ∷ (codes "__imp__a" ∷ [])
      ∷ (codes "__imp__b" ∷ codes "_b" ∷ []) ∷ []
  -- data, and a function with a hint: llvm-dlltool 19's bytes
  pub data_bytes : bytes_from 7 AMD64 exporting with_names
      ≡ (0 ∷ 0 ∷ 0xFF ∷ 0xFF ∷ 0 ∷ 0 ∷ 0x64 ∷ 0x86 ∷ 0 ∷ 0 ∷ 0 ∷ 0 ∷ 0x0C ∷ 0 ∷ 0 ∷ 0 ∷ 0 ∷ 0 ∷ 0x11 ∷ 0
      ∷ 0x64 ∷ 0 ∷ 0x66 ∷ 0x6F ∷ 0x6F ∷ 0x2E ∷ 0x64 ∷ 0x6C ∷ 0x6C ∷ 0 ∷ 0x65 ∷ 0 ∷ [])
      ∷ (0 ∷ 0 ∷ 0xFF ∷ 0xFF ∷ 0 ∷ 0 ∷ 0x64 ∷ 0x86 ∷ 0 ∷ 0 ∷ 0 ∷ 0 ∷ 0x0C ∷ 0 ∷ 0 ∷ 0 ∷ 7 ∷ 0 ∷ 0x10 ∷ 0
      ∷ 0x66 ∷ 0 ∷ 0x66 ∷ 0x6F ∷ 0x6F ∷ 0x2E ∷ 0x64 ∷ 0x6C ∷ 0x6C ∷ 0 ∷ 0x67 ∷ 0 ∷ [])
      ∷ []
  pub underscored_bytes : bytes_from 8 I386 exporting with_names
      ≡ (0 ∷ 0 ∷ 0xFF ∷ 0xFF ∷ 0 ∷ 0 ∷ 0x4C ∷ 0x01 ∷ 0 ∷ 0 ∷ 0 ∷ 0 ∷ 0x0D ∷ 0 ∷ 0 ∷ 0 ∷ 7 ∷ 0 ∷ 0x10 ∷ 0
      ∷ 0x5F ∷ 0x66 ∷ 0 ∷ 0x66 ∷ 0x6F ∷ 0x6F ∷ 0x2E ∷ 0x64 ∷ 0x6C ∷ 0x6C ∷ 0 ∷ 0x67 ∷ 0 ∷ [])
      ∷ []
  -- no third text for a name that another name type makes, for an empty one, for an ordinal, for an
  -- alias
  pub by_name : exported_name I386
      (record (line (codes "_f@4") []) { asked_name = Some (codes "f@4") }) ≡ None
  pub undecorated : exported_name I386
      (record (line (codes "_f@4") []) { asked_name = Some (codes "f") }) ≡ None
  pub other : exported_name I386
      (record (line (codes "_f@4") []) { asked_name = Some (codes "_f") }) ≡ Some (codes "_f")
  pub symbol_named : exported_name I386
      (record (line (codes "g") []) { symbol_name = codes "_f@4"; asked_name = Some (codes "f") })
      ≡ None
  -- on other machines than I386 no name type cuts, so that such a name is a third text
  pub uncut_on_armnt : exported_name ARMNT
      (record (line (codes "__f") []) { asked_name = Some (codes "_f") }) ≡ Some (codes "_f")
  pub uncut_on_amd64 : exported_name AMD64
      (record (line (codes "__f") []) { asked_name = Some (codes "_f") }) ≡ Some (codes "_f")
  pub uncut_on_arm64 : exported_name ARM64
      (record (line (codes "f@8") []) { asked_name = Some (codes "f") }) ≡ Some (codes "f")
  pub empty_name : exported_name AMD64 (record (line (codes "f") []) { asked_name = Some [] })
      ≡ None
  pub by_ordinal : exported_name AMD64
      (record (line (codes "f") []) { asked_name = Some (codes "g"); no_name = true }) ≡ None
  pub alias : exported_name AMD64
      (record (line (codes "f") (codes "h")) { asked_name = Some (codes "g") }) ≡ None
  -- without the option the same name is refused, and an empty one is with it
  pub refused : refusal_made (record exporting { exports_as = false }) AMD64 Msvc
      (record empty_definition {
        import_name = codes "foo.dll";
        exports = record (line (codes "f") []) { asked_name = Some (codes "g") } ∷ [];
      }) ≡ Some (NoNameType 0)
  pub accepted : definition_names_refusal
      (definition_made exporting AMD64 Msvc (record empty_definition {
        import_name = codes "foo.dll";
        exports = record (line (codes "f") []) { asked_name = Some (codes "g") } ∷ [];
      })) AMD64 Msvc ≡ None
  pub empty_refused : refusal_made exporting AMD64 Msvc (record empty_definition {
    import_name = codes "foo.dll";
    exports = record (line (codes "f") []) { asked_name = Some [] } ∷ [];
  }) ≡ Some (EmptyAskedName 0)
  -- a fourth text, another name type and another size are no such import
  pub four_texts : export_as_in
      (0 ∷ 0 ∷ 0xFF ∷ 0xFF ∷ 0 ∷ 0 ∷ 0x64 ∷ 0x86 ∷ 0 ∷ 0 ∷ 0 ∷ 0 ∷ 8 ∷ 0 ∷ 0 ∷ 0 ∷ 0 ∷ 0 ∷ 0x10 ∷ 0 ∷ 0x61 ∷ 0 ∷ 0x62 ∷ 0 ∷ 0x63 ∷ 0 ∷ 0x64 ∷ 0 ∷ []) ≡ None
  pub other_type : export_as_in
      (0 ∷ 0 ∷ 0xFF ∷ 0xFF ∷ 0 ∷ 0 ∷ 0x64 ∷ 0x86 ∷ 0 ∷ 0 ∷ 0 ∷ 0 ∷ 6 ∷ 0 ∷ 0 ∷ 0 ∷ 0 ∷ 0 ∷ 0x0C ∷ 0 ∷ 0x61 ∷ 0 ∷ 0x62 ∷ 0 ∷ 0x63 ∷ 0 ∷ []) ≡ None
  pub other_size : export_as_in
      (0 ∷ 0 ∷ 0xFF ∷ 0xFF ∷ 0 ∷ 0 ∷ 0x64 ∷ 0x86 ∷ 0 ∷ 0 ∷ 0 ∷ 0 ∷ 7 ∷ 0 ∷ 0 ∷ 0 ∷ 0 ∷ 0 ∷ 0x10 ∷ 0 ∷ 0x61 ∷ 0 ∷ 0x62 ∷ 0 ∷ 0x63 ∷ 0 ∷ []) ≡ None
  pub read : export_as_in
      (0 ∷ 0 ∷ 0xFF ∷ 0xFF ∷ 0 ∷ 0 ∷ 0x64 ∷ 0x86 ∷ 0 ∷ 0 ∷ 0 ∷ 0 ∷ 6 ∷ 0 ∷ 0 ∷ 0 ∷ 9 ∷ 0 ∷ 0x10 ∷ 0 ∷ 0x61 ∷ 0 ∷ 0x62 ∷ 0 ∷ 0x63 ∷ 0 ∷ [])
      ≡ Some record {
        machine = 0x8664;
        symbol = codes "a";
        import = record {
          dll = codes "b";
          declared = codes "__imp_a" ∷ codes "a" ∷ [];
          ask = Name (codes "c") 9;
        };
      }

-- A short import with a third text is read as the import of its export: of its DLL, declared by its
-- symbol, and asking for the third text. No text holds a NUL, and the size and the hint fit their
-- fields.
abbrev pub ExportAsReads : Type 0
ExportAsReads =
    (machine : MachineType) (dll : List ℕ) (e : ExportView) (name : List ℕ)
    → holds 0 (short_import_symbol e) ≡ false → holds 0 dll ≡ false → holds 0 name ≡ false
    → e.ordinal < 2 ^ 16 → short_import_size (export_as_import machine dll e name) ≤ 0xFFFF_FFFF
    → export_as_in (short_import_bytes (export_as_import machine dll e name)) ≡ Some record {
      machine = machine_number machine;
      symbol = short_import_symbol e;
      import = record {
        dll = dll;
        declared = import_symbols e.is_data (short_import_symbol e);
        ask = Name name e.ordinal;
      };
    }
