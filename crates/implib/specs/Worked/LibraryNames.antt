-- Definitions whose library has a name of its own, with what their members are or why they have
-- none, worked by hand.
use Rattle.std.specs.Prelude.{◌≡◌, ℕ, List, [], ◌∷◌, ◌++◌, Some, None, codes}
use Rattle.implib.specs.declared.flavor.Flavor.TheVariants.{Msvc, Gnu}
use Rattle.implib.specs.declared.machine.MachineType.TheVariants.{I386, AMD64, ARM64}
use Rattle.implib.specs.Definition.{DefinitionView, ExportView, empty_export}
use Rattle.implib.specs.Fault.{Cause, EmptyImportName, EmptyLibraryName, EmptyName}
use Rattle.implib.specs.Fault.{LineEndInLibraryName, NulInImportName, NulInLibraryName}
use Rattle.implib.specs.Members.Members.{refusal}
use Rattle.implib.specs.Worked.Gnu.{HasGnuMembers, shown}
use Rattle.implib.specs.Worked.Members.{HasMembers, of_dll}
use Rattle.implib.specs.Worked.Statements.{plain_export}

-- a definition of an import name and exports, whose library has this name
abbrev pub of_library : List ℕ → List ℕ → List ExportView → DefinitionView
of_library library dll exports = record (of_dll dll exports) { library_name = Some library }

-- foo.drv with the function bar, whose library has this name
abbrev pub driver : List ℕ → DefinitionView
driver library = of_library library (codes "foo.drv") (plain_export (codes "bar") ∷ [])

-- An export that is weak for another, so that each kind of member occurs.
abbrev pub weak_export : ExportView
weak_export = record (plain_export (codes "bar")) { alias_target = codes "baz" }

-- For GNU's linker, the members and the symbols of the head and the tail are named after the
-- library: a.b, with `a_b` for it, has four characters less than foo.dll with `foo_dll`. The DLL's
-- text is as long as foo.dll.
pub record WorkedGnuNames : Type 0 where
  pub one_function : HasGnuMembers (driver (codes "a.b")) AMD64
      (shown (codes "a_b_a_t.o") 352 (codes "a_b_iname" ∷ [])
      ∷ shown (codes "a_b_a_h.o") 442 (codes "_head_a_b" ∷ [])
      ∷ shown (codes "a_b_a_s00000.o") 470 (codes "bar" ∷ codes "__imp_bar" ∷ [])
      ∷ [])
  pub weak_i386 : HasGnuMembers (of_library (codes "foo.dll_1") (codes "zoo") (weak_export ∷ []))
      I386
      (shown (codes "foo_dll_1_a_t.o") 347 (codes "_foo_dll_1_iname" ∷ [])
      ∷ shown (codes "foo_dll_1_a_h.o") 456 (codes "__head_foo_dll_1" ∷ [])
      ∷ shown (codes "foo_dll_1_a_s00000.o") 469 (codes "bar" ∷ codes "__imp_bar" ∷ [])
      ∷ shown (codes "foo_dll_1_a_x00000.o") 174 (codes "__imp_bar" ∷ [])
      ∷ shown (codes "foo_dll_1_a_w00000.o") 162 (codes "bar" ∷ [])
      ∷ [])

-- For Microsoft's linker, the members are named zoo.dll and their symbols after zoo, whatever the
-- ending of the DLL's name; an ending of the library's name stays.
pub record WorkedMsvcNames : Type 0 where
  pub one_function : HasMembers (driver (codes "zoo")) AMD64
      (shown (codes "zoo.dll") 358 (codes "__IMPORT_DESCRIPTOR_zoo" ∷ [])
      ∷ shown (codes "zoo.dll") 127 (codes "__NULL_IMPORT_DESCRIPTOR" ∷ [])
      ∷ shown (codes "zoo.dll") 159 ((0x7F ∷ codes "zoo_NULL_THUNK_DATA") ∷ [])
      ∷ shown (codes "zoo.dll") 32 (codes "__imp_bar" ∷ codes "bar" ∷ [])
      ∷ [])
  pub weak_i386 : HasMembers (of_library (codes "a.dll") (codes "KERNEL32.DLL") (weak_export ∷ []))
      I386
      (shown (codes "a.dll.dll") 367 (codes "__IMPORT_DESCRIPTOR_a.dll" ∷ [])
      ∷ shown (codes "a.dll.dll") 127 (codes "__NULL_IMPORT_DESCRIPTOR" ∷ [])
      ∷ shown (codes "a.dll.dll") 153 ((0x7F ∷ codes "a.dll_NULL_THUNK_DATA") ∷ [])
      ∷ shown (codes "a.dll.dll") 162 (codes "bar" ∷ [])
      ∷ shown (codes "a.dll.dll") 174 (codes "__imp_bar" ∷ [])
      ∷ shown (codes "a.dll.dll") 37 (codes "__imp_bar" ∷ codes "bar" ∷ [])
      ∷ [])

-- the definition is refused for this cause, in either flavour
abbrev pub IsRefusedInBoth : DefinitionView → Cause → Type 0
IsRefusedInBoth d cause = (refusal d ARM64 Msvc ≡ Some cause) × (refusal d ARM64 Gnu ≡ Some cause)

-- the definition is accepted in either flavour
abbrev pub IsAcceptedInBoth : DefinitionView → Type 0
IsAcceptedInBoth d = (refusal d ARM64 Msvc ≡ None) × (refusal d ARM64 Gnu ≡ None)

-- Names of libraries that are refused: after the DLL's name, before the exports.
pub record WorkedNameRefusals : Type 0 where
  pub empty : IsRefusedInBoth (driver []) EmptyLibraryName
  pub nul : IsRefusedInBoth (driver (codes "a" ++ 0 ∷ codes "b")) NulInLibraryName
  pub line_end : IsRefusedInBoth (driver (codes "a" ++ 10 ∷ [])) LineEndInLibraryName
  pub nul_before_line_end : IsRefusedInBoth (driver (10 ∷ 0 ∷ [])) NulInLibraryName
  pub carriage_return : IsAcceptedInBoth (driver (codes "a" ++ 13 ∷ []))
  pub dll_before_library : IsRefusedInBoth (of_library [] [] []) EmptyImportName
  pub nul_in_dll_before_library : IsRefusedInBoth (of_library [] (0 ∷ []) []) NulInImportName
  pub library_before_exports : IsRefusedInBoth (of_library [] (codes "a") (empty_export ∷ []))
      EmptyLibraryName
  pub then_exports : IsRefusedInBoth (of_library (codes "b") (codes "a") (empty_export ∷ []))
      (EmptyName 0)

-- what was worked by hand of libraries with a name of their own
pub record WorkedLibraryNames : Type 0 where
  pub gnu : WorkedGnuNames
  pub msvc : WorkedMsvcNames
  pub refusals : WorkedNameRefusals
