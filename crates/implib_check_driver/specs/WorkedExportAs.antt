-- What definitions mean with `--export-as`, worked by hand, and a library beside its definition,
-- with its index.
use Rattle.std.specs.Prelude.{◌≡◌, ℕ, List, [], ◌∷◌, ◌++◌, codes, true}
use Rattle.implib.specs.declared.flavor.Flavor.{Flavor}
use Rattle.implib.specs.declared.flavor.Flavor.TheVariants.{Gnu, Msvc}
use Rattle.implib.specs.declared.machine.MachineType.TheVariants.{AMD64}
use Rattle.implib.specs.Definition.{DefinitionView, empty_definition}
use Rattle.implib.specs.Import.{Import, Name}
use Rattle.implib_read.specs.Archives.{Archive, StoredMember}
use Rattle.implib_read.specs.Classes.{AnImport, Class, Descriptor, MemberRead, NotUnderstood}
use Rattle.implib_read.specs.Classes.{NullDescriptor, NullThunk}
use Rattle.implib_read.specs.MemberNames.{LinkerMember}
use Rattle.implib_read.specs.declared.import.ImportKind.TheVariants.{Code}
use Rattle.implib_rules.specs.Linked.{NamingView, linked}
use Rattle.implib_rules.specs.WorkedExportAs.{exporting}
use Rattle.implib_rules.specs.WorkedNames.{line}
use Rattle.implib_check_driver.specs.OwnExportAs.{SaysWhatIsMade, imports_made}
use Rattle.implib_check_driver.specs.OwnIndexes.{IndexesLead}
use Rattle.implib_check_driver.specs.OwnLibraries.{aliases_meant}

-- `a == b` and `bar` of foo.dll
abbrev pub two : DefinitionView
two = record empty_definition {
  import_name = codes "foo.dll";
  exports = line (codes "a") (codes "b") ∷ line (codes "bar") [] ∷ [];
}

-- `a == b`, `bar`, `c == bar`, `d == e DATA` and `f @7 == g` of foo.dll
abbrev pub five : DefinitionView
five = record empty_definition {
  import_name = codes "foo.dll";
  exports = line (codes "a") (codes "b") ∷ line (codes "bar") [] ∷ line (codes "c") (codes "bar")
      ∷ record (line (codes "d") (codes "e")) { is_data = true }
      ∷ record (line (codes "f") (codes "g")) { ordinal = 7 } ∷ [];
}

-- the imports of a definition, as it is linked on AMD64
abbrev pub imports_on : NamingView → Flavor → DefinitionView → List Import
imports_on naming flavor d = imports_made naming flavor AMD64 (linked AMD64 naming flavor d)

-- an import of foo.dll
abbrev pub of_foo : List (List ℕ) → List ℕ → ℕ → Import
of_foo declared name hint =
    record { dll = codes "foo.dll"; declared = declared; ask = Name name hint }

-- a member for this
abbrev pub member : Class → MemberRead
member class = record { name = codes "foo.dll"; offset = 0; class = class }

-- an import of foo.dll on AMD64
abbrev pub import_of : List (List ℕ) → List ℕ → Class
import_of declared name =
    AnImport (record { imports = of_foo declared name 0; kind = Code; machine = 0x8664 })

-- the members of a library for Microsoft's linker, with two after the tables
abbrev pub with_two : Class → Class → List MemberRead
with_two first second =
    member Descriptor ∷ member NullDescriptor ∷ member NullThunk ∷ member first ∷ member second ∷ []

-- these are what the two exports mean with third texts
abbrev pub TwoSay : List MemberRead → Type 0
TwoSay meant = SaysWhatIsMade exporting (linked AMD64 exporting Msvc two) AMD64 Msvc meant

-- the import of bar, and that of a, which asks for b
abbrev pub bar : Class
bar = import_of (codes "__imp_bar" ∷ codes "bar" ∷ []) (codes "bar")

abbrev pub a_as_b : Class
a_as_b = import_of (codes "__imp_a" ∷ codes "a" ∷ []) (codes "b")

-- The short import of a from foo.dll on AMD64, with the third text b, and its header at 0x48. It
-- declares `__imp_a` and a.
abbrev pub third_text : StoredMember
third_text = record {
  name = codes "foo.dll";
  offset = 0x48;
  bytes = 0 ∷ 0 ∷ 0xFF ∷ 0xFF ∷ 0 ∷ 0 ∷ 0x64 ∷ 0x86 ∷ 0 ∷ 0 ∷ 0 ∷ 0 ∷ 12 ∷ 0 ∷ 0 ∷ 0 ∷ 0 ∷ 0 ∷ 0x10 ∷ 0 ∷ codes "a\0foo.dll\0b\0";
}

-- an archive of that member, with one linker member, whose one entry leads from a symbol to an
-- offset
abbrev pub with_entry : List ℕ → ℕ → Archive
with_entry symbol offset = record {
  parts = record { offset = 8; name = LinkerMember; contents = 0 ∷ 0 ∷ 0 ∷ 1 ∷ 0 ∷ 0 ∷ 0 ∷ offset ∷ symbol ++ 0 ∷ [] } ∷ [];
  members = third_text ∷ [];
}

-- What is meant.
pub record WorkedExportAs : Type 0 where
  -- the import without a third text is first, and the alias c is none
  pub msvc : imports_on exporting Msvc five
      ≡ of_foo (codes "__imp_bar" ∷ codes "bar" ∷ []) (codes "bar") 0
      ∷ of_foo (codes "__imp_a" ∷ codes "a" ∷ []) (codes "b") 0
      ∷ of_foo (codes "__imp_d" ∷ []) (codes "e") 0
      ∷ of_foo (codes "__imp_f" ∷ codes "f" ∷ []) (codes "g") 7 ∷ []
  pub aliases : aliases_meant Msvc (linked AMD64 exporting Msvc five)
      ≡ record { weak = codes "c"; target = codes "bar" }
      ∷ record { weak = codes "__imp_c"; target = codes "__imp_bar" } ∷ []
  -- in the order of the exports for GNU's linker
  pub gnu : imports_on exporting Gnu two
      ≡ of_foo (codes "__imp_a" ∷ codes "a" ∷ []) (codes "b") 0
      ∷ of_foo (codes "__imp_bar" ∷ codes "bar" ∷ []) (codes "bar") 0 ∷ []
  -- a library of the two exports; not so in their order, where a asks for its own name, and where
  -- it is not read
  pub says : TwoSay (with_two bar a_as_b)
  pub other_order : TwoSay (with_two a_as_b bar) → ⊥
  pub own_name : TwoSay (with_two bar (import_of (codes "__imp_a" ∷ codes "a" ∷ []) (codes "a"))) →
      ⊥
  pub not_read : TwoSay (with_two bar NotUnderstood) → ⊥
  -- an index that leads a symbol of a short import with a third text; the text is none
  pub leads : IndexesLead (with_entry (codes "a") 0x48)
  pub text_is_no_symbol : IndexesLead (with_entry (codes "b") 0x48) → ⊥
  pub no_index : IndexesLead (record { parts = []; members = third_text ∷ [] }) → ⊥
