-- Members for GNU's linker that were linked by hand: the addresses of their tables and what they
-- hold.
use Rattle.std.specs.Prelude.{◌≡◌, ℕ, true, List, [], ◌∷◌, ◌++◌, map, bytes_eq, codes, Option, Some}
use Rattle.std.specs.Prelude.{None}
use Rattle.std.specs.List.{AllByRecursion, IsDistinct, flat_map}
use Rattle.std.specs.Option.{option_map}
use Rattle.implib.specs.declared.flavor.Flavor.TheVariants.{Gnu}
use Rattle.implib.specs.declared.machine.MachineType.{MachineType}
use Rattle.implib.specs.declared.machine.MachineType.TheVariants.{I386, AMD64}
use Rattle.implib.specs.Definition.{DefinitionView, ExportView, empty_export}
use Rattle.implib.specs.Members.Gnu.{export_name, hint_name, thunk}
use Rattle.implib.specs.Link.Image.{IsAdmissible, Range, byte_at, image_of}
use Rattle.implib.specs.Link.Placement.{Bases, Placed, placed_from}
use Rattle.implib.specs.Link.Resolution.{definitions_of}
use Rattle.implib.specs.Link.Load.{number_in}
use Rattle.implib.specs.Members.Members.{AreMembersOf, member_specs}
use Rattle.implib.specs.Members.MemberSpec.{member_of}
use Rattle.implib.specs.Formats.Object.{each_at}
use Rattle.implib.specs.Renaming.{renamed}
use Rattle.implib.specs.Link.LinkedMembers.{IsAscending, ComesBefore, IsLinkInput, NoneIsPrefix}
use Rattle.implib.specs.Link.LinkedMembers.{LinkInput, all_linked, member_prefix, linked_members}
use Rattle.implib.specs.Link.LinkedMembers.{objects_in}
use Rattle.implib.specs.Worked.Members.{of_dll}
use Rattle.implib.specs.Worked.Statements.{plain_export}
use Rattle.implib.specs.Worked.LibraryNames.{of_library}

-- the chosen members of a definition, placed
abbrev pub placed : DefinitionView → MachineType → Bases → List ℕ → List Placed
placed d machine bases chosen = placed_from bases (objects_in (linked_members d machine chosen))

-- `count` bytes from an address on
abbrev pub bytes_from : List Range → ℕ → ℕ → Option (List ℕ)
bytes_from image count address = each_at (byte_at image) address 1 count

-- `count` numbers of `width` bytes from an address on
abbrev pub numbers_from : List Range → ℕ → ℕ → ℕ → Option (List ℕ)
numbers_from image width count address =
    each_at (λ at. option_map number_in (bytes_from image width at)) address width count

-- the addresses at which a symbol is defined
abbrev pub addresses_of : List ℕ → List Placed → List (Option ℕ)
addresses_of name linked = map (λ d. d.address) (definitions_of name linked)

-- what a linked image is asked: its groups' bases, the width of a thunk, how many thunks a table
-- has with the last one, how many bytes the hints and names have, and the address of the DLL's name
pub record Layout : Type 0 where
  pub bases : Bases
  pub width : ℕ
  pub thunks : ℕ
  pub hints : ℕ
  pub dll : ℕ

-- what it answers: the descriptor's five fields, the thunks of each table, the hints and names, the
-- addresses of symbols
pub record Found : Type 0 where
  pub descriptor : List ℕ
  pub thunks : List ℕ
  pub hints : List ℕ
  pub section_addresses : List (List (Option ℕ))

-- the linked members of chosen exports of a definition of foo.dll answer so
pub record Answers (d : DefinitionView) (machine : MachineType) (l : Layout) (chosen : List ℕ)
    (symbols : List (List ℕ)) (found : Found) : Type 0 where
  pub descriptor : numbers_from (image_of machine l.bases (placed d machine l.bases chosen)) 4 5
      l.bases.descriptors ≡ Some found.descriptor
  pub lookups : numbers_from (image_of machine l.bases (placed d machine l.bases chosen)) l.width
      l.thunks
      l.bases.lookups ≡ Some found.thunks
  pub addresses : numbers_from (image_of machine l.bases (placed d machine l.bases chosen)) l.width
      l.thunks
      l.bases.addresses ≡ Some found.thunks
  pub hints : bytes_from (image_of machine l.bases (placed d machine l.bases chosen)) l.hints
      l.bases.hint_names ≡ Some found.hints
  pub dll : bytes_from (image_of machine l.bases (placed d machine l.bases chosen)) 8 l.dll
      ≡ Some (codes "foo.dll" ++ 0 ∷ [])
  pub section_addresses : map (λ name. addresses_of name (placed d machine l.bases chosen)) symbols
      ≡ found.section_addresses

-- an export that is asked for by its number
abbrev pub nameless : List ℕ → ℕ → ExportView
nameless name ordinal = record empty_export { name = name; ordinal = ordinal; no_name = true }

-- foo.dll with one export by its name and one by its number
abbrev pub foo : List ℕ → List ℕ → DefinitionView
foo by_name by_number = of_dll (codes "foo.dll") (plain_export by_name ∷ nameless by_number 5 ∷ [])

-- bases for two exports of foo.dll, with thunks of 8 bytes, and of 4
abbrev pub bases_64 : Bases
bases_64 = record {
  descriptors = 0x1000;
  directory_ends = 0x1000;
  lookups = 0x1020;
  addresses = 0x1040;
  hint_names = 0x1060;
  dll_names = 0x1080;
}

abbrev pub bases_32 : Bases
bases_32 = record {
  descriptors = 0x1000;
  directory_ends = 0x1000;
  lookups = 0x1014;
  addresses = 0x1020;
  hint_names = 0x102C;
  dll_names = 0x1034;
}

-- an input: a DLL with one export
abbrev pub input : List ℕ → List ℕ → LinkInput
input dll name = record {
  definition = of_dll dll (plain_export name ∷ []);
  members = map member_of (member_specs (renamed (of_dll dll (plain_export name ∷ []))) AMD64 Gnu);
  chosen = 0 ∷ [];
}

-- the two as inputs of a link, their bases, and their objects placed there
abbrev pub two_inputs : List LinkInput
two_inputs = input (codes "foo.dll") (codes "bar") ∷ input (codes "zed.dll") (codes "qux") ∷ []

abbrev pub bases_of_two : Bases
bases_of_two = record {
  descriptors = 0x1000;
  directory_ends = 0x1000;
  lookups = 0x1030;
  addresses = 0x1050;
  hint_names = 0x1070;
  dll_names = 0x1080;
}

abbrev pub placed_two : List Placed
placed_two =
    placed_from bases_of_two (objects_in (all_linked AMD64 two_inputs))

-- their descriptors, one after another, the thunks of both, the addresses of their symbols
pub record TwoLink : Type 0 where
  pub descriptors : numbers_from (image_of AMD64 bases_of_two placed_two) 4 10 0x1000
      ≡ Some (0x1030 ∷ 0 ∷ 0 ∷ 0x1084 ∷ 0x1050 ∷ 0x1040 ∷ 0 ∷ 0 ∷ 0x1090 ∷ 0x1060 ∷ [])
  pub lookups : numbers_from (image_of AMD64 bases_of_two placed_two) 8 4 0x1030
      ≡ Some (0x1070 ∷ 0 ∷ 0x1076 ∷ 0 ∷ [])
  pub addresses : numbers_from (image_of AMD64 bases_of_two placed_two) 8 4 0x1050
      ≡ Some (0x1070 ∷ 0 ∷ 0x1076 ∷ 0 ∷ [])
  pub bar : addresses_of (codes "__imp_bar") placed_two ≡ Some 0x1050 ∷ []
  pub qux : addresses_of (codes "__imp_qux") placed_two ≡ Some 0x1060 ∷ []

-- two libraries of foo.dll, each with a name of its own and one export
abbrev pub named_input : List ℕ → List ℕ → LinkInput
named_input library name = record {
  definition = of_library library (codes "foo.dll") (plain_export name ∷ []);
  members = map member_of (member_specs
      (renamed (of_library library (codes "foo.dll") (plain_export name ∷ []))) AMD64 Gnu);
  chosen = 0 ∷ [];
}

abbrev pub inputs_of_one_dll : List LinkInput
inputs_of_one_dll = named_input (codes "foo.dll_1") (codes "bar")
    ∷ named_input (codes "foo.dll_2") (codes "qux") ∷ []

abbrev pub placed_of_one_dll : List Placed
placed_of_one_dll = placed_from bases_of_two (objects_in (all_linked AMD64 inputs_of_one_dll))

-- Each library has its own head, tables and entries, and both descriptors lead to the text foo.dll.
-- No symbol is named after the DLL alone.
pub record OneDllLink : Type 0 where
  pub descriptors : numbers_from (image_of AMD64 bases_of_two placed_of_one_dll) 4 10 0x1000
      ≡ Some (0x1030 ∷ 0 ∷ 0 ∷ 0x1084 ∷ 0x1050 ∷ 0x1040 ∷ 0 ∷ 0 ∷ 0x1090 ∷ 0x1060 ∷ [])
  pub lookups : numbers_from (image_of AMD64 bases_of_two placed_of_one_dll) 8 4 0x1030
      ≡ Some (0x1070 ∷ 0 ∷ 0x1076 ∷ 0 ∷ [])
  pub addresses : numbers_from (image_of AMD64 bases_of_two placed_of_one_dll) 8 4 0x1050
      ≡ Some (0x1070 ∷ 0 ∷ 0x1076 ∷ 0 ∷ [])
  pub first_text : bytes_from (image_of AMD64 bases_of_two placed_of_one_dll) 8 0x1084
      ≡ Some (codes "foo.dll" ++ 0 ∷ [])
  pub second_text : bytes_from (image_of AMD64 bases_of_two placed_of_one_dll) 8 0x1090
      ≡ Some (codes "foo.dll" ++ 0 ∷ [])
  pub first_head : addresses_of (codes "_head_foo_dll_1") placed_of_one_dll ≡ Some 0x1000 ∷ []
  pub second_head : addresses_of (codes "_head_foo_dll_2") placed_of_one_dll ≡ Some 0x1014 ∷ []
  pub no_head : addresses_of (codes "_head_foo_dll") placed_of_one_dll ≡ []
  pub first_name : addresses_of (codes "foo_dll_1_iname") placed_of_one_dll ≡ Some 0x1084 ∷ []
  pub second_name : addresses_of (codes "foo_dll_2_iname") placed_of_one_dll ≡ Some 0x1090 ∷ []
  pub bar : addresses_of (codes "__imp_bar") placed_of_one_dll ≡ Some 0x1050 ∷ []
  pub qux : addresses_of (codes "__imp_qux") placed_of_one_dll ≡ Some 0x1060 ∷ []

-- two libraries of one name: their symbols are not distinct, and the names of their members do not
-- rise
abbrev pub inputs_of_one_name : List LinkInput
inputs_of_one_name = named_input (codes "foo.dll_1") (codes "bar")
    ∷ named_input (codes "foo.dll_1") (codes "qux") ∷ []

-- The law of linking speaks of these: they are the members of a definition that is not refused,
-- they are placed where they may be, and their archive symbols are distinct.
pub record MayLink (d : DefinitionView) (machine : MachineType) (bases : Bases) (chosen : List ℕ)
    : Type 0 where
  pub made : AreMembersOf d machine Gnu (map member_of (member_specs (renamed d) machine Gnu))
  pub distinct : IsDistinct bytes_eq (flat_map (λ m. m.symbols) (linked_members d machine chosen))
  pub admissible : IsAdmissible machine bases (objects_in (linked_members d machine chosen))

-- and so does the law of linking several
pub record InputsMayLink (machine : MachineType) (bases : Bases)
    (inputs : List LinkInput) : Type 0 where
  pub made : AllByRecursion (IsLinkInput machine) inputs
  pub rising : IsAscending (map (λ p. member_prefix p.definition) inputs)
  pub apart : NoneIsPrefix (map (λ p. member_prefix p.definition) inputs)
  pub distinct : IsDistinct bytes_eq (flat_map (λ m. m.symbols) (all_linked machine inputs))
  pub admissible : IsAdmissible machine bases (objects_in (all_linked machine inputs))

-- linked by hand
pub record WorkedLinks : Type 0 where
  pub two_may_link : InputsMayLink AMD64 bases_of_two two_inputs
  pub both_may_link : MayLink (foo (codes "bar") (codes "baz")) AMD64 bases_64 (0 ∷ 1 ∷ [])
  pub two : TwoLink
  pub two_of_one_dll_may_link : InputsMayLink AMD64 bases_of_two inputs_of_one_dll
  pub two_of_one_dll : OneDllLink
  pub two_of_one_name_may_not : InputsMayLink AMD64 bases_of_two inputs_of_one_name → ⊥
  pub both : Answers (foo (codes "bar") (codes "baz")) AMD64
      (record { bases = bases_64; width = 8; thunks = 3; hints = 6; dll = 0x1088 }) (0 ∷ 1 ∷ [])
      (codes "__imp_bar" ∷ codes "__imp_baz" ∷ codes "bar" ∷ codes "_head_foo_dll" ∷ [])
      (record {
        descriptor = 0x1020 ∷ 0 ∷ 0 ∷ 0x1088 ∷ 0x1040 ∷ [];
        thunks = 0x1060 ∷ 0x8000_0000_0000_0005 ∷ 0 ∷ [];
        hints = 0 ∷ 0 ∷ (codes "bar" ++ 0 ∷ []);
        section_addresses =
            (Some 0x1040 ∷ []) ∷ (Some 0x1048 ∷ []) ∷ (None ∷ []) ∷ (Some 0x1000 ∷ []) ∷ [];
      })
  pub none : Answers (foo (codes "bar") (codes "baz")) AMD64
      (record { bases = bases_64; width = 8; thunks = 1; hints = 0; dll = 0x1080 }) []
      (codes "__imp_bar" ∷ [])
      (record {
        descriptor = 0x1020 ∷ 0 ∷ 0 ∷ 0x1080 ∷ 0x1040 ∷ [];
        thunks = 0 ∷ [];
        hints = [];
        section_addresses = [] ∷ [];
      })
  pub both_32 : Answers (foo (codes "_bar") (codes "_baz")) I386
      (record { bases = bases_32; width = 4; thunks = 3; hints = 6; dll = 0x103C }) (0 ∷ 1 ∷ [])
      (codes "__imp__bar" ∷ codes "__imp__baz" ∷ [])
      (record {
        descriptor = 0x1014 ∷ 0 ∷ 0 ∷ 0x103C ∷ 0x1020 ∷ [];
        thunks = 0x102C ∷ 0x8000_0005 ∷ 0 ∷ [];
        hints = 0 ∷ 0 ∷ (codes "bar" ++ 0 ∷ []);
        section_addresses = (Some 0x1020 ∷ []) ∷ (Some 0x1024 ∷ []) ∷ [];
      })
  pub second_32 : Answers (foo (codes "_bar") (codes "_baz")) I386
      (record { bases = bases_32; width = 4; thunks = 2; hints = 0; dll = 0x1038 }) (1 ∷ [])
      (codes "__imp__bar" ∷ codes "__imp__baz" ∷ [])
      (record {
        descriptor = 0x1014 ∷ 0 ∷ 0 ∷ 0x1038 ∷ 0x1020 ∷ [];
        thunks = 0x8000_0005 ∷ 0 ∷ [];
        hints = [];
        section_addresses = [] ∷ (Some 0x1020 ∷ []) ∷ [];
      })
  -- the number 0 keeps its top bit, and so ends no table
  pub number_zero : thunk I386 (nameless (codes "_foo") 0) ≡ 0 ∷ 0 ∷ 0 ∷ 0x80 ∷ []
  pub no_hint : hint_name I386 (nameless (codes "_foo") 0) ≡ []
  pub number_zero_links : Answers (of_dll (codes "foo.dll") (nameless (codes "_foo") 0 ∷ [])) I386
      (record { bases = bases_32; width = 4; thunks = 2; hints = 0; dll = 0x1038 }) (0 ∷ [])
      (codes "__imp__foo" ∷ [])
      (record {
        descriptor = 0x1014 ∷ 0 ∷ 0 ∷ 0x1038 ∷ 0x1020 ∷ [];
        thunks = 0x8000_0000 ∷ 0 ∷ [];
        hints = [];
        section_addresses = (Some 0x1020 ∷ []) ∷ [];
      })
  -- from six digits on, the order of names is not that of numbers
  pub six_digits_first : ComesBefore (export_name (codes "foo.dll") 100000)
      (export_name (codes "foo.dll") 99999)
