-- Programs of texts by hand: that their libraries are what the laws ask for, and what the laws say
-- of them.
use Rattle.std.specs.Prelude.{ℕ, List, [], ◌∷◌, ◌++◌, codes, map, true, ◌≡◌, ◌+◌, drop, take}
use Rattle.std.specs.Prelude.{Option, Some}
use Rattle.std.specs.List.{AllByRecursion}
use Rattle.implib.specs.declared.flavor.Flavor.{Flavor}
use Rattle.implib.specs.declared.flavor.Flavor.TheVariants.{Gnu, Msvc}
use Rattle.implib.specs.declared.machine.MachineType.{MachineType}
use Rattle.implib.specs.declared.machine.MachineType.TheVariants.{I386, AMD64}
use Rattle.implib.specs.Definition.{DefinitionView, empty_export, ExportView}
use Rattle.implib.specs.Formats.Object.{Object, ASymbol}
use Rattle.implib.specs.Members.MemberSpec.{member_of, MemberView}
use Rattle.implib.specs.Members.Members.{member_specs}
use Rattle.implib.specs.Renaming.{renamed}
use Rattle.implib.specs.Worked.Members.{of_dll}
use Rattle.implib.specs.Worked.Statements.{plain_export}
use Rattle.implib_link.specs.Flavors.Program.{OfMember, all_members, null_member, objects_taken}
use Rattle.implib_link.specs.Flavors.Program.{IsProgramOf}
use Rattle.implib_link.specs.Flavors.Program.{FlavorInput, IsMadeFor, packed}
use Rattle.implib_link.specs.Flavors.Texts.{FlavorSource, FlavorTextsLink, IsFlavorSource}
use Rattle.implib_link.specs.Flavors.Texts.{flavor_source, input_of}
use Rattle.implib_link_instances.specs.Worked.Programs.{symbol_on, another, caller, symbol_of_class}
use Rattle.implib_link_instances.specs.Worked.Programs.{zed_dll}
use Rattle.implib.specs.Formats.Constants.{class_external}
use Rattle.implib.specs.Link.Image.{Range, image_of}
use Rattle.implib.specs.Import.{imp_symbol}
use Rattle.implib.specs.Members.ImportTables.{thunk_width}
use Rattle.implib.specs.Link.Placement.{Bases, Placed, placed_from}
use Rattle.implib.specs.Link.Resolution.{symbol_address}
use Rattle.implib.specs.Worked.Links.{addresses_of, bytes_from, nameless, numbers_from}

-- two texts: a function and data of foo.dll, and a function of zed.dll by its ordinal
abbrev pub foo_text : List ℕ
foo_text = codes "LIBRARY foo.dll\nEXPORTS\nbar\nqux DATA"

abbrev pub zed_text : List ℕ
zed_text = codes "LIBRARY zed.dll\nEXPORTS\nqueue @7 NONAME"

-- what they mean
abbrev pub foo_meant : MachineType → DefinitionView
foo_meant machine = of_dll (codes "foo.dll")
    (plain_export (symbol_on machine (codes "bar"))
    ∷ record empty_export { name = symbol_on machine (codes "qux"); is_data = true }
    ∷ [])

abbrev pub zed_meant : MachineType → DefinitionView
zed_meant machine = of_dll (codes "zed.dll")
    (record empty_export { name = symbol_on machine (codes "queue"); ordinal = 7; no_name = true }
    ∷ [])

-- a text with a library of its definition, whose members are these, and with a choice of exports
abbrev pub source_in : Flavor → MachineType → List ℕ → DefinitionView → List ℕ → FlavorSource
source_in flavor machine text d chosen =
    flavor_source flavor text
    (record { definition = renamed d; machine = machine; flavor = flavor })
    (map member_of (member_specs (renamed (renamed d)) machine flavor)) chosen

-- foo.dll for Microsoft's linker, zed.dll for GNU's
abbrev pub both_sources : MachineType → List FlavorSource
both_sources machine =
    source_in Msvc machine foo_text (foo_meant machine) (1 ∷ 0 ∷ [])
    ∷ source_in Gnu machine zed_text (zed_meant machine) (0 ∷ [])
    ∷ []

abbrev pub both_text_objects : MachineType → List Object
both_text_objects machine = objects_taken machine
    (null_member machine (codes "foo.dll")
    ∷ all_members machine (map input_of (both_sources machine)))

-- The texts' libraries and members are what the laws ask for, packed they are programs, and these
-- link as the laws say.
pub record WorkedSource (machine : MachineType) : Type 0 where
  pub both : AllByRecursion (IsFlavorSource machine) (both_sources machine)
  pub both_program : IsProgramOf machine OfMember (packed 1 (both_text_objects machine))
      (map input_of (both_sources machine)) (both_text_objects machine)
  pub both_link : FlavorTextsLink machine OfMember (packed 1 (both_text_objects machine))
      (both_sources machine)
      (both_text_objects machine)

-- with and without the underscore in front of names
pub record WorkedSources : Type 0 where
  pub amd64 : WorkedSource AMD64
  pub i386 : WorkedSource I386

-- Programs of DLLs in both flavours, linked by hand: foo.dll by members for Microsoft's linker,
-- with four exports chosen in an order of its own, and zed.dll by members for GNU's, with one,
-- between a caller and another object.

-- four exports: a function with the hint 258, data, one by its ordinal, and one with a symbol name
abbrev pub foo_exports : MachineType → List ExportView
foo_exports machine =
    record (plain_export (symbol_on machine (codes "open"))) { ordinal = 258 }
    ∷ record (plain_export (symbol_on machine (codes "stat"))) { is_data = true }
    ∷ nameless (symbol_on machine (codes "nine")) 9
    ∷ record (plain_export (codes "f")) { symbol_name = codes "_f@8" }
    ∷ []

abbrev pub foo_msvc : MachineType → DefinitionView
foo_msvc machine = of_dll (codes "foo.dll") (foo_exports machine)

-- the two inputs
abbrev pub foo_input : MachineType → FlavorInput
foo_input machine = record {
  flavor = Msvc;
  input = record {
    definition = foo_msvc machine;
    members = map member_of (member_specs (renamed (foo_msvc machine)) machine Msvc);
    chosen = 2 ∷ 0 ∷ 1 ∷ 3 ∷ [];
  };
}

abbrev pub zed_input : MachineType → FlavorInput
zed_input machine = record {
  flavor = Gnu;
  input = record {
    definition = zed_dll machine;
    members = map member_of (member_specs (renamed (zed_dll machine)) machine Gnu);
    chosen = 0 ∷ [];
  };
}

abbrev pub both_inputs : MachineType → List FlavorInput
both_inputs machine = foo_input machine ∷ zed_input machine ∷ []

-- the members with foo.dll's null descriptor put in after the first few
abbrev pub members_with_null : MachineType → ℕ → List MemberView
members_with_null machine count =
    take count (all_members machine (both_inputs machine))
    ++ null_member machine (codes "foo.dll")
    ∷ drop count (all_members machine (both_inputs machine))

-- what is linked: the caller, what these are taken for, the other object
abbrev pub flavor_objects : MachineType → ℕ → List Object
flavor_objects machine count =
    caller machine
    ∷ (objects_taken machine (members_with_null machine count) ++ another machine ∷ [])

-- bases whose ranges touch or nearly do, for thunks of 8 and of 4 bytes
abbrev pub flavor_bases_8 : Bases
flavor_bases_8 = record {
  descriptors = 8;
  directory_ends = 48;
  lookups = 72;
  addresses = 128;
  hint_names = 184;
  dll_names = 220;
}

abbrev pub flavor_bases_4 : Bases
flavor_bases_4 = record {
  descriptors = 8;
  directory_ends = 48;
  lookups = 68;
  addresses = 96;
  hint_names = 124;
  dll_names = 160;
}

-- the DLL's name, hints and names, some with a byte filled in after
abbrev pub flavor_hints : List ℕ
flavor_hints =
    codes "foo.dll" ++ 0
    ∷ 2 ∷ 1 ∷ (codes "open" ++ 0 ∷ 0
    ∷ 0 ∷ 0 ∷ (codes "stat" ++ 0 ∷ 0
    ∷ 0 ∷ 0 ∷ (codes "f" ++ 0
    ∷ 0 ∷ 0 ∷ (codes "queue" ++ 0 ∷ []))))

-- what an image holds: the fields of both descriptors and of the null descriptor, the thunks of a
-- table, the addresses of the entries of `nine`, `open`, `stat`, `_f@8`, `queue`, and of the symbol
-- that the caller names
pub record FlavorExpected : Type 0 where
  pub descriptors : List ℕ
  pub thunks : List ℕ
  pub entries : List (List (Option ℕ))
  pub named : Option ℕ

abbrev pub flavor_expected_8 : FlavorExpected
flavor_expected_8 = record {
  descriptors = 72 ∷ 0 ∷ 0 ∷ 184 ∷ 128 ∷ 112 ∷ 0 ∷ 0 ∷ 224 ∷ 168 ∷ 0 ∷ 0 ∷ 0 ∷ 0 ∷ 0 ∷ [];
  thunks = 0x8000_0000_0000_0009 ∷ 192 ∷ 200 ∷ 208 ∷ 0 ∷ 212 ∷ 0 ∷ [];
  entries = (Some 128 ∷ []) ∷ (Some 136 ∷ []) ∷ (Some 144 ∷ []) ∷ (Some 152 ∷ []) ∷ (Some 168 ∷ [])
      ∷ [];
  named = Some 136;
}

abbrev pub flavor_expected_4 : FlavorExpected
flavor_expected_4 = record {
  descriptors = 68 ∷ 0 ∷ 0 ∷ 124 ∷ 96 ∷ 88 ∷ 0 ∷ 0 ∷ 164 ∷ 116 ∷ 0 ∷ 0 ∷ 0 ∷ 0 ∷ 0 ∷ [];
  thunks = 0x8000_0009 ∷ 132 ∷ 140 ∷ 148 ∷ 0 ∷ 152 ∷ 0 ∷ [];
  entries = (Some 96 ∷ []) ∷ (Some 100 ∷ []) ∷ (Some 104 ∷ []) ∷ (Some 108 ∷ []) ∷ (Some 116 ∷ [])
      ∷ [];
  named = Some 100;
}

abbrev pub flavor_placed : MachineType → ℕ → Bases → List Placed
flavor_placed machine count bases = placed_from bases (flavor_objects machine count)

abbrev pub flavor_image : MachineType → ℕ → Bases → List Range
flavor_image machine count bases = image_of machine bases (flavor_placed machine count bases)

-- The program of a machine, with the null descriptor after the first few members, meets all that
-- the law asks for, and its image holds what is expected.
pub record WorkedFlavorProgram (machine : MachineType) (count : ℕ) (bases : Bases)
    (expected : FlavorExpected) : Type 0 where
  pub made : AllByRecursion (IsMadeFor machine) (both_inputs machine)
  pub program : IsProgramOf machine OfMember bases (both_inputs machine)
      (flavor_objects machine count)
  pub descriptors : numbers_from (flavor_image machine count bases) 4 15 bases.descriptors
      ≡ Some expected.descriptors
  pub lookups : numbers_from (flavor_image machine count bases) (thunk_width machine) 7
      bases.lookups
      ≡ Some expected.thunks
  pub addresses : numbers_from (flavor_image machine count bases) (thunk_width machine) 7
      bases.addresses
      ≡ Some expected.thunks
  pub hints : bytes_from (flavor_image machine count bases) 36 bases.hint_names ≡ Some flavor_hints
  pub zed : bytes_from (flavor_image machine count bases) 8 (bases.dll_names + 4)
      ≡ Some (codes "zed.dll" ++ 0 ∷ [])
  pub entries : map
      (λ name. addresses_of (imp_symbol name) (flavor_placed machine count bases))
      (symbol_on machine (codes "nine") ∷ symbol_on machine (codes "open")
      ∷ symbol_on machine (codes "stat")
      ∷ codes "_f@8" ∷ symbol_on machine (codes "queue") ∷ []) ≡ expected.entries
  pub named : symbol_address (flavor_placed machine count bases)
      (record { object = caller machine; section_addresses = [] })
      (ASymbol (symbol_of_class (imp_symbol (symbol_on machine (codes "open"))) 0 class_external))
      ≡ expected.named

-- the null descriptor in front of all members, and between those of foo.dll
pub record WorkedFlavors : Type 0 where
  pub amd64 : WorkedFlavorProgram AMD64 0 flavor_bases_8 flavor_expected_8
  pub i386 : WorkedFlavorProgram I386 2 flavor_bases_4 flavor_expected_4
