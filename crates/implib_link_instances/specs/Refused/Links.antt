-- What is said of no import tables, and what no loader finds or writes. A record `RefusedX` has for
-- each field of `X` what this field refuses.
use Rattle.std.specs.Prelude.{List, Some, [], codes, ℕ, ◌≡◌, ◌∷◌, ◌++◌}
use Rattle.implib.specs.declared.machine.MachineType.TheVariants.{AMD64}
use Rattle.implib.specs.Formats.Constants.{class_external, amd64_rel32}
use Rattle.implib.specs.Import.{Ask, Ordinal}
use Rattle.implib.specs.Link.Image.{Range}
use Rattle.implib.specs.Link.Placement.{Addresses, At, Placed, Unplaced}
use Rattle.implib.specs.Members.Gnu.{section}
use Rattle.implib.specs.Members.ImportTables.{table_flags, zeros}
use Rattle.implib_link.specs.Directory.{DirectoryAt, FindsBy, Imported, StopsAt, WalkFinds}
use Rattle.implib_link.specs.Flavors.Program.{AreClaimed, OfLinker, OfMember, SymbolsAt, SymbolsGet}
use Rattle.implib_link.specs.Flavors.Program.{WhereMember, GetsAddress, null_descriptor}
use Rattle.implib_link.specs.Flavors.Program.{FlavorInput, InputImports, IsTaken, ProgramLinks}
use Rattle.implib_link.specs.Flavors.Program.{gnu_input, HaveSame}
use Rattle.implib_link.specs.Gnu.Fields.{amd64_addr64}
use Rattle.implib_link.specs.Gnu.Writing.{HoldsAt, Writes, ReadsAndWrites, AreAlike, FillsBy}
use Rattle.implib_link.specs.Gnu.Writing.{FillsTable, WritesAsItGoes}
use Rattle.implib_link.specs.Search.Libraries.{FlavorLibrary, IsImported, LinksClosed}
use Rattle.implib_link.specs.Search.Libraries.{IsUsedIn, IsWeakOfLibraries, TakesOfLibraries}
use Rattle.implib_link.specs.Search.Libraries.{IsWeakShort, IsWeakTaken}
use Rattle.implib_link.specs.Tables.{AreSteady, AreTables, AreTablesLoaded, IsInTable, RiseFrom}
use Rattle.implib_link.specs.Tables.{Table, Tables}
use Rattle.implib_link_instances.specs.Worked.Operands.{field}
use Rattle.implib_link_instances.specs.Worked.Programs.{code_object, symbol_of_class, touching_8}
use Rattle.implib.specs.declared.flavor.Flavor.TheVariants.{Gnu, Msvc}
use Rattle.implib.specs.Formats.Object.{ASymbol, Object, object_in}
use Rattle.implib.specs.Formats.ShortImport.{ShortImport}
use Rattle.implib.specs.Link.LinkedMembers.{LinkInput}
use Rattle.implib.specs.Members.MemberSpec.{MemberView}
use Rattle.implib.specs.Worked.Members.{of_dll}
use Rattle.implib.specs.Worked.Statements.{plain_export}
use Rattle.implib_link.specs.Flavors.LldImports.{IsImportedBy, LldLinks}
use Rattle.implib_link.specs.Flavors.Texts.{FlavorTextLinks, FlavorTextsLink}
use Rattle.implib_link.specs.Search.Search.{Library, IsWeakData, AreTakenIntoAs, PullsIntoAs}
use Rattle.implib_link.specs.Search.Search.{TakesIntoAs, IsWeakAmong}
use Rattle.implib_link_instances.specs.Worked.Search.{library_of}
use Rattle.implib_link_instances.specs.Worked.Flavors.{source_in, zed_meant, zed_text}
use Rattle.implib.specs.Definition.{ExportView}
use Rattle.implib_link_instances.specs.Worked.BothFlavors.{foo_alias}

-- an empty range at an address, and the descriptor of no DLL at 0x1000
abbrev pub range_at : ℕ → Range
range_at start = record { start = start; bytes = [] }

abbrev pub zero_image : List Range
zero_image = record { start = 0x1000; bytes = zeros 20 } ∷ []

abbrev pub gives_zeros : List ℕ → Ask → List ℕ
gives_zeros dll ask = zeros 8

-- f.dll, of which the ordinal 5 is asked
abbrev pub five : Imported
five = record { dll = codes "f.dll"; asks = Ordinal 5 ∷ [] }

pub record RefusedFindsBy : Type 0 where
  pub name_field : FindsBy [] 8 0x1000 five → ⊥
  pub has_name : FindsBy zero_image 8 0x1000 five → ⊥
  pub name_text : FindsBy [] 8 0x1000 five → ⊥
  pub addresses_field : FindsBy [] 8 0x1000 five → ⊥
  pub has_addresses : FindsBy zero_image 8 0x1000 five → ⊥
  pub table_field : FindsBy [] 8 0x1000 five → ⊥
  pub thunks : FindsBy [] 8 0x1000 five → ⊥

pub record RefusedFillsBy : Type 0 where
  pub name_field : FillsBy 8 gives_zeros 0x1000 [] five [] → ⊥
  pub has_name : FillsBy 8 gives_zeros 0x1000 zero_image five [] → ⊥
  pub name_text : FillsBy 8 gives_zeros 0x1000 [] five [] → ⊥
  pub addresses_field : FillsBy 8 gives_zeros 0x1000 [] five [] → ⊥
  pub has_addresses : FillsBy 8 gives_zeros 0x1000 zero_image five [] → ⊥
  pub lookups_field : FillsBy 8 gives_zeros 0x1000 [] five [] → ⊥
  pub fills : FillsBy 8 gives_zeros 0x1000 [] five [] → ⊥

pub record RefusedHoldsAt : Type 0 where
  pub once : HoldsAt [] [] (codes "f") [] → ⊥
  pub located : HoldsAt [] [] (codes "f") (zeros 8) → ⊥

-- a table without entries at an address, and one of `f`
abbrev pub table_at : ℕ → Table
table_at address = record { dll = codes "f.dll"; address = address; entries = [] }

abbrev pub table_of_f : Table
table_of_f = record (table_at 0x1000) {
  entries = record { ask = Ordinal 5; symbol = Some (codes "f") } ∷ [];
}

abbrev pub tables_of : List Range → List Table → Tables
tables_of image tables =
    record { image = image; linked = []; directory = 0x1000; tables = tables }

pub record RefusedIsInTable : Type 0 where
  pub held : IsInTable 8 [] (range_at 0x1000) → ⊥
  pub from : IsInTable 8 (table_at 0x1000 ∷ []) (range_at 0xFFF) → ⊥
  pub to : IsInTable 8 (table_at 0x1000 ∷ []) (range_at 0x1001) → ⊥

-- a range at 0, one that ends at 2^31, no directory, no field, two tables that fall, and no object
pub record RefusedAreTables : Type 0 where
  pub starts : AreTables AMD64 (tables_of (range_at 0 ∷ []) []) → ⊥
  pub ends : AreTables AMD64 (tables_of (range_at 0x8000_0000 ∷ []) []) → ⊥
  pub directory : AreTables AMD64 (tables_of [] []) → ⊥
  pub addresses : AreTables AMD64 (tables_of [] (table_at 0x1000 ∷ [])) → ⊥
  pub rise : AreTables AMD64 (tables_of [] (table_at 0x1000 ∷ table_at 0x0FFF ∷ [])) → ⊥
  pub symbols : AreTables AMD64 (tables_of [] (table_of_f ∷ [])) → ⊥

pub record RefusedAreTablesLoaded : Type 0 where
  pub entries : AreTablesLoaded AMD64 (tables_of [] (table_of_f ∷ [])) gives_zeros [] → ⊥
  pub within : AreTablesLoaded AMD64 (tables_of [] []) gives_zeros (range_at 0x1000 ∷ []) → ⊥

-- an object that leaves `f` to others
abbrev pub asking : Placed
asking = record {
  object = code_object (symbol_of_class (codes "f") 0 class_external ∷ []);
  section_addresses = Unplaced ∷ [];
}

-- a whole address in an address table
abbrev pub with_address : Placed
with_address = record {
  object = record null_descriptor {
    sections = section (codes ".idata$5") table_flags (zeros 8) (field 0 0 amd64_addr64 ∷ []) ∷ [];
  };
  section_addresses = At Addresses 0x1000 ∷ [];
}

pub record RefusedLoaders : Type 0 where
  pub directory_at : DirectoryAt [] 8 0x1000 [] → ⊥
  pub stops_at : StopsAt [] 0x1000 → ⊥
  pub walk_finds : WalkFinds [] 8 0x1000 [] → ⊥
  pub writes : Writes [] 8 gives_zeros 0x1000 [] (range_at 0 ∷ []) → ⊥
  pub reads_and_writes : ReadsAndWrites [] 8 gives_zeros 0 0x1000 [] → ⊥
  pub fills_table : FillsTable 8 (gives_zeros []) 0x1000 0x1000 [] [] [] → ⊥
  pub writes_as_it_goes : WritesAsItGoes 8 gives_zeros 0x1000 [] [] [] → ⊥
  pub are_alike : AreAlike [] zero_image → ⊥
  pub symbols_at : SymbolsAt [] 8 0x1000 (codes "f" ∷ []) → ⊥
  pub symbols_get : SymbolsGet (asking ∷ []) 8 0x1000 (codes "f" ∷ []) → ⊥
  pub gets_address : GetsAddress (asking ∷ []) (codes "f") 0x1000 → ⊥
  pub rise_from : RiseFrom 8 0x1001 (table_at 0x1000 ∷ []) → ⊥
  pub are_steady : AreSteady AMD64 (with_address ∷ []) → ⊥
  pub where_member : WhereMember OfMember (codes "f" ≡ codes "g") → ⊥
  pub are_claimed : AreClaimed OfLinker [] (codes "f" ∷ []) → ⊥

-- What no link gives. A record `RefusedX` has for each field of `X` what this field refuses: mostly
-- links of nothing.

-- f.dll with the function `f`, without its members; and a short import of it
abbrev pub f_input : LinkInput
f_input = record {
  definition = of_dll (codes "f.dll") (plain_export (codes "f") ∷ []);
  members = [];
  chosen = 0 ∷ [];
}

abbrev pub f_inputs : List FlavorInput
f_inputs = gnu_input f_input ∷ []

abbrev pub f_short : ShortImport
f_short = record {
  version = 0;
  machine = 0x8664;
  time = 0;
  ordinal = 5;
  import_type = 0;
  name_type = 0;
  symbol = codes "f";
  dll = codes "f.dll";
}

-- of another time; and of the same DLL, under another name
abbrev pub later_short : ShortImport
later_short = record f_short { time = 1 }

abbrev pub loud_short : ShortImport
loud_short = record f_short { dll = codes "F.dll"; symbol = codes "g" }

-- an object that leaves `__imp_f` to others
abbrev pub asking_entry : Placed
asking_entry = record {
  object = code_object (symbol_of_class (codes "__imp_f") 0 class_external ∷ []);
  section_addresses = Unplaced ∷ [];
}

pub record RefusedInputImports : Type 0 where
  pub top : InputImports AMD64 [] [] 0x1000 0x1000 (gnu_input f_input) → ⊥
  pub loads : InputImports AMD64 [] [] 0x1000 0x1000 (gnu_input f_input) → ⊥
  pub table_located : InputImports AMD64 zero_image [] 0x1000 0x1000 (gnu_input f_input) → ⊥
  pub entries : InputImports AMD64 [] [] 0x1000 0x1000 (gnu_input f_input) → ⊥
  pub gets : InputImports AMD64 [] (asking_entry ∷ []) 0x1000 0x1000 (gnu_input f_input) → ⊥

pub record RefusedIsImportedBy : Type 0 where
  pub its_group : IsImportedBy AMD64 0x1000 0x1000 (f_short ∷ []) [] [] later_short → ⊥
  pub its_place : IsImportedBy AMD64 0x1000 0x1000 (f_short ∷ []) [] [] later_short → ⊥
  pub loads : IsImportedBy AMD64 0x1000 0x1000 (f_short ∷ []) [] [] f_short → ⊥
  pub its_table : IsImportedBy AMD64 0x1000 0x1000 (f_short ∷ []) zero_image [] f_short → ⊥
  pub once : IsImportedBy AMD64 0x1000 0x1000 (f_short ∷ []) [] [] f_short → ⊥
  pub gets : IsImportedBy AMD64 0x1000 0x1000 (f_short ∷ []) [] (asking_entry ∷ []) f_short → ⊥

pub record RefusedLldLinks : Type 0 where
  pub directory : LldLinks AMD64 0x1000 0x1000 [] [] [] → ⊥
  pub imported : LldLinks AMD64 0x1000 0x1000 (f_short ∷ []) [] [] → ⊥
  pub only : LldLinks AMD64 0x1000 0x1000 (f_short ∷ loud_short ∷ []) [] [] → ⊥

-- an input for Microsoft's linker; and one whose export has a NUL in its name
abbrev pub f_for_msvc : FlavorInput
f_for_msvc = record { flavor = Msvc; input = f_input }

abbrev pub nul_within : FlavorInput
nul_within = record {
  flavor = Msvc;
  input = record f_input {
    definition = of_dll (codes "f.dll") (plain_export (codes "op" ++ 0 ∷ codes "en") ∷ []);
  };
}

pub record RefusedIsTaken : Type 0 where
  pub from_members : IsTaken AMD64 (gnu_input f_input) → ⊥
  pub read : IsTaken AMD64 nul_within → ⊥
  pub null : IsTaken AMD64 f_for_msvc → ⊥

-- an object of a table with these bytes; with a relocation to a symbol that it does not have; and
-- with a name that nothing defines
abbrev pub table_of : List ℕ → List ℕ → Object
table_of name bytes = record (code_object []) { sections = section name table_flags bytes [] ∷ [] }

abbrev pub leading_nowhere : Object
leading_nowhere = record (code_object []) {
  sections = section (codes ".idata$9") table_flags (zeros 4)
      (record { offset = 0; symbol = 7; kind = amd64_rel32 } ∷ []) ∷ [];
}

abbrev pub losing : Object
losing = record (table_of (codes ".idata$9") []) {
  entries = ASymbol (symbol_of_class (codes "lost") 0 class_external) ∷ [];
}

abbrev pub claiming_more : Object
claiming_more = record (table_of (codes ".idata$9") []) {
  entries = ASymbol (symbol_of_class (codes "more") 1 class_external) ∷ [];
}

pub record RefusedProgramLinks : Type 0 where
  pub linked : ProgramLinks AMD64 OfLinker touching_8 f_inputs [] → ⊥
  pub imports : ProgramLinks AMD64 OfLinker touching_8 f_inputs [] → ⊥
  pub directory : ProgramLinks AMD64 OfLinker touching_8 [] [] → ⊥
  pub null : ProgramLinks AMD64 OfMember touching_8 [] [] → ⊥
  pub ended : ProgramLinks AMD64 OfMember (record touching_8 { directory_ends = 5 }) [] [] → ⊥
  pub targets : ProgramLinks AMD64 OfLinker touching_8 [] (leading_nowhere ∷ []) → ⊥
  pub defined : ProgramLinks AMD64 OfLinker touching_8 [] (losing ∷ []) → ⊥
  pub listed : ProgramLinks AMD64 OfLinker touching_8 f_inputs [] → ⊥
  pub claimed : ProgramLinks AMD64 OfMember touching_8 [] (claiming_more ∷ []) → ⊥

-- a member without an object, that is listed for `f`; f.dll's library, and it without its members
abbrev pub listing : MemberView
listing = record { name = codes "listing"; bytes = []; symbols = codes "f" ∷ [] }

abbrev pub f_library : Library
f_library = library_of f_input.definition

abbrev pub memberless : Library
memberless = record f_library { members = [] }

abbrev pub for_gnu : Library → List FlavorLibrary
for_gnu library = record { flavor = Gnu; library = library } ∷ []

abbrev pub own : List Object
own = asking.object ∷ []

pub record RefusedLinksClosed : Type 0 where
  pub taken_is : LinksClosed AMD64 OfMember [] [] (listing ∷ []) [] touching_8 [] → ⊥
  pub program : LinksClosed AMD64 OfMember [] [] [] [] touching_8 [] → ⊥
  pub links : LinksClosed AMD64 OfMember [] own [] (for_gnu memberless) touching_8 [] → ⊥
  pub resolved : LinksClosed AMD64 OfMember (for_gnu f_library) own [] [] touching_8 [] → ⊥
  pub closed : LinksClosed AMD64 OfMember (for_gnu f_library) [] [] [] touching_8 own → ⊥

-- nothing is chosen of f.dll
abbrev pub unchosen : LinkInput
unchosen = record f_input { chosen = [] }

pub record RefusedIsImported : Type 0 where
  pub input_is : IsImported AMD64 [] touching_8 [] (codes "f") → ⊥
  pub export_is : IsImported AMD64 [] touching_8 (gnu_input unchosen ∷ []) (codes "f") → ⊥
  pub by : IsImported AMD64 [] touching_8 f_inputs (codes "f") → ⊥

-- the text of zed.dll, of which nothing is linked
pub record RefusedFlavorTextLinks : Type 0 where
  pub imports : FlavorTextLinks AMD64 [] [] 0 0
      (source_in Gnu AMD64 zed_text (zed_meant AMD64) (0 ∷ [])) → ⊥

pub record RefusedFlavorTextsLink : Type 0 where
  pub among : FlavorTextsLink AMD64 OfLinker touching_8 [] [] → ⊥
  pub imports : FlavorTextsLink AMD64 OfLinker touching_8
      (source_in Gnu AMD64 zed_text (zed_meant AMD64) (0 ∷ []) ∷ []) [] → ⊥

-- What no search takes. A record `RefusedX` has for each field of `X` what this field refuses:
-- mostly searches of no members, or for no names.

pub record RefusedPullsIntoAs : Type 0 where
  pub named : PullsIntoAs object_in (listing ∷ []) [] [] (codes "f") listing → ⊥
  pub listed : PullsIntoAs object_in [] own [] (codes "f") listing → ⊥
  pub new : PullsIntoAs object_in (listing ∷ []) own (listing ∷ []) (codes "f") listing → ⊥

pub record RefusedTakesIntoAs : Type 0 where
  pub in_turn : TakesIntoAs object_in (listing ∷ []) [] (listing ∷ []) → ⊥
  pub ended : TakesIntoAs object_in (listing ∷ []) own [] → ⊥

-- a member that is taken of no library, and an alias
pub record RefusedTakesOfLibraries : Type 0 where
  pub inputs : TakesOfLibraries AMD64 [] [] (listing ∷ []) → ⊥
  pub weak : TakesOfLibraries AMD64 [] [] (foo_alias ∷ []) → ⊥

-- a library without exports
abbrev pub exportless : Library
exportless = library_of (of_dll (codes "e.dll") [])

abbrev pub f_export : ExportView
f_export = plain_export (codes "f")

pub record RefusedIsWeakData : Type 0 where
  pub held : IsWeakData [] [] listing → ⊥
  pub among : IsWeakData (exportless ∷ []) [] listing → ⊥
  pub data_alone : IsWeakData (f_library ∷ []) [] listing → ⊥
  pub named : IsWeakData (f_library ∷ []) [] listing → ⊥
  pub listed : IsWeakData (f_library ∷ []) [] (record listing { symbols = [] }) → ⊥

pub record RefusedIsWeakShort : Type 0 where
  pub held : IsWeakShort [] [] listing → ⊥
  pub among : IsWeakShort (exportless ∷ []) [] listing → ⊥
  pub alias : IsWeakShort (f_library ∷ []) [] listing → ⊥
  pub is : IsWeakShort (f_library ∷ []) (codes "g" ∷ []) listing → ⊥
  pub named : IsWeakShort (f_library ∷ []) [] listing → ⊥
  pub listed : IsWeakShort (f_library ∷ []) [] (record listing { symbols = [] }) → ⊥

pub record RefusedSearches : Type 0 where
  pub have_same : HaveSame (codes "f" ∷ []) [] → ⊥
  pub are_taken_into_as : AreTakenIntoAs object_in (listing ∷ []) [] (listing ∷ []) → ⊥
  pub is_used_in : IsUsedIn Gnu [] f_export → ⊥
  pub is_weak_among : IsWeakAmong object_in [] (codes "f") → ⊥
  pub is_weak_of_both : IsWeakOfLibraries [] [] listing → ⊥
  pub is_weak_taken : IsWeakTaken AMD64 [] (codes "f") → ⊥
