-- Calls and pointers by an alias, by hand: a program as in Worked/Calls on AMD64, whose code calls
-- through `__imp_opened` and reads a pointer through it, with the weak external that makes this an
-- alias of `__imp_open`.
use Rattle.std.specs.Prelude.{◌≡◌, ℕ, List, [], ◌∷◌, ◌++◌, codes, Some, bytes_eq, length, slice_get}
use Rattle.std.specs.Prelude.{if◌then◌else◌}
use Rattle.implib.specs.declared.machine.MachineType.TheVariants.{AMD64}
use Rattle.implib.specs.Formats.Constants.{class_external}
use Rattle.implib.specs.Formats.Layout.{object_of}
use Rattle.implib.specs.Formats.Object.{ASymbol, Object}
use Rattle.implib.specs.Import.{imp_symbol, Ask, Name, Ordinal}
use Rattle.implib.specs.Link.Placement.{Placed, Unplaced, placed_from}
use Rattle.implib.specs.Link.Resolution.{definitions_of}
use Rattle.implib.specs.Members.WeakExternal.{weak_object}
use Rattle.implib_link.specs.Flavors.Program.{IsProgram}
use Rattle.implib_link.specs.Flavors.Program.{null_descriptor}
use Rattle.implib_link.specs.Gnu.Aliases.{ResolvesAliases, weak_target, StandsFor}
use Rattle.implib_link.specs.Gnu.Fields.{PlacedCode, DirectCallArrives, HasDirectCall, StubAt}
use Rattle.implib_link.specs.Gnu.Fields.{AreLinkedBeside, DefinesIn, LinkedCode, placed_code}
use Rattle.implib_link.specs.Gnu.Fields.{ranges_of_codes, AllLeadTo, HasBranch, HasInstruction}
use Rattle.implib_link_instances.specs.Worked.Operands.{calling, calling_code, first_bytes}
use Rattle.implib_link_instances.specs.Worked.Operands.{last_bytes, loading, loading_code}
use Rattle.implib_link_instances.specs.Worked.Operands.{CodesBeside, as_placed, code_range}
use Rattle.implib_link_instances.specs.Worked.Operands.{linked_codes}
use Rattle.implib_link_instances.specs.Worked.Programs.{both_inputs, foo_input}
use Rattle.implib_link_instances.specs.Worked.Programs.{input_objects, symbol_of_class, touching_8}
use Rattle.implib_link_instances.specs.Worked.Programs.{zed_input, addresses_on, calling_object}
use Rattle.implib_link_instances.specs.Worked.Programs.{code_of_object, code_of_thunk, lld_image_on}
use Rattle.implib_link_instances.specs.Worked.Programs.{mid_on, shorts_on, taken_address}
use Rattle.implib.specs.Link.Image.{Range, image_of}
use Rattle.implib.specs.Members.ImportTables.{zeros}
use Rattle.implib_link.specs.Flavors.LldImports.{IsLldProgram, placed_by_lld, BranchArrivesByThunk}
use Rattle.implib_link.specs.Flavors.LldImports.{IsThunk, placed_thunk}
use Rattle.implib_link.specs.Gnu.Moves.{AreInMemory}
use Rattle.implib_link.specs.Gnu.Writing.{ReadsAndWrites}
use Rattle.implib_link.specs.Parts.{IsProgramOfParts}
use Rattle.implib_link.specs.InMemory.{OfEntries, OfStubs, OfThunks, WhereLoaded}
use Rattle.implib_link.specs.Tables.{AreSteady, Tables, tables_of_lld}
use Rattle.implib_link_instances.specs.Worked.Parts.{named_start, first_section, gnu_bases}
use Rattle.implib_link_instances.specs.Worked.Parts.{objects_of, gnu_image, kernel, placed_or_null}
use Rattle.implib_link_instances.specs.Worked.Parts.{start_code, stub_code, zoo, zoo_parts}
use Rattle.implib_link_instances.specs.Worked.Parts.{zoo_tables}

-- the alias and its target
abbrev pub opened_name : List ℕ
opened_name = imp_symbol (codes "opened")

abbrev pub alias_calling : Object
alias_calling = record (calling AMD64) {
  entries = ASymbol (symbol_of_class (codes "main") 1 class_external)
      ∷ ASymbol (symbol_of_class opened_name 0 class_external)
      ∷ [];
}

-- an object whose code reads a pointer through `__imp_opened`
abbrev pub alias_loading : Object
alias_loading = record (loading AMD64) {
  entries = ASymbol (symbol_of_class (codes "peek") 1 class_external)
      ∷ ASymbol (symbol_of_class opened_name 0 class_external)
      ∷ [];
}

-- what is linked: both objects, the weak external, foo.dll's members, zed.dll's members, the null
-- descriptor
abbrev pub alias_objects : List Object
alias_objects =
    alias_calling
    ∷ (alias_loading
    ∷ (object_of (weak_object AMD64 opened_name (imp_symbol (codes "open")))
    ∷ (input_objects AMD64 (foo_input AMD64)
    ++ (input_objects AMD64 (zed_input AMD64) ++ null_descriptor ∷ []))))

abbrev pub alias_placed : List Placed
alias_placed = placed_from touching_8 alias_objects

-- the calling code at 0x1000
abbrev pub alias_at : PlacedCode
alias_at = record {
  from = record { object = alias_calling; section_addresses = Unplaced ∷ [] };
  number = 1;
  code = calling_code AMD64;
  position = 0x1000;
}

-- the reading code at 0x1010, after the calling code at 0x1000
abbrev pub alias_load_at : PlacedCode
alias_load_at = record {
  from = record { object = alias_loading; section_addresses = Unplaced ∷ [] };
  number = 1;
  code = loading_code AMD64;
  position = 0x1010;
}

abbrev pub alias_codes : List PlacedCode
alias_codes = alias_at ∷ alias_load_at ∷ []

-- every symbol of them is taken to be at one address
abbrev pub all_at : ℕ → PlacedCode → ℕ → ℕ
all_at address c index = address

-- The program meets all that the law of aliases asks for; the entry of `open` is at 0x80, which the
-- call at 0x1004 and the load at 0x1014 read.
pub record WorkedAlias : Type 0 where
  pub program : IsProgram AMD64 touching_8 (both_inputs AMD64) alias_objects
  pub beside : CodesBeside AMD64 0x1_4000_0000 touching_8 alias_objects alias_codes (all_at 0x80)
  pub resolves : ResolvesAliases alias_placed
      (linked_codes AMD64 0x1_4000_0000 (all_at 0x80) alias_codes)
      (as_placed (all_at 0x80))
  pub undefined : definitions_of opened_name alias_placed ≡ []
  pub weak : weak_target opened_name alias_placed ≡ Some (imp_symbol (codes "open"))
  -- call [rip - 0xF8A]
  pub call_is : (code_range AMD64 0x1_4000_0000 (all_at 0x80) alias_at).bytes
      ≡ first_bytes AMD64 ++ (0xFF ∷ 0x15 ∷ 0x76 ∷ 0xF0 ∷ 0xFF ∷ 0xFF ∷ last_bytes AMD64)
  -- mov rax, [rip - 0xF9B]
  pub load_is : (code_range AMD64 0x1_4000_0000 (all_at 0x80) alias_load_at).bytes
      ≡ first_bytes AMD64 ++ (0x48 ∷ 0x8B ∷ 5 ∷ 0x65 ∷ 0xF0 ∷ 0xFF ∷ 0xFF ∷ last_bytes AMD64)
  -- the member of an alias is such a weak external: of the alias `bar` of `baz` for its address,
  -- say
  pub member : weak_target (codes "__imp_bar") (record {
    object = object_of (weak_object AMD64 (codes "__imp_bar") (codes "__imp_baz"));
    section_addresses = [];
  } ∷ alias_placed) ≡ Some (codes "__imp_baz")

-- Names that stand for others in links, by real linkers, which wrote the same bytes as for the
-- names themselves. By GNU ld 2.40 the program of Parts on AMD64, whose object has `zoo_oped` and
-- `__imp_zoo_oped`, with `--defsym=zoo_oped=zoo_open` and `--defsym=__imp_zoo_oped=__imp_zoo_open`.
-- By lld-link 14.0.6 and 19.1.7 that of LldPrograms on AMD64, whose object has `mad` and
-- `__imp_gea`, with `/alternatename:mad=mid` and `/alternatename:__imp_gea=__imp_gee`.

-- GNU ld's program: what is linked, and the code of the object and the stub, with the addresses of
-- their symbols
abbrev pub other_objects : List Object
other_objects = objects_of (named_start (codes "zoo_oped") (codes "__imp_zoo_oped") ∷ [])
    ++ (kernel.objects ++ (input_objects AMD64 zoo ++ null_descriptor ∷ []))

abbrev pub other_linked : List Placed
other_linked = placed_from gnu_bases other_objects

abbrev pub other_start : LinkedCode
other_start = record start_code {
  from = placed_or_null (slice_get other_linked 0);
  code = first_section (placed_or_null (slice_get other_linked 0)).object.sections;
}

abbrev pub other_codes : List LinkedCode
other_codes = other_start ∷ stub_code ∷ []

abbrev pub other_address : List ℕ → ℕ
other_address name =
    if bytes_eq name (codes ".data") then 0x2000 else if bytes_eq name (codes "__imp_zoo_oped")
    then 0x3070 else 0x1030

abbrev pub other_targets : LinkedCode → ℕ → ℕ
other_targets c index =
    taken_address other_address other_linked c.from (slice_get c.from.object.entries index)

abbrev pub other_memory : List Range
other_memory = gnu_image ++ ranges_of_codes other_codes

-- lld's program
abbrev pub other_object : Object
other_object = record (calling_object AMD64) {
  entries = ASymbol (symbol_of_class (codes "main") 1 class_external)
      ∷ ASymbol (symbol_of_class (codes "__imp_zeta") 0 class_external)
      ∷ ASymbol (symbol_of_class (codes "__imp_gea") 0 class_external)
      ∷ ASymbol (symbol_of_class (codes "mad") 0 class_external)
      ∷ [];
}

abbrev pub other_placed : Placed
other_placed = record { object = other_object; section_addresses = Unplaced ∷ [] }

abbrev pub lld_other_linked : List Placed
lld_other_linked =
    other_placed ∷ placed_by_lld AMD64 (addresses_on AMD64) (shorts_on AMD64)
    ∷ placed_thunk AMD64 (mid_on AMD64) ∷ []

abbrev pub lld_other_code : LinkedCode
lld_other_code = record (code_of_object AMD64) { from = other_placed }

abbrev pub lld_other_codes : List LinkedCode
lld_other_codes = lld_other_code ∷ code_of_thunk AMD64 ∷ []

abbrev pub lld_other_address : List ℕ → ℕ
lld_other_address name = if bytes_eq name (codes "__imp_gea") then 0x2080 else 0x1020

abbrev pub lld_other_targets : LinkedCode → ℕ → ℕ
lld_other_targets c index =
    taken_address lld_other_address lld_other_linked c.from (slice_get c.from.object.entries index)

abbrev pub lld_other_memory : List Range
lld_other_memory = lld_image_on AMD64 ++ ranges_of_codes lld_other_codes

-- the two names of GNU ld's program, and those of lld's
abbrev pub StandsInGnu : List ℕ → List ℕ → Type 0
StandsInGnu name other = StandsFor other_linked other_codes other_targets name other

abbrev pub StandsInLld : List ℕ → List ℕ → Type 0
StandsInLld name other = StandsFor lld_other_linked lld_other_codes lld_other_targets name other

-- Each program meets all that the law of such names asks for. So where a loader that knows nothing
-- else has read it, the call of the bare name goes to what the DLL gives, and so does what goes
-- through the entry.
pub record WorkedOtherNames : Type 0 where
  pub program : IsProgramOfParts AMD64 gnu_bases zoo_parts other_objects
  pub image : image_of AMD64 gnu_bases other_linked ≡ gnu_image
  pub steady : AreSteady AMD64 other_linked
  pub beside : AreLinkedBeside AMD64 0x1_4000_0000 gnu_image other_linked other_codes other_targets
  pub entry : StandsInGnu (codes "__imp_zoo_oped") (codes "__imp_zoo_open")
  pub bare : StandsInGnu (codes "zoo_oped") (codes "zoo_open")
  pub through_entry : HasInstruction AMD64 other_start 5 (0xFF ∷ 0x15 ∷ []) []
      (codes "__imp_zoo_oped")
  pub call : HasDirectCall AMD64 (placed_code other_start) 13 (codes "zoo_oped")
  pub defines : DefinesIn stub_code (symbol_of_class (codes "zoo_open") 1 class_external)
  pub stub : StubAt AMD64 other_linked (placed_code stub_code)
      (symbol_of_class (codes "zoo_open") 1 class_external) 0x3070
  pub arrive : (gives : List ℕ → Ask → List ℕ) (n : ℕ) (written : List Range) →
      ((dll : List ℕ) (ask : Ask) → length (gives dll ask) ≡ 8) →
      ReadsAndWrites other_memory 8 gives n 0x3000 written →
      AllLeadTo AMD64 0x1_4000_0000 other_linked other_codes (written ++ other_memory)
      (codes "__imp_zoo_oped")
      (codes "__imp_zoo_open") (gives (codes "zoo.dll") (Name (codes "zoo_open") 0))
      × DirectCallArrives AMD64 0x1_4000_0000 (written ++ other_memory) 0x100D
      (gives (codes "zoo.dll") (Name (codes "zoo_open") 0))

pub record WorkedAlternateNames : Type 0 where
  pub program : IsLldProgram AMD64 0x2000 0x2068 (shorts_on AMD64) (lld_image_on AMD64)
      lld_other_linked
  pub steady : AreSteady AMD64 lld_other_linked
  pub beside : AreLinkedBeside AMD64 0x1_4000_0000 (lld_image_on AMD64) lld_other_linked
      lld_other_codes lld_other_targets
  pub entry : StandsInLld (codes "__imp_gea") (codes "__imp_gee")
  pub bare : StandsInLld (codes "mad") (codes "mid")
  pub through_entry : HasInstruction AMD64 lld_other_code 6 (0x48 ∷ 0x8B ∷ 5 ∷ []) []
      (codes "__imp_gea")
  pub branch : HasBranch AMD64 lld_other_code 14 0 (codes "mad")
  pub thunk : IsThunk AMD64 (code_of_thunk AMD64) (mid_on AMD64)
  pub arrive : (gives : List ℕ → Ask → List ℕ) (n : ℕ) (written : List Range) →
      ((dll : List ℕ) (ask : Ask) → length (gives dll ask) ≡ 8) →
      ReadsAndWrites lld_other_memory 8 gives n 0x2000 written →
      AllLeadTo AMD64 0x1_4000_0000 lld_other_linked lld_other_codes (written ++ lld_other_memory)
      (codes "__imp_gea")
      (codes "__imp_gee") (gives (codes "alpha.dll") (Name (codes "gee") 258))
      × BranchArrivesByThunk AMD64 0x1_4000_0000 (written ++ lld_other_memory) 0x100E 0
      (gives (codes "beta.dll") (Ordinal 7))

-- What holds of all import tables in memory, of each entry, of each stub and of each thunk, holds
-- of something: of those of these programs. And what has no bytes is not as wide as an entry.
abbrev pub other_tables : Tables
other_tables = record {
  image = gnu_image;
  linked = other_linked;
  directory = 0x3000;
  tables = zoo_tables 0x3060 0x3070;
}

abbrev pub eight_zeros : List ℕ → Ask → List ℕ
eight_zeros dll ask = zeros 8

pub record HoldsOfSome : Type 0 where
  pub where_loaded : WhereLoaded AreInMemory
      (λ machine image_base t codes targets memory gives n written. ⊥) → ⊥
  pub of_entries : OfEntries AMD64 0x1_4000_0000 other_tables eight_zeros (λ name entry given. ⊥)
      → ⊥
  pub of_stubs : OfStubs AMD64 0x1_4000_0000 other_tables other_codes eight_zeros (λ d s given. ⊥)
      → ⊥
  pub of_thunks : OfThunks AMD64 0x1_4000_0000
      (tables_of_lld AMD64 0x2000 0x2068 (shorts_on AMD64) (lld_image_on AMD64) lld_other_linked)
      lld_other_codes eight_zeros (λ d r given. ⊥) → ⊥
