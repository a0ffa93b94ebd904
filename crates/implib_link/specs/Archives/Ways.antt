-- The whole way for libraries of which some are for GNU's linker and others for Microsoft's: from
-- the bytes of their archive and the objects of a program to what a DLL gives.
use Rattle.std.specs.Prelude.{◌≡◌, ℕ, ◌%◌, List, ◌++◌, IsPermutation, Some, length, not, slice_get}
use Rattle.std.specs.Prelude.{◌+◌, ◌<◌, ◌^◌, Bool, false, true, [], ◌∷◌, Option, bytes_eq}
use Rattle.std.specs.Prelude.{if◌then◌else◌, is_some, map}
use Rattle.std.specs.List.{filter, AllByRecursion, Contains, filter_map, list_any}
use Rattle.implib.specs.declared.machine.MachineType.{MachineType}
use Rattle.implib.specs.Definition.{ExportView}
use Rattle.implib.specs.Formats.Object.{Object, ASymbol, Entry}
use Rattle.implib.specs.Import.{Ask, imp_symbol}
use Rattle.implib.specs.Link.Image.{IsAdmissible, Range, image_of, range_end}
use Rattle.implib.specs.Link.Placement.{Bases, Descriptors, placed_from, Placed}
use Rattle.implib.specs.Members.ImportTables.{thunk_width}
use Rattle.implib.specs.Members.MemberSpec.{MemberView}
use Rattle.implib_link.specs.Flavors.Program.{AreEnded, Ending, FlavorInput, WhereMember, ask_in}
use Rattle.implib_link.specs.Flavors.Program.{dll_of, exports_chosen, objects_taken, symbol_in}
use Rattle.implib_link.specs.Flavors.Program.{has_tables, HaveSame, claimed_names, ClaimsNone}
use Rattle.implib_link.specs.Flavors.Program.{group_end}
use Rattle.implib_link.specs.Gnu.Fields.{AreBeside, LinkedCode, ranges_of_codes, AllLead, HasBranch}
use Rattle.implib_link.specs.Gnu.Fields.{CanBranch}
use Rattle.implib_link.specs.Gnu.Writing.{ReadsAndWrites}
use Rattle.implib_link.specs.Search.Libraries.{FlavorLibrary, LinksClosed, inputs_in, weak_in}
use Rattle.implib_link.specs.Search.Libraries.{is_short_alias}
use Rattle.implib_link.specs.Stub.{CanJump}
use Rattle.implib_link.specs.InMemory.{AreAsWide}
use Rattle.std.specs.Option.{option_map}
use Rattle.implib.specs.Formats.Constants.{class_external}
use Rattle.implib.specs.Formats.ShortImport.{ShortImport, short_import_in}
use Rattle.implib.specs.Link.Resolution.{definitions_of}
use Rattle.implib.specs.Members.Msvc.{short_import_of, short_import_symbol, short_import_symbols}
use Rattle.implib.specs.declared.flavor.Flavor.TheVariants.{Msvc}
use Rattle.implib_link.specs.Flavors.Expansion.{expanded_in}
use Rattle.implib_link.specs.Flavors.LldImports.{IsLldProgram, grouped, imp_symbols_of}
use Rattle.implib_link.specs.Flavors.LldImports.{imports_of_lld, in_small, placed_by_lld, short_for}
use Rattle.implib_link.specs.Flavors.LldImports.{ArePiecesAt, BranchArrivesByThunk, IsThunk}
use Rattle.implib_link.specs.Gnu.Moves.{AreInMemory}
use Rattle.implib_link.specs.Search.Search.{Library, exports_of, claims_of, archive_of, TakesIntoAs}
use Rattle.implib_link.specs.Search.Search.{listed_in}
use Rattle.implib_link.specs.Search.CommandLines.{names_left, AreFirst, AreListedWhole, others_of}
use Rattle.implib_link.specs.Tables.{AreSteady, AreTablesLoaded, CanReadFrom, tables_of_lld}

-- What is taken of such libraries is linked with the given objects:
-- `order`: the libraries are linked in this order, which may be another than that of the archive;
-- `others`: the objects without import tables are those that are given and the weak externals that
-- are taken;
-- `ended`: those with import tables are what the other members are taken for, and what ends the
-- directory;
-- `admissible`, `lookups`, `addresses`, `follows`: the bases are those of a program.
pub record AreLinkedFor (machine : MachineType) (ending : Ending)
    (libraries : List FlavorLibrary) (own : List Object) (taken : List MemberView)
    (arranged : List FlavorLibrary) (bases : Bases) (objects : List Object) : Type 0 where
  pub order : IsPermutation libraries arranged
  pub others : HaveSame (filter (λ o. not (has_tables o)) objects)
      (own ++ objects_taken machine (weak_in machine taken))
  pub ended : AreEnded ending machine (inputs_in machine arranged own taken) objects
  pub admissible : IsAdmissible machine bases objects
  pub lookups : WhereMember ending (bases.lookups % thunk_width machine ≡ 0)
  pub addresses : WhereMember ending (bases.addresses % thunk_width machine ≡ 0)
  pub follows : WhereMember ending
      (bases.directory_ends ≡ group_end Descriptors bases.descriptors objects)

-- What is taken for the objects of a program closes it (`links`). A loader that reads the image
-- stops after as many descriptors as there are DLLs (`ends`). In the memory that it leaves, each
-- field of linked code against `__imp_T` of an import of either flavour, whatever instruction holds
-- it, leads to what its DLL gives for what the import asks for (`leads`).
pub record CallsArrive (machine : MachineType) (ending : Ending) (libraries : List FlavorLibrary)
    (own : List Object) (taken : List MemberView) (arranged : List FlavorLibrary) (bases : Bases)
    (objects : List Object) : Type 0 where
  pub links : LinksClosed machine ending libraries own taken arranged bases objects
  pub ends : (gives : List ℕ → Ask → List ℕ) (n : ℕ) (written : List Range) →
      AreAsWide machine gives →
      ReadsAndWrites (image_of machine bases (placed_from bases objects)) (thunk_width machine)
      gives n bases.descriptors written →
      n ≡ length (inputs_in machine arranged own taken)
  pub leads : (image_base : ℕ) (codes : List LinkedCode) (targets : LinkedCode → ℕ → ℕ)
      (gives : List ℕ → Ask → List ℕ) (n : ℕ) (written : List Range) (i j : ℕ) (p : FlavorInput)
      (e : ExportView) →
      CanJump machine image_base bases →
      AreBeside machine image_base bases objects codes targets →
      AreAsWide machine gives →
      ReadsAndWrites (image_of machine bases (placed_from bases objects)) (thunk_width machine)
      gives n bases.descriptors written →
      slice_get (inputs_in machine arranged own taken) i ≡ Some p →
      slice_get (exports_chosen p) j ≡ Some e →
      AllLead machine image_base (placed_from bases objects) codes
      (written ++ (image_of machine bases (placed_from bases objects) ++ ranges_of_codes codes))
      (imp_symbol (symbol_in p.flavor e)) (gives (dll_of p) (ask_in p.flavor machine e))

-- The way for lld: what it takes in the bytes of an archive, and what its program does with it. lld
-- does not expand a short import: this defines its symbols, and leaves nothing to others.

-- whether bytes are a short import
abbrev pub is_short : List ℕ → Bool
is_short bytes = is_some (short_import_in bytes)

-- an entry that defines a name, in a section
abbrev pub defining : List ℕ → Entry
defining name =
    ASymbol (record { name = name; value = 0; section = 1; kind = 0; class = class_external })

-- an object that defines what another claims, and nothing else
abbrev pub defining_alone : Object → Object
defining_alone o = record o { entries = map defining (claimed_names o) }

-- the object that lld takes a member's bytes for
unfoldable pub read_by_lld : MachineType → List ℕ → Option Object
read_by_lld machine bytes =
    option_map (λ (o : Object). if is_short bytes then defining_alone o else o)
    (expanded_in machine bytes)

-- the short imports among members, as lld for a machine takes them, the last one first
abbrev pub shorts_in : MachineType → List MemberView → List ShortImport
shorts_in machine taken = filter_map (λ m. short_for machine m.bytes) taken

-- the short import of an export of a library
abbrev pub short_of_export : MachineType → Library → ExportView → ShortImport
short_of_export machine l e = short_import_of machine l.definition.import_name e

-- An export that given objects want, or members that lld takes for them, as aliases: it is no
-- alias, and they leave one of its short import's symbols to others, which no given object claims.
pub record IsWantedBy (machine : MachineType) (libraries : List Library) (own : List Object)
    (taken : List MemberView) (l : Library) (e : ExportView) : Type 0 where
  pub library : Contains libraries l
  pub export : Contains (exports_of l) e
  pub plain : is_short_alias e ≡ false
  pub name : List ℕ
  pub listed : Contains (short_import_symbols e) name
  pub left : Contains (names_left (read_by_lld machine) own taken) name
  pub unclaimed : list_any (bytes_eq name) (claims_of own) ≡ false

-- DLLs whose names differ by case alone are called alike
abbrev pub AreCalledAlike : List Library → Type 0
AreCalledAlike libraries =
    (l k : Library) → Contains libraries l → Contains libraries k →
    in_small l.definition.import_name ≡ in_small k.definition.import_name →
    l.definition.import_name ≡ k.definition.import_name

-- What lld writes of short imports that are live, among other objects: what its programs are
-- (`IsLldProgram`), with nothing asked of the short imports.
-- `placed`, `none_before`, `none_behind`: no other object defines one of their `__imp_` symbols;
-- `pieces`: the image has the tables, and is above 0 and ends below 2^31 (`starts`, `ends`).
pub record IsBuiltByLld (machine : MachineType) (descriptors addresses : ℕ)
    (live : List ShortImport) (image : List Range) (linked : List Placed) : Type 0 where
  pub before : List Placed
  pub behind : List Placed
  pub placed : linked ≡ before ++ placed_by_lld machine addresses live ∷ behind
  pub none_before : AllByRecursion (λ name. definitions_of name before ≡ []) (imp_symbols_of live)
  pub none_behind : AllByRecursion (λ name. definitions_of name behind ≡ []) (imp_symbols_of live)
  pub lookups : ℕ
  pub hints : ℕ
  pub names : ℕ
  pub pieces : ArePiecesAt machine image descriptors lookups addresses hints names
      (imports_of_lld live)
  pub starts : AllByRecursion (λ r. 0 < r.start) image
  pub ends : AllByRecursion (λ r. range_end r < 2 ^ 31) image

-- Where a loader has read, in memory at any base, what lld wrote of the short imports that are
-- live:
-- `count`: it stops after as many descriptors as there are DLLs;
-- `loads`: it loads exactly these imports;
-- `leads`: every field of code against the `__imp_` symbol of a wanted export that is live leads to
-- its own entry, and there is what the DLL gives for what the export asks for;
-- `calls`: and where its thunk is among the code, a branch to its bare name arrives there by the
-- thunk.
pub record LldLoads (machine : MachineType) (libraries : List Library) (own : List Object)
    (taken : List MemberView) (is_live : ShortImport → Bool) (descriptors addresses : ℕ)
    (image : List Range) (linked : List Placed) (image_base : ℕ) (codes : List LinkedCode)
    (memory : List Range) (gives : List ℕ → Ask → List ℕ) (n : ℕ) (written : List Range)
    : Type 0 where
  pub count : n ≡ length (grouped (filter is_live (shorts_in machine taken)))
  pub loads : AreTablesLoaded machine
      (tables_of_lld machine descriptors addresses (filter is_live (shorts_in machine taken)) image
      linked) gives written
  pub leads : (l : Library) (e : ExportView) →
      IsWantedBy machine libraries own taken l e →
      is_live (short_of_export machine l e) ≡ true →
      CanReadFrom machine image_base addresses →
      AllLead machine image_base linked codes (written ++ memory)
      (imp_symbol (short_import_symbol e))
      (gives l.definition.import_name (ask_in Msvc machine e))
  pub calls : (l : Library) (e : ExportView) →
      IsWantedBy machine libraries own taken l e →
      is_live (short_of_export machine l e) ≡ true →
      CanReadFrom machine image_base addresses →
      (c d : LinkedCode) (offset after : ℕ) →
      Contains codes c →
      Contains codes d →
      IsThunk machine d (short_of_export machine l e) →
      HasBranch machine c offset after (short_import_symbol e) →
      CanBranch machine (c.position + offset) d.position →
      BranchArrivesByThunk machine image_base (written ++ memory) (c.position + offset) after
      (gives l.definition.import_name (ask_in Msvc machine e))

-- What lld takes for given objects:
-- `shorts`, `wanted`: the short imports of exactly the exports that are wanted;
-- `program`: what it writes of those that are live, which `/OPT:REF` kept, is a program of its
-- laws;
-- `loaded`: and a loader that reads it in memory finds that.
pub record LldArrives (machine : MachineType) (libraries : List Library) (own : List Object)
    (taken : List MemberView) : Type 0 where
  pub shorts : (l : Library) (e : ExportView) →
      IsWantedBy machine libraries own taken l e →
      Contains (shorts_in machine taken) (short_of_export machine l e)
  pub wanted : (r : ShortImport) → Contains (shorts_in machine taken) r →
      (l : Library) × (e : ExportView)
      × IsWantedBy machine libraries own taken l e
      × (r ≡ short_of_export machine l e)
  pub program : (is_live : ShortImport → Bool) (descriptors addresses : ℕ) (image : List Range)
      (linked : List Placed) →
      IsBuiltByLld machine descriptors addresses (filter is_live (shorts_in machine taken)) image
      linked →
      IsLldProgram machine descriptors addresses (filter is_live (shorts_in machine taken)) image
      linked
  pub loaded : (is_live : ShortImport → Bool) (descriptors addresses : ℕ) (image : List Range)
      (linked : List Placed) →
      IsBuiltByLld machine descriptors addresses (filter is_live (shorts_in machine taken)) image
      linked →
      (image_base : ℕ) (codes : List LinkedCode) (targets : LinkedCode → ℕ → ℕ)
      (memory : List Range) (gives : List ℕ → Ask → List ℕ) →
      AreSteady machine linked →
      AreInMemory machine image_base image linked codes targets memory →
      (n : ℕ) (written : List Range) →
      ((dll : List ℕ) (ask : Ask) → length (gives dll ask) ≡ thunk_width machine) →
      ReadsAndWrites memory (thunk_width machine) gives n descriptors written →
      LldLoads machine libraries own taken is_live descriptors addresses image linked image_base
      codes memory gives n written

-- What lld takes of the files of a command line.

-- What lld takes of the archives of a command line, for the objects there, in whatever order these
-- stand:
-- `libraries_are`: the members that are not as given are those of libraries for Microsoft's linker,
-- archive by archive;
-- `first`, `whole`: what is asked of the members;
-- `unclaimed`: no given object claims a name that a taken member is listed for: a member for which
-- a name has asked stays in lld's queue, and lld says "duplicate symbol" if an object behind it
-- claims the name, too;
-- `searches`: the search.
pub record SearchesByLld (machine : MachineType) (libraries : List Library)
    (members : List MemberView)
    (own : List Object) (is_given : MemberView → Bool) (taken : List MemberView) : Type 0 where
  pub libraries_are : others_of is_given members ≡ archive_of libraries
  pub first : AreFirst members (names_left (read_by_lld machine) own taken) taken
  pub whole : AreListedWhole (read_by_lld machine) members
  pub unclaimed : AllByRecursion (ClaimsNone (listed_in taken)) own
  pub searches : TakesIntoAs (read_by_lld machine) members own taken
