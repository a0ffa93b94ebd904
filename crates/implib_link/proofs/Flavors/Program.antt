-- The members and the null descriptor are a program by themselves.
use Rattle.std.proofs.lemmas.Grind.{common_steps}
use Rattle.std.proofs.Common.{rules, ◌≡◌, true, List, [], ◌∷◌, ◌++◌, map, refl, ap, sym, ◌∙◌, subst, ℕ, Option, Some, suc, ◌+◌, length, ◌*◌, ◌%◌, false, arith, inl, inr, ◌^◌, ◌<◌, ◌≤◌}
use Rattle.std.specs.Prelude.{not, bytes_eq, option_map, slice_get}
use Rattle.std.specs.List.{AllByRecursion, filter, IsDistinct, flat_map}
use Rattle.implib.specs.declared.machine.MachineType.{MachineType}
use Rattle.implib.specs.Definition.{ExportView}
use Rattle.implib.specs.Members.Gnu.{export_object, head_object, tail_object}
use Rattle.implib.specs.Link.LinkedMembers.{IsMade, LinkInput, all_linked, objects_in, chosen_exports, linked_members}
use Rattle.implib.specs.Formats.Object.{Object, object_in}
use Rattle.implib.proofs.Link.LinkedBlocks.{Block, blocks_objects, linked_objects, each_located, ends, even as even_bases, group_located, starts}
use Rattle.implib.proofs.Link.LinkedInputs.{block_of, gnu_inputs_objects}
use Rattle.implib.proofs.Link.Placement.{export, head, tail, AreAligned, aligned}
use Rattle.implib_link.specs.Flavors.Program.{has_tables, null_descriptor, AreEndedByLinker, AreProgramObjects, IsFoundByName, IsMadeFor, OfLinker, all_members, dll_names_in, gnu_input, symbols_listed, thunks_of, ClaimsNone, linked_symbols, thunks_before, AreClaimed, AreEnded, AreEndedByMember, Ending, FlavorInput, InputImports, OfMember, WhereMember, own_names, SymbolsAt, SymbolsGet, imp_symbols, exports_chosen, imported_in, null_member, objects_taken, symbol_in, ProgramLinks, IsProgramOf, claimed_names, names_claimed_in, with_tables, HaveSame, group_end, sections_end, packed, packed_descriptors, packed_end}
use Rattle.implib_link.proofs.Flavors.Block.{objects_behind, plus_sum, AreEven, NullDefined, OneLinks, behind_descriptor, objects_of, AllSuit, EachIn, even_all, rest_of, FlavorBlock, all_objects, definitions-all, definitions_all, descriptors_all, directory_in, each_in, ends_all, imported_of, names-all, nth_in, thunks_in, claimed_placed, all_claim, gets_address, once_of}
use Rattle.implib.specs.LibraryName.{NamesOfDll, names_for, linked_dll}
use Rattle.std.proofs.lemmas.List.{map-append, append-nil, length-map}
use Rattle.std.proofs.lemmas.List.Elements.{filter_map-append}
use Rattle.implib.specs.Members.MemberSpec.{MemberView}
use Rattle.implib.proofs.Link.Linked.{all_append, LocatedFrom}
use Rattle.implib.proofs.Link.LinkedMembers.{members_read, objects_are, among_map}
use Rattle.implib_link.specs.FullNames.{full_name, object_by_full_names, sections_by_full_names}
use Rattle.implib.specs.declared.flavor.Flavor.TheVariants.{Gnu}
use Rattle.std.proofs.lemmas.Option.{slice_get-map}
use Rattle.implib.specs.declared.flavor.Flavor.{Flavor}
use Rattle.implib.specs.Link.Image.{Range, contributions, filled, image_of, IsAdmissible}
use Rattle.implib.specs.Import.{imp_symbol}
use Rattle.implib.specs.Members.ImportTables.{thunk_width, zeros}
use Rattle.implib.specs.Formats.Layout.{entries_of, name_text, object_of}
use Rattle.implib.specs.Link.Linked.{AllFind, IsDefinedAt, undefined_names}
use Rattle.implib.specs.Link.Load.{BytesAt}
use Rattle.implib.specs.Members.MsvcObjects.{descriptor, null_descriptor_symbol, null_thunk}
use Rattle.implib.specs.Link.Placement.{Addresses, Bases, Descriptors, DirectoryEnds, DllNames, Group, HintNames, Lookups, Placed, base_of, next_multiple, placed_from, same_group}
use Rattle.implib.specs.Link.Resolution.{SymbolDefinition, definitions, definitions_of}
use Rattle.implib.proofs.Link.Definitions.{not_same_turned, only_definition}
use Rattle.implib.proofs.Link.Ranges.{Among, all_among, among_first, among_later}
use Rattle.implib_link.specs.Directory.{DirectoryAt}
use Rattle.implib_link.specs.Flavors.Expansion.{import_object, expanded_in, with_section_symbols}
use Rattle.implib_link.proofs.Flavors.Inputs.{all_claim_listed, claimed_with_null, block_in, inputs_link, inputs_objects, inputs_plainly, inputs_symbols, inputs_taken, null_object, objects_with_null}
use Rattle.implib_link.proofs.Flavors.NullDescriptor.{EndsNothing, all_insert, among_same, descriptors_end_same, finds_same, null_filled, null_once, others_same, undefined_same, group_same}
use Rattle.implib_link.proofs.Gnu.Others.{contributions_kept, definitions_kept, placed_kept}
use Rattle.implib_link.proofs.Gnu.Packed.{end_kept, admissible, packed_eights, IsSized, exports_sized, head_sized, tail_sized}
use Rattle.implib_link.proofs.Flavors.Expanded.{taken_null}
use Rattle.implib_link.proofs.Gnu.Loaded.{times_none, by_width}

pub head_has : (machine : MachineType) (dll : NamesOfDll) → has_tables (head machine dll) ≡ true
unfolding has_tables head_object
head_has machine dll = refl

-- each object of a list has tables
abbrev AllHave : List Object → Type 0
AllHave objects = AllByRecursion (λ o. has_tables o ≡ true) objects

exports_have : (machine : MachineType) (dll : NamesOfDll) (es : List ExportView) (rest : List Object) → AllHave rest → AllHave (map (export machine dll) es ++ rest)
unfolding has_tables export_object
exports_have machine dll [] rest all = all
exports_have machine dll (e ∷ es) rest all = (refl, exports_have machine dll es rest all)

blocks_have : (machine : MachineType) (blocks : List Block) (rest : List Object) → AllHave rest → AllHave (blocks_objects machine blocks rest)
unfolding has_tables tail_object
blocks_have machine [] rest all = all
blocks_have machine (k ∷ blocks) rest all = grind (arith, blocks_have machine blocks rest all, head_has, exports_have)

pub all_kept : (objects : List Object) → AllHave objects → filter has_tables objects ≡ objects
all_kept [] all = refl
all_kept (o ∷ objects) all = rw all.0 (ap (λ others. o ∷ others) (all_kept objects all.1))

pub none_left : (objects : List Object) → AllHave objects → filter (λ o. not (has_tables o)) objects ≡ []
none_left [] all = refl
none_left (o ∷ objects) all = rw all.0 (none_left objects all.1)

-- The members' sections have no names in a string table.

-- an object's names are whole, whatever the string table
abbrev HasWholeNames : Object → Type 0
HasWholeNames o = (strings : Option (List ℕ)) → sections_by_full_names strings o.sections ≡ Some o.sections

head_whole : (machine : MachineType) (dll : NamesOfDll) → HasWholeNames (head machine dll)
unfolding head_object sections_by_full_names full_name
head_whole machine dll strings = refl

export_whole : (machine : MachineType) (dll : NamesOfDll) (e : ExportView) → HasWholeNames (export machine dll e)
unfolding export_object sections_by_full_names full_name
export_whole machine dll e strings = refl

exports_whole : (machine : MachineType) (dll : NamesOfDll) (es : List ExportView) → AllByRecursion HasWholeNames (map (export machine dll) es)
exports_whole machine dll [] = tt
exports_whole machine dll (e ∷ es) = (export_whole machine dll e, exports_whole machine dll es)

linked_whole : (machine : MachineType) (dll : NamesOfDll) (es : List ExportView) → AllByRecursion HasWholeNames (linked_objects machine dll es)
unfolding tail_object sections_by_full_names full_name
linked_whole machine dll es = grind (arith, head_whole, all_append, export, tail, exports_whole)

all_by_full_names : (members : List MemberView) (objects : List Object) → AllByRecursion HasWholeNames objects →
    map (λ (m : MemberView). object_in m.bytes) members ≡ map Some objects → map (λ (m : MemberView). object_by_full_names m.bytes) members ≡ map Some objects
unfolding object_by_full_names
all_by_full_names (m ∷ members) (o ∷ objects) whole read = grind (arith, all_by_full_names members objects whole.1)
all_by_full_names members objects whole read = cc

own_by_full_names : (machine : MachineType) (p : LinkInput) → IsMade machine p →
    map (λ (m : MemberView). object_by_full_names m.bytes) (linked_members p.definition machine p.chosen) ≡ map Some (objects_in (linked_members p.definition machine p.chosen))
own_by_full_names machine p made =
    search (rules, objects_are p.definition machine p.members p.chosen made, linked_whole machine (names_for Gnu p.definition) (chosen_exports p.definition p.chosen), members_read p.definition machine p.members p.chosen made, all_by_full_names)

pub members_by_full_names : (machine : MachineType) (inputs : List LinkInput) → AllByRecursion (IsMade machine) inputs →
    map (λ (m : MemberView). object_by_full_names m.bytes) (all_linked machine inputs) ≡ map Some (objects_in (all_linked machine inputs))
members_by_full_names machine [] made = refl
members_by_full_names machine (p ∷ inputs) made = grind (arith, members_by_full_names machine inputs made.1, map-append, own_by_full_names, filter_map-append)

-- Programs of members for GNU's linker alone, in the words of definitions without a flavour.

pub gnu_members : (machine : MachineType) (inputs : List LinkInput) → all_members machine (map gnu_input inputs) ≡ all_linked machine inputs
gnu_members machine [] = refl
gnu_members machine (p ∷ inputs) = ap (λ ms. linked_members p.definition machine p.chosen ++ ms) (gnu_members machine inputs)

pub gnu_made : (machine : MachineType) (inputs : List LinkInput) → AllByRecursion (IsMade machine) inputs → AllByRecursion (IsMadeFor machine) (map gnu_input inputs)
gnu_made machine [] made = tt
gnu_made machine (p ∷ inputs) made = (made.0, gnu_made machine inputs made.1)

gnu_alone : (inputs : List LinkInput) → AllByRecursion (λ p. p.flavor ≡ Gnu) (map gnu_input inputs)
gnu_alone [] = tt
gnu_alone (p ∷ inputs) = (refl, gnu_alone inputs)

gnu_found : (inputs : List LinkInput) → AllByRecursion (λ p. IsFoundByName p.flavor (dll_names_in p)) (map gnu_input inputs)
gnu_found [] = tt
gnu_found (p ∷ inputs) = (tt, gnu_found inputs)

pub gnu_thunks : (i : ℕ) (inputs : List LinkInput) → thunks_of i (map gnu_input inputs) ≡ thunks_before i inputs
gnu_thunks (suc i) (p ∷ inputs) = ap (λ n. length (chosen_exports p.definition p.chosen) + 1 + n) (gnu_thunks i inputs)
gnu_thunks i inputs = cc

-- the objects of a program
pub gnu_objects : (machine : MachineType) (inputs : List LinkInput) (objects : List Object) → IsDistinct bytes_eq (linked_symbols machine inputs) →
    filter has_tables objects ≡ objects_in (all_linked machine inputs) ++ null_descriptor ∷ [] → AllByRecursion (ClaimsNone (linked_symbols machine inputs)) (filter (λ o. not (has_tables o)) objects) →
    AreProgramObjects machine OfLinker (map gnu_input inputs) objects
gnu_objects machine inputs objects distinct tables others = grind (arith, gnu_members machine inputs, gnu_alone, gnu_found inputs)

-- the members and the null descriptor are such objects by themselves
pub members_are_objects : (machine : MachineType) (inputs : List LinkInput) → AllByRecursion (IsMade machine) inputs → IsDistinct bytes_eq (linked_symbols machine inputs) →
    AreProgramObjects machine OfLinker (map gnu_input inputs) (objects_in (all_linked machine inputs) ++ null_descriptor ∷ [])
unfolding has_tables
members_are_objects machine inputs made distinct = search (rules, gnu_inputs_objects, objects_behind, block_of, blocks_have, gnu_objects, all_kept, none_left)

-- A program of DLLs in both flavours links.

-- The objects of the members have no `.idata$3`.

askings_end : (machine : MachineType) (dll : NamesOfDll) (es : List ExportView) (rest : List Object) → AllByRecursion EndsNothing rest → AllByRecursion EndsNothing (behind_descriptor machine dll es rest)
unfolding with_section_symbols object_of null_thunk entries_of name_text import_object
askings_end machine dll [] rest all = ((refl, (refl, tt)), all)
askings_end machine dll (e ∷ es) rest all = (grind arith, askings_end machine dll es rest all)

exports_end : (machine : MachineType) (dll : NamesOfDll) (es : List ExportView) (rest : List Object) → AllByRecursion EndsNothing rest →
    AllByRecursion EndsNothing (map (export machine dll) es ++ tail machine dll ∷ rest)
unfolding export_object tail_object
exports_end machine dll [] rest all = ((refl, (refl, (refl, (refl, (refl, (refl, tt)))))), all)
exports_end machine dll (e ∷ es) rest all = ((refl, (refl, (refl, (refl, (refl, (refl, (refl, tt))))))), exports_end machine dll es rest all)

objects_end : (machine : MachineType) (flavor : Flavor) (dll : NamesOfDll) (es : List ExportView) (rest : List Object) → AllByRecursion EndsNothing rest →
    AllByRecursion EndsNothing (objects_of machine flavor dll es rest)
unfolding with_section_symbols object_of descriptor entries_of name_text head_object
objects_end machine flavor dll es rest all = grind (arith, askings_end, exports_end)

pub blocks_end : (machine : MachineType) (blocks : List FlavorBlock) → AllByRecursion EndsNothing (all_objects machine blocks [])
blocks_end machine [] = tt
blocks_end machine (k ∷ blocks) = objects_end machine k.flavor k.dll k.exports (all_objects machine blocks []) (blocks_end machine blocks)

-- Where `.idata$2` ends.

askings_keep : (machine : MachineType) (dll : NamesOfDll) (es : List ExportView) (rest : List Object) (n : ℕ) → group_end Descriptors n (behind_descriptor machine dll es rest) ≡ group_end Descriptors n rest
unfolding group_end sections_end with_section_symbols object_of null_thunk entries_of name_text import_object
askings_keep machine dll [] rest n = refl
askings_keep machine dll (e ∷ es) rest n = grind (arith, askings_keep machine dll es rest n, behind_descriptor)

exports_keep : (machine : MachineType) (dll : NamesOfDll) (es : List ExportView) (rest : List Object) (n : ℕ) →
    group_end Descriptors n (map (export machine dll) es ++ tail machine dll ∷ rest) ≡ group_end Descriptors n rest
unfolding group_end sections_end export_object tail_object
exports_keep machine dll [] rest n = refl
exports_keep machine dll (e ∷ es) rest n = exports_keep machine dll es rest n

pub later_even : (n : ℕ) → n % 4 ≡ 0 → (n + 20) % 4 ≡ 0
later_even n even = omega arith

pub blocks_group_end : (machine : MachineType) (blocks : List FlavorBlock) (n : ℕ) → n % 4 ≡ 0 → group_end Descriptors n (all_objects machine blocks []) ≡ n + 20 * length blocks
unfolding group_end sections_end with_section_symbols object_of descriptor entries_of name_text head_object
blocks_group_end machine [] n even = times_none n 20
blocks_group_end machine (k ∷ blocks) n even = grind (
  arith,
  blocks_group_end machine blocks (n + 20) (later_even n even),
  all_objects,
  even,
  later_even,
  plus_sum,
  behind_descriptor,
  aligned,
  askings_keep,
  export,
  tail,
  exports_keep,
)

-- the same thunks, counted by inputs
pub thunks_are : (i : ℕ) (ps : List FlavorInput) → thunks_in i (map block_in ps) ≡ thunks_of i ps
thunks_are (suc i) (p ∷ ps) = ap (λ n. length (exports_chosen p) + 1 + n) (thunks_are i ps)
thunks_are i ps = cc

pub imported_are : (machine : MachineType) (ps : List FlavorInput) → map (imported_of machine) (map block_in ps) ≡ map (imported_in machine) ps
imported_are machine [] = refl
imported_are machine (p ∷ ps) = ap (λ is. imported_in machine p ∷ is) (imported_are machine ps)

pub symbols_get : (linked : List Placed) (width address : ℕ) (names : List (List ℕ)) → SymbolsAt linked width address names → SymbolsGet linked width address names
unfolding SymbolsAt SymbolsGet
symbols_get linked width address [] entries = tt
symbols_get linked width address (name ∷ names) entries = (gets_address linked name address entries.0, symbols_get linked width (address + width) names entries.1)

imports_of : (machine : MachineType) (image : List Range) (linked : List Placed) (p : FlavorInput) (b : Bases) (descriptor table : ℕ) (behind : List Object) →
    b.descriptors ≡ descriptor → b.addresses ≡ table → OneLinks machine linked image p.flavor (dll_names_in p) (exports_chosen p) b behind →
    InputImports machine image linked descriptor table p
imports_of machine image linked p b descriptor table behind place begins one =
    let entries : SymbolsAt linked (thunk_width machine) b.addresses (map (λ e. imp_symbol (symbol_in p.flavor e)) (exports_chosen p)) = one.entries in
    subst (λ n. InputImports machine image linked n table p) place
    (subst (λ n. InputImports machine image linked b.descriptors n p) begins (record {
      top = one.top;
      loads = one.loads;
      table_located = one.table_located;
      entries = entries;
      gets = symbols_get linked (thunk_width machine) b.addresses (imp_symbols p) entries;
    }))

-- Where a library's null descriptor ends the directory.
module _ (machine : MachineType) (inputs : List FlavorInput) (objects : List Object) (made : AllByRecursion (IsMadeFor machine) inputs) (ended : AreEndedByMember machine inputs objects) where
  -- the members' objects without the null descriptor
  pub parts_are : objects_taken machine ended.before ++ objects_taken machine ended.behind ≡ all_objects machine (map block_in inputs) []
  parts_are = grind (arith, filter_map-append, inputs_objects)

  null_is : expanded_in machine (null_member machine (linked_dll ended.null_from.input.definition)).bytes ≡ Some (taken_null machine)
  null_is = grind (arith, common_steps, null_object)

  pub kept_are : filter has_tables objects ≡ objects_taken machine ended.before ++ taken_null machine ∷ objects_taken machine ended.behind
  kept_are = ended.tables ∙ objects_with_null machine ended.before ended.behind (null_member machine (linked_dll ended.null_from.input.definition)) null_is

  pub directory_end : (n : ℕ) → n % 4 ≡ 0 → group_end Descriptors n objects ≡ n + 20 * length inputs
  directory_end n even = grind (arith, end_kept, kept_are, descriptors_end_same, parts_are, blocks_group_end, block_in, even, length-map)

  none : AllByRecursion EndsNothing (objects_taken machine ended.before ++ objects_taken machine ended.behind)
  none = subst (AllByRecursion EndsNothing) (sym parts_are) (blocks_end machine (map block_in inputs))

-- Where the linker's null descriptor does.
pub linker_kept : (machine : MachineType) (inputs : List FlavorInput) (objects : List Object) → AllByRecursion (IsMadeFor machine) inputs → AreEndedByLinker machine inputs objects →
    filter has_tables objects ≡ all_objects machine (map block_in inputs) (null_descriptor ∷ [])
linker_kept machine inputs objects made ended = ended.tables ∙ inputs_plainly machine inputs (null_descriptor ∷ []) made ended.gnu

all_gnu : (inputs : List FlavorInput) → AllByRecursion (λ p. p.flavor ≡ Gnu) inputs → AllSuit OfLinker (map block_in inputs)
all_gnu [] are = tt
all_gnu (p ∷ inputs) are = (are.0, all_gnu inputs are.1)

all_either : (inputs : List FlavorInput) → AllSuit OfMember (map block_in inputs)
all_either [] = tt
all_either (p ∷ inputs) = (tt, all_either inputs)

-- what holds of the members' objects and of a null descriptor holds of all objects with import tables
pub kept_all : (machine : MachineType) (ending : Ending) (inputs : List FlavorInput) (objects : List Object) → AllByRecursion (IsMadeFor machine) inputs → AreEnded ending machine inputs objects →
    (P : Object → Type 0) → P (taken_null machine) → AllByRecursion P (all_objects machine (map block_in inputs) (rest_of ending)) → AllByRecursion P (filter has_tables objects)
kept_all machine OfLinker inputs objects made ended P null all = subst (AllByRecursion P) (sym (linker_kept machine inputs objects made ended)) all
kept_all machine OfMember inputs objects made ended P null all = search (rules, kept_are machine inputs objects made ended, taken_null machine, parts_are machine inputs objects made ended, all_insert)

-- What is placed of all objects with import tables is what is placed of the members' objects, and of what is behind them.
pub record Stand (machine : MachineType) (ending : Ending) (b : Bases) (inputs : List FlavorInput) (objects : List Object) : Type 0 where
  pub contributed : (group : Group) → same_group group DirectoryEnds ≡ false → contributions machine (placed_from b objects) group (placed_from b objects)
      ≡ contributions machine (placed_from b objects) group (placed_from b (all_objects machine (map block_in inputs) (rest_of ending)))
  pub defined : (name : List ℕ) → Among name (symbols_listed (all_members machine inputs)) →
      definitions_of name (placed_from b objects) ≡ definitions_of name (placed_from b (all_objects machine (map block_in inputs) (rest_of ending)))
  pub among : (q : Placed) → Among q (placed_from b (all_objects machine (map block_in inputs) (rest_of ending))) → Among q (with_tables (placed_from b objects))
  pub finds : AllByRecursion (AllFind (placed_from b objects)) (placed_from b (all_objects machine (map block_in inputs) (rest_of ending))) →
      AllByRecursion (AllFind (placed_from b objects)) (with_tables (placed_from b objects))
  pub undefined : undefined_names (with_tables (placed_from b objects)) ≡ undefined_names (placed_from b (all_objects machine (map block_in inputs) (rest_of ending)))

pub stand : (machine : MachineType) (ending : Ending) (b : Bases) (inputs : List FlavorInput) (objects : List Object) → AllByRecursion (IsMadeFor machine) inputs →
    IsProgramOf machine ending b inputs objects → Stand machine ending b inputs objects
unfolding IsDistinct
stand machine OfLinker b inputs objects made program = grind (arith, linker_kept, placed_kept, contributions_kept, definitions_kept, all_claim)
stand machine OfMember b inputs objects made program =
    let ended = program.held.ended in
    let xs : List Object = objects_taken machine ended.before in
    let ys : List Object = objects_taken machine ended.behind in
    let free = none machine inputs objects made ended in
    let even : b.directory_ends % 4 ≡ 0 = program.admissible.directory_ends.1 in
    let parts = parts_are machine inputs objects made ended in
    let kept = kept_are machine inputs objects made ended in
    let placed : with_tables (placed_from b objects) ≡ placed_from b (xs ++ taken_null machine ∷ ys) = placed_kept b objects ∙ ap (placed_from b) kept in
    let names : List (List ℕ) = symbols_listed (all_members machine inputs) in
    record {
      contributed = λ group other. grind (arith, contributions_kept, group_same, even);
      defined = λ name m. grind (arith, among_later name null_descriptor_symbol names m, definitions_kept, all_claim, others_same, even, not_same_turned, all_among);
      among = λ q m. subst (Among q) (sym placed) (among_same machine b xs ys free even q (subst (λ os. Among q (placed_from b os)) (sym parts) m));
      finds = λ all. grind (arith, finds_same machine b xs ys free even (placed_from b objects) (subst (λ os. AllByRecursion (AllFind (placed_from b objects)) (placed_from b os)) (sym parts) all));
      undefined = ap undefined_names placed ∙ undefined_same machine b xs ys free even ∙ ap (λ os. undefined_names (placed_from b os)) parts;
    }

module _ (machine : MachineType) (ending : Ending) (b : Bases) (inputs : List FlavorInput) (objects : List Object) (made : AllByRecursion (IsMadeFor machine) inputs)
    (program : IsProgramOf machine ending b inputs objects) where
  abbrev linked : List Placed
  linked = placed_from b objects

  abbrev image : List Range
  image = image_of machine b (placed_from b objects)

  abbrev dlls : List FlavorBlock
  dlls = map block_in inputs

  pub suit : AllSuit ending (map block_in inputs)
  suit = grind (arith, all_gnu, all_either, program.held.ended)

  pub even : AreEven ending machine b
  even = grind (arith, even_bases)

  stands : Stand machine ending b inputs objects
  stands = stand machine ending b inputs objects made program

  group_from : (group : Group) → same_group group DirectoryEnds ≡ false → BytesAt image (base_of group b) (filled (base_of group b) (contributions machine linked group linked)) →
      BytesAt image (base_of group b) (filled (base_of group b) (contributions machine linked group (placed_from b (all_objects machine dlls (rest_of ending)))))
  group_from group other located = subst (λ cs. BytesAt image (base_of group b) (filled (base_of group b) cs)) (stands.contributed group other) located

  located : LocatedFrom machine linked image b (all_objects machine dlls (rest_of ending))
  located = grind (
    arith,
    each_located machine b objects program.admissible,
    group_from Descriptors refl (each_located machine b objects program.admissible).descriptors,
    group_from Lookups refl (each_located machine b objects program.admissible).lookups,
    group_from Addresses refl (each_located machine b objects program.admissible).addresses,
    group_from HintNames refl (each_located machine b objects program.admissible).hint_names,
    group_from DllNames refl (each_located machine b objects program.admissible).dll_names,
  )

  abbrev defined : List SymbolDefinition
  defined = definitions_all machine b dlls

  names_are : map (λ (d : SymbolDefinition). d.name) defined ≡ symbols_listed (all_members machine inputs)
  names_are = names-all machine b dlls ∙ sym (inputs_symbols machine inputs made)

  pub definitions_are : definitions (placed_from b (all_objects machine (map block_in inputs) (rest_of ending))) ≡ definitions_all machine b (map block_in inputs)
  definitions_are = grind (arith, definitions-all, rest_of, suit, even, defined, ends_all, append-nil)

  pub only : (d : SymbolDefinition) → Among d (definitions_all machine b (map block_in inputs)) → definitions_of d.name (placed_from b objects) ≡ d ∷ []
  unfolding IsDistinct
  only d m =
      stands.defined d.name (subst (Among d.name) names_are (among_map (λ (x : SymbolDefinition). x.name) d defined m))
      ∙ ap (λ ds. filter (λ (x : SymbolDefinition). bytes_eq d.name x.name) ds) definitions_are
      ∙ only_definition d defined m (subst (IsDistinct bytes_eq) (sym names_are) (grind arith))

-- What is known of a library's null descriptor.
module _ (machine : MachineType) (b : Bases) (inputs : List FlavorInput) (objects : List Object) (made : AllByRecursion (IsMadeFor machine) inputs) (program : IsProgramOf machine OfMember b inputs objects) where
  abbrev xs : List Object
  xs = objects_taken machine program.held.ended.before

  abbrev ys : List Object
  ys = objects_taken machine program.held.ended.behind

  null_only : definitions_of null_descriptor_symbol (placed_from b objects) ≡ record { name = null_descriptor_symbol; address = Some b.directory_ends } ∷ []
  unfolding IsDistinct
  null_only =
      let listed : List (List ℕ) = symbols_listed (all_members machine inputs) in
      definitions_kept null_descriptor_symbol b objects
      (all_claim null_descriptor_symbol (null_descriptor_symbol ∷ listed) (among_first null_descriptor_symbol listed) (filter (λ o. not (has_tables o)) objects) program.held.others)
      ∙ ap (λ os. definitions_of null_descriptor_symbol (placed_from b os)) (kept_are machine inputs objects made program.held.ended)
      ∙ null_once machine b xs ys (none machine inputs objects made program.held.ended) program.admissible.directory_ends.1
      (subst (AllByRecursion (λ other. bytes_eq null_descriptor_symbol other ≡ false))
      (sym (ap (λ os. map (λ (d : SymbolDefinition). d.name) (definitions (placed_from b os))) (parts_are machine inputs objects made program.held.ended)
      ∙ ap (map (λ (d : SymbolDefinition). d.name)) (definitions_are machine OfMember b inputs objects made program)
      ∙ names-all machine b (map block_in inputs) ∙ sym (inputs_symbols machine inputs made))) program.held.distinct.0)

  follows : b.directory_ends ≡ b.descriptors + 20 * length inputs
  follows = program.follows ∙ directory_end machine inputs objects made program.held.ended b.descriptors program.admissible.descriptors.1

  -- in any memory that has the group's contributions at its base, zeros are where the descriptors end
  member_null : (ranges : List Range) → BytesAt ranges b.directory_ends (filled b.directory_ends (contributions machine (placed_from b objects) DirectoryEnds (placed_from b objects))) →
      BytesAt ranges (ends_all machine b (map block_in inputs)).descriptors (zeros 20)
  member_null ranges there = grind (
    arith,
    follows,
    length-map inputs block_in,
    descriptors_all machine b (map block_in inputs),
    contributions_kept machine (placed_from b objects) DirectoryEnds b objects,
    kept_are machine inputs objects made program.held.ended,
    null_filled machine b xs ys (none machine inputs objects made program.held.ended) program.admissible.directory_ends.1 (placed_from b objects),
  )

-- The linker's null descriptor is where the descriptors end.
linker_null : (machine : MachineType) (linked : List Placed) (ranges : List Range) (b : Bases) → AreAligned b →
    BytesAt ranges b.descriptors (filled b.descriptors (contributions machine linked Descriptors (placed_from b (null_descriptor ∷ [])))) → BytesAt ranges b.descriptors (zeros 20)
linker_null machine linked ranges b even located = grind (arith, even, located, aligned)

-- whatever ends the directory
pub null_there : (machine : MachineType) (ending : Ending) (b : Bases) (inputs : List FlavorInput) (objects : List Object) → AllByRecursion (IsMadeFor machine) inputs →
    IsProgramOf machine ending b inputs objects → (ranges : List Range) →
    BytesAt ranges b.directory_ends (filled b.directory_ends (contributions machine (placed_from b objects) DirectoryEnds (placed_from b objects))) →
    BytesAt ranges (ends_all machine b (map block_in inputs)).descriptors
    (filled (ends_all machine b (map block_in inputs)).descriptors (contributions machine (placed_from b objects) Descriptors (placed_from (ends_all machine b (map block_in inputs)) (rest_of ending)))) →
    BytesAt ranges (ends_all machine b (map block_in inputs)).descriptors (zeros 20)
null_there machine OfLinker b inputs objects made program ranges at_ends last =
    linker_null machine (placed_from b objects) ranges (ends_all machine b (map block_in inputs))
    (even_all machine OfLinker b (map block_in inputs) (suit machine OfLinker b inputs objects made program) (even machine OfLinker b inputs objects made program)) last
null_there machine OfMember b inputs objects made program ranges at_ends last = member_null machine b inputs objects made program ranges at_ends

null_known : (machine : MachineType) (ending : Ending) (b : Bases) (inputs : List FlavorInput) (objects : List Object) → AllByRecursion (IsMadeFor machine) inputs →
    IsProgramOf machine ending b inputs objects → NullDefined ending (placed_from b objects)
null_known machine OfLinker b inputs objects made program = tt
null_known machine OfMember b inputs objects made program = (b.directory_ends, null_only machine b inputs objects made program)

null_ends : (machine : MachineType) (ending : Ending) (b : Bases) (inputs : List FlavorInput) (objects : List Object) → AllByRecursion (IsMadeFor machine) inputs →
    IsProgramOf machine ending b inputs objects → WhereMember ending (b.directory_ends ≡ b.descriptors + 20 * length inputs)
null_ends machine ending b inputs objects made program = grind (arith, follows)

claimed_are : (machine : MachineType) (ending : Ending) (b : Bases) (inputs : List FlavorInput) (objects : List Object) → AllByRecursion (IsMadeFor machine) inputs →
    IsProgramOf machine ending b inputs objects → AreClaimed ending (names_claimed_in (with_tables (placed_from b objects))) (own_names ending machine inputs)
claimed_are machine OfLinker b inputs objects made program =
    ap names_claimed_in (placed_kept b objects ∙ ap (placed_from b) (linker_kept machine inputs objects made program.held.ended))
    ∙ claimed_placed b (all_objects machine (map block_in inputs) (null_descriptor ∷ []))
    ∙ all_claim_listed machine OfLinker (map block_in inputs) ∙ sym (inputs_symbols machine inputs made)
claimed_are machine OfMember b inputs objects made program =
    let ended = program.held.ended in
    let xs : List Object = objects_taken machine ended.before in
    let ys : List Object = objects_taken machine ended.behind in
    let names : List (List ℕ) = symbols_listed (all_members machine inputs) in
    subst (λ ns. HaveSame ns (null_descriptor_symbol ∷ names))
    (sym (ap names_claimed_in (placed_kept b objects ∙ ap (placed_from b) (kept_are machine inputs objects made ended)) ∙ claimed_placed b (xs ++ taken_null machine ∷ ys)))
    (claimed_with_null machine xs ys names
    (ap (flat_map claimed_names) (parts_are machine inputs objects made ended) ∙ all_claim_listed machine OfMember (map block_in inputs) ∙ sym (inputs_symbols machine inputs made)))

module _ (machine : MachineType) (ending : Ending) (b : Bases) (inputs : List FlavorInput) (objects : List Object) (made : AllByRecursion (IsMadeFor machine) inputs)
    (program : IsProgramOf machine ending b inputs objects) where
  abbrev all : List Placed
  all = placed_from b objects

  pub each : EachIn machine (placed_from b objects) (image_of machine b (placed_from b objects)) b (map block_in inputs) (rest_of ending)
  each =
      each_in machine ending all (image_of machine b all) (rest_of ending) (starts machine b objects program.admissible) (ends machine b objects program.admissible)
      (null_known machine ending b inputs objects made program) (map block_in inputs) b
      (inputs_link machine ending inputs made program.held.found (suit machine ending b inputs objects made program)) (even machine ending b inputs objects made program)
      (only machine ending b inputs objects made program) (located machine ending b inputs objects made program)

  nth_imports : (i : ℕ) (p : FlavorInput) → slice_get inputs i ≡ Some p →
      InputImports machine (image_of machine b (placed_from b objects)) (placed_from b objects) (b.descriptors + 20 * i) (b.addresses + thunk_width machine * thunks_of i inputs) p
  nth_imports i p is =
      let found = nth_in machine all (image_of machine b all) (rest_of ending) (map block_in inputs) b each.imports i (block_in p) (slice_get-map block_in inputs i ∙ ap (option_map block_in) is) in
      imports_of machine (image_of machine b all) all p found.0 (b.descriptors + 20 * i) (b.addresses + thunk_width machine * thunks_of i inputs) found.1.1.1.0 found.1.0
      (found.1.1.0 ∙ ap (λ n. b.addresses + thunk_width machine * n) (thunks_are i inputs)) found.1.1.1.1

  -- what is placed of the members' objects is placed among all
  pub placed_among : (q : Placed) → Among q (placed_from b (all_objects machine (map block_in inputs) (rest_of ending))) → Among q (with_tables (placed_from b objects))
  placed_among = (stand machine ending b inputs objects made program).among

  pub program_links : ProgramLinks machine ending b inputs objects
  unfolding Among
  program_links =
      let places = stand machine ending b inputs objects made program in
      let last : Bases = ends_all machine b (map block_in inputs) in
      record {
        linked = inputs_taken machine inputs made;
        imports = nth_imports;
        directory = subst (DirectoryAt (image_of machine b all) (thunk_width machine) b.descriptors) (imported_are machine inputs)
            (directory_in machine all (image_of machine b all) (rest_of ending) (map block_in inputs) b each.imports
            (null_there machine ending b inputs objects made program (image_of machine b all) (group_located machine b objects program.admissible DirectoryEnds (inr (inl refl))) each.located.descriptors));
        null = grind (arith, null_only);
        ended = null_ends machine ending b inputs objects made program;
        targets = places.finds (each.targets (grind arith));
        defined = subst (AllByRecursion (IsDefinedAt all)) (sym places.undefined) (each.defined (rest_leaves ending last));
        listed = grind (arith, names_are machine ending b inputs objects made program, once_of all (definitions_all machine b (map block_in inputs)) (only machine ending b inputs objects made program));
        claimed = claimed_are machine ending b inputs objects made program;
      }
    where
      rest_leaves : (kind : Ending) (c : Bases) → AllByRecursion (IsDefinedAt (placed_from b objects)) (undefined_names (placed_from c (rest_of kind)))
      rest_leaves kind c = grind arith

-- Packed placement of both flavours makes a program.

-- Relocations are within their sections.

field_within : (machine : MachineType) → 0 + 4 ≤ length (zeros (thunk_width machine))
field_within machine = grind arith

askings_sized : (machine : MachineType) (dll : NamesOfDll) (es : List ExportView) (rest : List Object) → AllByRecursion IsSized rest → AllByRecursion IsSized (behind_descriptor machine dll es rest)
unfolding with_section_symbols object_of null_thunk entries_of name_text import_object
askings_sized machine dll [] rest all = ((tt, (tt, tt)), all)
askings_sized machine dll (e ∷ es) rest all = (grind (arith, field_within), askings_sized machine dll es rest all)

pub all_sized : (machine : MachineType) (ending : Ending) (blocks : List FlavorBlock) → AllByRecursion IsSized (all_objects machine blocks (rest_of ending))
unfolding with_section_symbols object_of descriptor entries_of name_text
all_sized machine ending [] = grind arith
all_sized machine ending (k ∷ blocks) = grind (arith, askings_sized, head_sized, exports_sized, tail_sized, all_sized machine ending blocks)

pub kept_sized : (machine : MachineType) (ending : Ending) (inputs : List FlavorInput) (objects : List Object) → AllByRecursion (IsMadeFor machine) inputs →
    AreEnded ending machine inputs objects → AllByRecursion IsSized (filter has_tables objects)
unfolding with_section_symbols object_of Rattle.implib.specs.Members.MsvcObjects.null_descriptor entries_of name_text
kept_sized machine ending inputs objects made ended = kept_all machine ending inputs objects made ended IsSized (tt, tt) (all_sized machine ending (map block_in inputs))

-- multiples of 8 are multiples of a thunk's width
of_eight : (machine : MachineType) (n : ℕ) → n % 8 ≡ 0 → n % thunk_width machine ≡ 0
of_eight machine n even = by_width (λ w. n % w ≡ 0) (omega arith) even machine

lookups_eights : (first : ℕ) (objects : List Object) → (packed first objects).lookups % 8 ≡ 0
unfolding next_multiple
lookups_eights first objects = omega arith

pub packed_objects : (machine : MachineType) (ending : Ending) (first : ℕ) (inputs : List FlavorInput) (objects : List Object) → AllByRecursion (IsMadeFor machine) inputs →
    AreProgramObjects machine ending inputs objects → 0 < first → packed_end first objects < 2 ^ 31 → IsProgramOf machine ending (packed first objects) inputs objects
unfolding next_multiple
packed_objects machine OfLinker first inputs objects made held above below = grind (arith, admissible machine first objects (kept_sized machine OfLinker inputs objects made held.ended) above below)
packed_objects machine OfMember first inputs objects made held above below = grind (
  arith,
  directory_end machine inputs objects made held.ended (packed_descriptors first) (omega arith),
  admissible machine first objects (kept_sized machine OfMember inputs objects made held.ended) above below,
  of_eight machine (packed first objects).lookups (lookups_eights first objects),
  of_eight machine (packed first objects).addresses (packed_eights first objects),
  follows,
  aligned,
)

pub packed_admissible : (machine : MachineType) (ending : Ending) (first : ℕ) (inputs : List FlavorInput) (objects : List Object) → AllByRecursion (IsMadeFor machine) inputs →
    AreEnded ending machine inputs objects → 0 < first → packed_end first objects < 2 ^ 31 → IsAdmissible machine (packed first objects) objects
packed_admissible machine ending first inputs objects made ended above below = admissible machine first objects (kept_sized machine ending inputs objects made ended) above below
