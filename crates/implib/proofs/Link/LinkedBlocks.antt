-- The objects for GNU's linker of one DLL, or of several, link to what their definitions mean.
use Rattle.std.proofs.Common.{arith, ◌≡◌, ℕ, ◌<◌, ◌^◌, List, [], ◌∷◌, ◌++◌, map, Some, refl, ap, sym, ◌∙◌, subst, inl, inr}
use Rattle.std.specs.Prelude.{bytes_eq}
use Rattle.std.specs.List.{AllByRecursion, IsDistinct, flat_map}
use Rattle.std.proofs.lemmas.List.{append-nil, append_assoc, map-append}
use Rattle.implib.specs.declared.machine.MachineType.{MachineType}
use Rattle.implib.specs.Definition.{ExportView}
use Rattle.implib.specs.Members.Gnu.{archive_symbols, head_symbol, iname_symbol}
use Rattle.implib.specs.Link.Image.{AllApart, IsAdmissible, Range, filled, image_of, contributions, range_end, range_of}
use Rattle.implib.specs.Link.Placement.{Addresses, Bases, Descriptors, DllNames, HintNames, Group, Lookups, Placed, base_of, groups, placed_from}
use Rattle.implib.specs.Link.Resolution.{SymbolDefinition, definitions, definitions_of}
use Rattle.implib.specs.Link.Load.{BytesAt}
use Rattle.implib.specs.Formats.Object.{Object}
use Rattle.implib.specs.Formats.Layout.{HasNoNul}
use Rattle.implib.specs.Link.Linked.{AllFind, IsDefinedAt, IsDefinedOnce, Links, LinksAt, LinksStrictlyAt, undefined_names}
use Rattle.implib.proofs.Link.Ranges.{Among, among_back, among_flat, among_front, filled_located}
use Rattle.implib.proofs.Link.Placement.{AreAligned, after_head, head, names-after}
use Rattle.implib.proofs.Link.Definitions.{only_definition}
use Rattle.implib.proofs.Link.Tables.{CanBeAsked}
use Rattle.implib.proofs.Link.Linked.{BlockLinks, LocatedFrom, aligned_block, all_append, bases_of_ranges, block_defined, block_definitions, block_links, block_targets, definitions-block, ends_of_block, head_definition, rest_located}
use Rattle.implib.specs.LibraryName.{NamesOfDll}

-- what a DLL's objects are made of
pub record Block : Type 0 where
  pub dll : NamesOfDll
  pub exports : List ExportView

-- the symbols that a DLL's members are listed for
abbrev pub linked_symbols : MachineType → NamesOfDll → List ExportView → List (List ℕ)
linked_symbols machine dll es = head_symbol machine dll.linked ∷ (flat_map archive_symbols es ++ iname_symbol machine dll.linked ∷ [])

-- the objects of DLLs, and others after them
abbrev pub blocks_objects : MachineType → List Block → List Object → List Object
blocks_objects machine [] rest = rest
blocks_objects machine (k ∷ blocks) rest = head machine k.dll ∷ after_head machine k.dll k.exports (blocks_objects machine blocks rest)

-- a block whose texts have no NUL and whose exports can be asked
pub record CanBeLinked (machine : MachineType) (k : Block) : Type 0 where
  pub dll : HasNoNul k.dll.text
  pub exports : AllByRecursion (CanBeAsked machine) k.exports

pub blocks_definitions : MachineType → Bases → List Block → List SymbolDefinition
blocks_definitions machine b [] = []
blocks_definitions machine b (k ∷ blocks) = block_definitions machine k.dll b k.exports ++ blocks_definitions machine (ends_of_block machine k.dll b k.exports) blocks

-- the ends after the objects of DLLs
unfoldable pub ends_of_blocks : MachineType → Bases → List Block → Bases
ends_of_blocks machine b [] = b
ends_of_blocks machine b (k ∷ blocks) = ends_of_blocks machine (ends_of_block machine k.dll b k.exports) blocks

pub definitions-blocks : (machine : MachineType) (b : Bases) (blocks : List Block) (rest : List Object) → AreAligned b →
    definitions (placed_from b (blocks_objects machine blocks rest)) ≡ blocks_definitions machine b blocks ++ definitions (placed_from (ends_of_blocks machine b blocks) rest)
unfolding blocks_definitions ends_of_blocks
definitions-blocks machine b [] rest even = refl
definitions-blocks machine b (k ∷ blocks) rest even =
    let later : Bases = ends_of_block machine k.dll b k.exports in
    let others : List SymbolDefinition = definitions (placed_from (ends_of_blocks machine later blocks) rest) in
    definitions-block machine k.dll b k.exports (blocks_objects machine blocks rest) even
    ∙ ap (λ ds. block_definitions machine k.dll b k.exports ++ ds) (definitions-blocks machine later blocks rest (aligned_block machine k.dll b k.exports even))
    ∙ sym (append_assoc (block_definitions machine k.dll b k.exports) (blocks_definitions machine later blocks) others)

names-block : (machine : MachineType) (dll : NamesOfDll) (b : Bases) (es : List ExportView) →
    map (λ (d : SymbolDefinition). d.name) (block_definitions machine dll b es) ≡ linked_symbols machine dll es
unfolding block_definitions head_definition
names-block machine dll b es = ap (λ rest. head_symbol machine dll.linked ∷ rest) (names-after machine dll _ es)

pub names-blocks : (machine : MachineType) (b : Bases) (blocks : List Block) →
    map (λ (d : SymbolDefinition). d.name) (blocks_definitions machine b blocks) ≡ flat_map (λ (k : Block). linked_symbols machine k.dll k.exports) blocks
unfolding blocks_definitions
names-blocks machine b [] = refl
names-blocks machine b (k ∷ blocks) =
    let later : Bases = ends_of_block machine k.dll b k.exports in
    map-append (λ (d : SymbolDefinition). d.name) (block_definitions machine k.dll b k.exports) (blocks_definitions machine later blocks)
    ∙ ap (λ names. names ++ map (λ (d : SymbolDefinition). d.name) (blocks_definitions machine later blocks)) (names-block machine k.dll b k.exports)
    ∙ ap (λ rest. linked_symbols machine k.dll k.exports ++ rest) (names-blocks machine later blocks)

-- each block links, with its descriptor after those before it
unfoldable pub BlocksLink : MachineType → List Placed → List Range → Bases → List Block → Type 0
BlocksLink machine linked image b [] = Unit {0}
BlocksLink machine linked image b (k ∷ blocks) =
    BlockLinks machine linked image b k.dll k.exports × BlocksLink machine linked image (ends_of_block machine k.dll b k.exports) blocks

-- what is known of blocks among all that is linked, with other objects after them
pub record EachLinks (machine : MachineType) (linked : List Placed) (image : List Range) (b : Bases) (blocks : List Block) (rest : List Object) : Type 0 where
  pub imports : BlocksLink machine linked image b blocks
  pub defined : AllByRecursion (IsDefinedAt linked) (undefined_names (placed_from (ends_of_blocks machine b blocks) rest)) →
      AllByRecursion (IsDefinedAt linked) (undefined_names (placed_from b (blocks_objects machine blocks rest)))
  pub targets : AllByRecursion (AllFind linked) (placed_from (ends_of_blocks machine b blocks) rest) →
      AllByRecursion (AllFind linked) (placed_from b (blocks_objects machine blocks rest))
  pub located : LocatedFrom machine linked image (ends_of_blocks machine b blocks) rest

-- each block links, wherever it is among all that is linked
module _ (machine : MachineType) (linked : List Placed) (image : List Range) (rest : List Object)
    (starts : AllByRecursion (λ r. 0 < r.start) image) (ends : AllByRecursion (λ r. range_end r < 2 ^ 31) image) where
  pub each_links : (blocks : List Block) (b : Bases) → AllByRecursion (CanBeLinked machine) blocks → AreAligned b →
      ((d : SymbolDefinition) → Among d (blocks_definitions machine b blocks) → definitions_of d.name linked ≡ d ∷ []) →
      LocatedFrom machine linked image b (blocks_objects machine blocks rest) → EachLinks machine linked image b blocks rest
  unfolding blocks_definitions ends_of_blocks BlocksLink
  each_links [] b fit even only located = record { imports = tt; defined = λ all. all; targets = λ all. all; located = located }
  each_links (k ∷ blocks) b fit even only located =
      let behind : List Object = blocks_objects machine blocks rest in
      let later : Bases = ends_of_block machine k.dll b k.exports in
      let own_only = λ (d : SymbolDefinition) (m : Among d (block_definitions machine k.dll b k.exports)). only d (among_front d (block_definitions machine k.dll b k.exports) (blocks_definitions machine later blocks) m) in
      let others = each_links blocks later fit.1 (aligned_block machine k.dll b k.exports even)
      (λ d m. only d (among_back d (block_definitions machine k.dll b k.exports) (blocks_definitions machine later blocks) m))
      (rest_located machine k.dll k.exports b behind linked image starts ends fit.0.dll fit.0.exports even own_only located) in
      record {
        imports = (block_links machine k.dll k.exports b behind linked image starts ends fit.0.dll fit.0.exports even own_only located, others.imports);
        defined = λ all. block_defined machine k.dll k.exports b behind linked image starts ends fit.0.dll fit.0.exports even own_only located (others.defined all);
        targets = λ all. block_targets machine k.dll k.exports b behind linked image starts ends fit.0.dll fit.0.exports even own_only located (others.targets all);
        located = others.located;
      }

-- objects that are placed admissibly are in their image
module _ (machine : MachineType) (b : Bases) (objects : List Object) (admissible : IsAdmissible machine b objects) where
  abbrev placed : List Placed
  placed = placed_from b objects

  abbrev image : List Range
  image = image_of machine b placed

  pub even : AreAligned b
  even = record { descriptors = admissible.descriptors.1; lookups = admissible.lookups.1; addresses = admissible.addresses.1 }

  starts_of : (ks : List Group) → AllByRecursion (λ k. 0 < base_of k b) ks → AllByRecursion (λ r. 0 < r.start) (flat_map (λ k. range_of (base_of k b) (contributions machine placed k placed)) ks)
  starts_of [] low = tt
  starts_of (k ∷ ks) low = grind (arith, starts_of ks low.1, all_append, bases_of_ranges)

  pub starts : AllByRecursion (λ r. 0 < r.start) (image_of machine b (placed_from b objects))
  starts = starts_of groups (admissible.descriptors.0, (admissible.directory_ends.0, (admissible.lookups.0, (admissible.addresses.0, (admissible.hint_names.0, (admissible.dll_names.0, tt))))))

  pub ends : AllByRecursion (λ r. range_end r < 2 ^ 31) (image_of machine b (placed_from b objects))
  ends = admissible.ends

  apart : AllApart (image_of machine b (placed_from b objects))
  apart = admissible.apart

  pub group_located : (k : Group) → Among k groups → BytesAt image (base_of k b) (filled (base_of k b) (contributions machine placed k placed))
  group_located k m =
      filled_located (base_of k b) (contributions machine placed k placed) (image_of machine b placed)
      (λ r held. among_flat (λ k. range_of (base_of k b) (contributions machine placed k placed)) k groups r m held) apart

  pub each_located : LocatedFrom machine (placed_from b objects) (image_of machine b (placed_from b objects)) b objects
  unfolding Among
  each_located = record {
    descriptors = group_located Descriptors (inl refl);
    lookups = group_located Lookups (inr (inr (inl refl)));
    addresses = group_located Addresses (inr (inr (inr (inl refl))));
    hint_names = group_located HintNames (inr (inr (inr (inr (inl refl)))));
    dll_names = group_located DllNames (inr (inr (inr (inr (inr (inl refl))))));
  }

-- the objects of DLLs link by themselves
pub defined_once : (linked : List Placed) (names : List (List ℕ)) → AllByRecursion (IsDefinedAt linked) names → AllByRecursion (IsDefinedOnce linked) names
defined_once linked [] all = tt
defined_once linked (name ∷ names) all = ((record { name = name; address = Some all.0.0 }, all.0.1), defined_once linked names all.1)

-- what was strict is plain
pub links_plainly : (machine : MachineType) (linked : List Placed) (image : List Range) (descriptor : ℕ) (dll : NamesOfDll) (es : List ExportView) →
    LinksStrictlyAt machine image linked descriptor dll es → LinksAt machine image linked dll es
links_plainly machine linked ranges descriptor dll es strictly =
    record { descriptor = descriptor; head = strictly.head; loads = strictly.loads.plain; entries = strictly.entries }

each_plainly : (machine : MachineType) (linked : List Placed) (image : List Range) (b : Bases) (blocks : List Block) →
    BlocksLink machine linked image b blocks → AllByRecursion (λ (k : Block). LinksAt machine image linked k.dll k.exports) blocks
unfolding BlocksLink
each_plainly machine linked ranges b [] link = tt
each_plainly machine linked ranges b (k ∷ blocks) link = (
  links_plainly machine linked ranges b.descriptors k.dll k.exports link.0.strictly,
  each_plainly machine linked ranges (ends_of_block machine k.dll b k.exports) blocks link.1,
)

module _ (machine : MachineType) (b : Bases) (blocks : List Block) (fit : AllByRecursion (CanBeLinked machine) blocks)
    (distinct : IsDistinct bytes_eq (flat_map (λ (k : Block). linked_symbols machine k.dll k.exports) blocks))
    (admissible : IsAdmissible machine b (blocks_objects machine blocks [])) where
  abbrev objects : List Object
  objects = blocks_objects machine blocks []

  only : (d : SymbolDefinition) → Among d (blocks_definitions machine b blocks) → definitions_of d.name (placed_from b (blocks_objects machine blocks [])) ≡ d ∷ []
  only d m = grind (arith, definitions-blocks, even, append-nil, blocks_definitions, only_definition, names-blocks)

  each : EachLinks machine (placed_from b objects) (image_of machine b (placed_from b objects)) b blocks []
  each =
      each_links machine (placed_from b objects) (image_of machine b (placed_from b objects)) [] (starts machine b objects admissible) (ends machine b objects admissible)
      blocks b fit (even machine b objects admissible) only (each_located machine b objects admissible)

  pub blocks_link : AllByRecursion (λ (k : Block). LinksAt machine (image_of machine b (placed_from b (blocks_objects machine blocks []))) (placed_from b (blocks_objects machine blocks [])) k.dll k.exports) blocks
      × AllByRecursion (IsDefinedOnce (placed_from b (blocks_objects machine blocks []))) (undefined_names (placed_from b (blocks_objects machine blocks [])))
  blocks_link = (
    each_plainly machine (placed_from b objects) (image_of machine b (placed_from b objects)) b blocks each.imports,
    defined_once (placed_from b objects) (undefined_names (placed_from b objects)) (each.defined tt),
  )

-- the objects of one DLL
abbrev pub linked_objects : MachineType → NamesOfDll → List ExportView → List Object
linked_objects machine dll es = head machine dll ∷ after_head machine dll es []

pub objects_link : (machine : MachineType) (dll : NamesOfDll) (es : List ExportView) (b : Bases) → HasNoNul dll.text → AllByRecursion (CanBeAsked machine) es →
    IsDistinct bytes_eq (linked_symbols machine dll es) → IsAdmissible machine b (linked_objects machine dll es) → Links machine b dll es (linked_objects machine dll es)
objects_link machine dll es b text fit distinct admissible =
    let block : Block = record { dll = dll; exports = es } in
    let distinct_names : IsDistinct bytes_eq (linked_symbols machine dll es ++ []) = subst (IsDistinct bytes_eq) (sym (append-nil (linked_symbols machine dll es))) distinct in
    let linked = blocks_link machine b (block ∷ []) (record { dll = text; exports = fit }, tt) distinct_names admissible in
    record { imports = linked.0.0; defined = linked.1 }
