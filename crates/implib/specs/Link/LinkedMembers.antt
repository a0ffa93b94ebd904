-- What is linked: the head, the members of the selected exports and the tail of one definition or
-- of several, and the order of their names (docs/FORMATS.md, "Placement").
use Rattle.std.specs.Prelude.{◌≡◌, ℕ, List, [], ◌∷◌, ◌++◌, map, slice_get, slice_index, Option, ◌<◌}
use Rattle.std.specs.Prelude.{codes, length}
use Rattle.std.specs.Cmp.Lexicographic.{slice_cmp}
use Rattle.std.specs.List.{AllByRecursion, filter_map, flat_map}
use Rattle.std.specs.Option.{option_map}
use Rattle.std.specs.Ordering.{nat_cmp}
use Rattle.std.specs.declared.cmp.Ordering.TheVariants.{Less}
use Rattle.implib.specs.declared.flavor.Flavor.TheVariants.{Gnu}
use Rattle.implib.specs.declared.machine.MachineType.{MachineType}
use Rattle.implib.specs.Definition.{DefinitionView, ExportView, definition_view}
use Rattle.implib.specs.Library.{member_view}
use Rattle.implib.specs.declared.def.definition.ModuleDef.{ModuleDef}
use Rattle.implib.specs.declared.member.Member.{Member}
use Rattle.std.specs.declared.vec.Vec.{Vec}
use Rattle.implib.specs.Members.Gnu.{export_name, mangled_name}
use Rattle.implib.specs.Import.{public_exports}
use Rattle.implib.specs.LibraryName.{linked_name, names_for}
use Rattle.implib.specs.Members.Members.{AreMembersOf}
use Rattle.implib.specs.Members.MemberSpec.{MemberView, MemberSpec, member_of}
use Rattle.implib.specs.Members.GnuMembers.{export_spec, head_spec, tail_spec}
use Rattle.implib.specs.Formats.Object.{Object, object_in}
use Rattle.implib.specs.Link.Placement.{Bases}
use Rattle.implib.specs.Renaming.{renamed}

-- the exports of these numbers, which count the exports that are not private from 0
abbrev pub chosen_exports : DefinitionView → List ℕ → List ExportView
chosen_exports d chosen = filter_map (slice_get (public_exports (renamed d))) chosen

-- the specification of the member of the export of a number
abbrev pub numbered_spec : MachineType → List ℕ → List ExportView → ℕ → Option MemberSpec
numbered_spec machine dll exports number =
    option_map (export_spec machine dll number) (slice_get exports number)

-- the specifications of what is linked: the head, the members of the selected exports, the tail
abbrev pub linked_specs : DefinitionView → MachineType → List ℕ → List MemberSpec
linked_specs d machine chosen =
    head_spec machine (linked_name d)
    ∷ (filter_map (numbered_spec machine (linked_name d) (public_exports (renamed d))) chosen
    ++ tail_spec machine (names_for Gnu d) ∷ [])

-- what is linked
abbrev pub linked_members : DefinitionView → MachineType → List ℕ → List MemberView
linked_members d machine chosen = map member_of (linked_specs d machine chosen)

-- the objects that are read in members' bytes
abbrev pub objects_in : List MemberView → List Object
objects_in members = filter_map (λ m. object_in m.bytes) members

-- a name comes before another in the order of bytes
abbrev pub ComesBefore : List ℕ → List ℕ → Type 0
ComesBefore first second = slice_cmp nat_cmp first second ≡ Less

-- each name comes before the next one
abbrev pub IsAscending : List (List ℕ) → Type 0
IsAscending [] = Unit {0}
IsAscending (first ∷ []) = Unit {0}
IsAscending (first ∷ second ∷ others) = ComesBefore first second × IsAscending (second ∷ others)

-- the bases in the order of the groups' numbers; members for GNU's linker have no `.idata$3`, and
-- the base that is said to be its is that of `.idata$2`
abbrev pub bases_of : List ℕ → Bases
bases_of bases = record {
  descriptors = slice_index bases 0;
  directory_ends = slice_index bases 0;
  lookups = slice_index bases 1;
  addresses = slice_index bases 2;
  hint_names = slice_index bases 3;
  dll_names = slice_index bases 4;
}

-- an input of a link: a definition, its members, and the numbers of the selected exports
pub record LinkInput : Type 0 where
  pub definition : DefinitionView
  pub members : List MemberView
  pub chosen : List ℕ

-- the inputs that lists of definitions, members and choices make, index by index
abbrev pub inputs_of : List DefinitionView → List (List MemberView) → List (List ℕ) → List LinkInput
inputs_of [] members chosen = []
inputs_of (d ∷ definitions) [] chosen = []
inputs_of (d ∷ definitions) (m ∷ members) [] = []
inputs_of (d ∷ definitions) (m ∷ members) (c ∷ chosen) =
    record { definition = d; members = m; chosen = c } ∷ inputs_of definitions members chosen

-- the link inputs that the program's lists of definitions, members and choices make, index by index
abbrev pub inputs_held : {A B : Type 0} → List ModuleDef → List (Vec Member A) → List (Vec ℕ B) →
    List LinkInput
inputs_held definitions members chosen =
    inputs_of (map definition_view definitions) (map (λ list. map member_view list.items) members)
    (map (λ list. list.items) chosen)

-- the members are those of the definition
abbrev pub IsMade : MachineType → LinkInput → Type 0
IsMade machine p = AreMembersOf p.definition machine Gnu p.members

-- the members are those of the definition, and the numbers are of exports in the order of their
-- members' names
pub record IsLinkInput (machine : MachineType) (p : LinkInput) : Type 0 where
  pub made : AreMembersOf p.definition machine Gnu p.members
  pub numbers : AllByRecursion (λ n. n < length (public_exports (renamed p.definition))) p.chosen
  pub in_order : IsAscending (map (export_name (linked_name p.definition)) p.chosen)

-- What the names of a definition's members begin with. For example, `foo_dll_a_` of foo.dll, and
-- `foo_1_a_` where its library has the name foo.1.
abbrev pub member_prefix : DefinitionView → List ℕ
member_prefix d = mangled_name (linked_name d) ++ codes "_a_"

-- a text is the beginning of another
abbrev pub IsPrefixOf : List ℕ → List ℕ → Type 0
IsPrefixOf first second = (rest : List ℕ) × (second ≡ first ++ rest)

-- no text is the beginning of another
abbrev pub NoneIsPrefix : List (List ℕ) → Type 0
NoneIsPrefix [] = Unit {0}
NoneIsPrefix (text ∷ others) =
    AllByRecursion (λ other. (IsPrefixOf text other → ⊥) × (IsPrefixOf other text → ⊥)) others
    × NoneIsPrefix others

-- what is linked of all inputs, one after another
abbrev pub all_linked : MachineType → List LinkInput → List MemberView
all_linked machine inputs = flat_map (λ p. linked_members p.definition machine p.chosen) inputs
