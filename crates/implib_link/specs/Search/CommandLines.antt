-- Searches of several archives, in the order of a command line. The members of all are in one list,
-- and an archive is the numbers of its members there, in its order: one that stands twice on a
-- command line has the same members twice.
--
-- GNU `ld` (binutils, ld/ldlang.c, `open_input_bfds`) goes through its inputs once. It sweeps an
-- archive until a sweep takes nothing, and goes through a group (`--start-group`) until none of its
-- archives has more to give. What later inputs leave unresolved leads it back to none.
--
-- lld (COFF/Driver.cpp, `enqueueArchiveMember`; COFF/SymbolTable.cpp, `addLazyArchive`,
-- `addUndefined`) reads all inputs, and takes the members that names ask for from one queue behind
-- them. So what it takes is one search of all members for all objects, in an order that such a
-- search allows (`TakesIntoAs`).
use Rattle.std.specs.Prelude.{◌≡◌, ℕ, zero, suc, Bool, false, ◌&&◌, ◌==◌, List, [], ◌∷◌, ◌++◌, ◌≤◌}
use Rattle.std.specs.Prelude.{bytes_eq, length, map, not, slice_get, Option, None, Some, ◌⊎◌}
use Rattle.std.specs.List.{AllByRecursion, Contains, IsDistinct, filter, flat_map, list_any}
use Rattle.implib.specs.Formats.File.{file_in}
use Rattle.implib.specs.Formats.Object.{Object}
use Rattle.implib.specs.Import.{imp_symbol}
use Rattle.implib.specs.declared.machine.MachineType.{MachineType}
use Rattle.implib.specs.Members.MemberSpec.{MemberView}
use Rattle.implib_link.specs.Flavors.Program.{ClaimsNone, HaveSame, claimed_names}
use Rattle.implib_link.specs.Flavors.Expansion.{IsReadByGnu, expanded_in}
use Rattle.implib_link.specs.Search.Libraries.{FlavorLibrary, archive_of_both}
use Rattle.implib_link.specs.Search.Search.{listed_in, references_of, unresolved, claimed_as}
use Rattle.implib_link.specs.Search.Search.{first_listed, has_weak, is_listed_for, objects_as}
use Rattle.implib_link.specs.Search.Search.{undefined_in}
use Rattle.implib_link.specs.Search.Search.{index_at, members_at, numbers_from, sweeps, swept}

-- an input: an object, or archives that are searched as a group; an archive by itself is a group of
-- one
pub data Input : Type 0 where
  AnObject : Object → Input
  Archives : List (List ℕ) → Input

-- the numbers of the members in an input, and in some
abbrev pub numbers_of : Input → List ℕ
numbers_of (AnObject o) = []
numbers_of (Archives archives) = flat_map (λ numbers. numbers) archives

abbrev pub numbers_in : List Input → List ℕ
numbers_in inputs = flat_map numbers_of inputs

-- the objects among inputs
abbrev pub object_of : Input → List Object
object_of (AnObject o) = o ∷ []
object_of (Archives archives) = []

abbrev pub objects_given : List Input → List Object
objects_given inputs = flat_map object_of inputs

-- GNU `ld`

-- What is taken after an archive was swept, from what was taken before: some sweeps over its index,
-- until one takes nothing.
pub record IsSwept (reads : List ℕ → Option Object) (members : List MemberView) (own : List Object)
    (archive : List ℕ) (before after : List ℕ) : Type 0 where
  pub count : ℕ
  pub taken : sweeps reads members own (index_at members archive) count before ≡ after
  pub ended : swept reads members own (index_at members archive) after ≡ after

-- archives are swept one after another
unfoldable pub AreSwept : (List ℕ → Option Object) → List MemberView → List Object → List (List ℕ) →
    List ℕ → List ℕ → Type 0
AreSwept reads members own [] before after = before ≡ after
AreSwept reads members own (archive ∷ archives) before after =
    (between : List ℕ) × IsSwept reads members own archive before between
    × AreSwept reads members own archives between after

-- a group is gone through so many times
unfoldable pub AreRounds : (List ℕ → Option Object) → List MemberView → List Object →
    List (List ℕ) → ℕ → List ℕ → List ℕ → Type 0
AreRounds reads members own archives zero before after = before ≡ after
AreRounds reads members own archives (suc count) before after =
    (between : List ℕ) × AreSwept reads members own archives before between
    × AreRounds reads members own archives count between after

-- What is taken after a group was searched: rounds through it (`taken`), until a sweep over none of
-- its archives takes anything (`ended`).
pub record IsGroupSearched (reads : List ℕ → Option Object) (members : List MemberView)
    (own : List Object) (archives : List (List ℕ)) (before after : List ℕ) : Type 0 where
  pub rounds : ℕ
  pub taken : AreRounds reads members own archives rounds before after
  pub ended : AllByRecursion
      (λ archive. swept reads members own (index_at members archive) after ≡ after) archives

-- What is taken after inputs, for the objects that were read before them.
unfoldable pub SearchesFrom : (List ℕ → Option Object) → List MemberView → List Object →
    List Input → List ℕ → List ℕ → Type 0
SearchesFrom reads members own [] before after = before ≡ after
SearchesFrom reads members own (AnObject o ∷ inputs) before after =
    SearchesFrom reads members (own ++ o ∷ []) inputs before after
SearchesFrom reads members own (Archives archives ∷ inputs) before after =
    (between : List ℕ) × IsGroupSearched reads members own archives before between
    × SearchesFrom reads members own inputs between after

-- What GNU `ld` takes for a command line: the numbers of the members, the last one first. A member
-- with a weak external gives its name to nobody, and is taken anew where its archive stands again:
-- there is none that does (`once`).
pub record SearchesCommandLine (reads : List ℕ → Option Object) (members : List MemberView)
    (inputs : List Input) (taken : List ℕ) : Type 0 where
  pub once : IsDistinct bytes_eq
      (map (λ m. m.bytes) (filter (λ m. has_weak (reads m.bytes)) members))
  pub searched : SearchesFrom reads members [] inputs [] taken

-- What is asked of command lines.

-- the symbols that members of these numbers are listed for
abbrev pub listed_at : List MemberView → List ℕ → List (List ℕ)
listed_at members numbers = listed_in (members_at members numbers)

-- No object claims a name that an archive in front of it lists: a linker that needed the name there
-- has taken that member, and the object defines it again.
unfoldable pub AreUnclaimedBehind : List MemberView → List ℕ → List Input → Type 0
AreUnclaimedBehind members read [] = Unit {0}
AreUnclaimedBehind members read (input ∷ inputs) =
    AllByRecursion (ClaimsNone (listed_at members read)) (object_of input)
    × AreUnclaimedBehind members (read ++ numbers_of input) inputs

-- an object leaves none of these names to others
abbrev pub LeavesNone : List (List ℕ) → Object → Type 0
LeavesNone names o =
    AllByRecursion (λ name. list_any (bytes_eq name) (undefined_in o) ≡ false) names

-- the numbers of all members but some
abbrev pub numbers_but : List MemberView → List ℕ → List ℕ
numbers_but members some =
    filter (λ number. not (list_any (λ other. other == number) some))
    (numbers_from (length members) 0)

-- The order that GNU `ld` wants: what an object or a member leaves to others is listed by archives
-- of the same input or behind it alone, of all that list it.
unfoldable pub IsOrdered : (List ℕ → Option Object) → List MemberView → List Input → Type 0
IsOrdered reads members [] = Unit {0}
IsOrdered reads members (input ∷ inputs) =
    AllByRecursion
    (LeavesNone (listed_at members (numbers_but members (numbers_of input ++ numbers_in inputs))))
    (object_of input ++ objects_as reads (members_at members (numbers_of input)))
    × IsOrdered reads members inputs

-- No name that is left unresolved in the end is listed for a member: so it is in each link that
-- ends without an "undefined reference" to what its archives have, in whatever order these are.
abbrev pub NoneIsLost : (List ℕ → Option Object) → List MemberView → List Object → List MemberView →
    Type 0
NoneIsLost reads members own taken =
    AllByRecursion (λ name. first_listed members name ≡ None)
    (unresolved (own ++ objects_as reads taken))

-- Each member that is taken, and that is listed for one of these names, is the first that is listed
-- for it.
abbrev pub AreFirst : List MemberView → List (List ℕ) → List MemberView → Type 0
AreFirst members names taken = (name : List ℕ) (m : MemberView) → Contains names name →
    Contains taken m → Contains m.symbols name → first_listed members name ≡ Some m

-- the same by numbers
abbrev pub TakesFirst : List MemberView → List (List ℕ) → List ℕ → Type 0
TakesFirst members names taken =
    (name : List ℕ) (n k : ℕ) (m x : MemberView) → Contains names name →
    Contains taken n → slice_get members n ≡ Some m → Contains m.symbols name →
    slice_get members k ≡ Some x → Contains x.symbols name → n ≤ k

-- what is left to others in a link: by the given objects, and by the members that are taken
abbrev pub names_left : (List ℕ → Option Object) → List Object → List MemberView → List (List ℕ)
names_left reads own taken = references_of (own ++ objects_as reads taken)

-- Where a member is listed for `__imp_X`, GNU `ld` takes by default what it takes with
-- `--disable-auto-import` (`Sweeps`):
-- `left`: if X is left to others, the member is listed for X, too;
-- `claimed`: an object that claims X claims `__imp_X`, too.
pub record ImportsByName (reads : List ℕ → Option Object) (members : List MemberView)
    (own : List Object) (taken : List MemberView) : Type 0 where
  pub left : list_any
      (λ name. list_any
      (λ m. is_listed_for (imp_symbol name) m && not (is_listed_for name m)) members)
      (names_left reads own taken)
      ≡ false
  pub claimed : list_any
      (λ o. list_any
      (λ name. list_any (is_listed_for (imp_symbol name)) members
      && not (list_any (bytes_eq (imp_symbol name)) (claimed_names o))) (claimed_names o))
      (own ++ objects_as reads taken)
      ≡ false

-- each member is listed for exactly the names that it claims, as an archive's index is made by
-- tools
abbrev pub AreListedWhole : (List ℕ → Option Object) → List MemberView → Type 0
AreListedWhole reads members =
    AllByRecursion (λ m. HaveSame (claimed_as reads (m ∷ [])) m.symbols) members

-- Members that are as if they were given: those that are taken beside the given objects, and the
-- other members.
abbrev pub given_with : (List ℕ → Option Object) → (MemberView → Bool) → List Object →
    List MemberView → List Object
given_with reads is_given own taken = own ++ objects_as reads (filter is_given taken)

abbrev pub others_of : (MemberView → Bool) → List MemberView → List MemberView
others_of is_given members = filter (λ m. not (is_given m)) members

-- What GNU `ld` takes of a command line's archives, by what it reads members as:
-- `libraries_are`: the members that are not as given are those of libraries, archive by archive;
-- `first`, `by_name`, `unclaimed`, `ordered`, `whole`: what is asked of the command line;
-- `searches`: the search.
pub record SearchesFor (reads : List ℕ → Option Object) (of_libraries members : List MemberView)
    (inputs : List Input) (is_given : MemberView → Bool) (taken : List ℕ) : Type 0 where
  pub libraries_are : others_of is_given members ≡ of_libraries
  pub first : TakesFirst members
      (names_left reads (objects_given inputs) (members_at members taken)) taken
  pub by_name : ImportsByName reads members (objects_given inputs) (members_at members taken)
  pub unclaimed : AreUnclaimedBehind members [] inputs
  pub ordered : IsOrdered reads members inputs
      ⊎ NoneIsLost reads members (objects_given inputs) (members_at members taken)
  pub whole : AreListedWhole reads members
  pub searches : SearchesCommandLine reads members inputs taken

-- of libraries of which some are for it and others for Microsoft's linker, whose short imports it
-- expands as other linkers do
pub record SearchesFlavors (machine : MachineType) (libraries : List FlavorLibrary)
    (members : List MemberView) (inputs : List Input) (is_given : MemberView → Bool)
    (taken : List ℕ) : Type 0 where
  pub read : AllByRecursion (λ m. IsReadByGnu (file_in m.bytes)) members
  pub takes :
      SearchesFor (expanded_in machine) (archive_of_both libraries) members inputs is_given taken
