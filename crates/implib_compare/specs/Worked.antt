-- Comparisons, and the flavour of libraries, worked by hand.
use Rattle.std.specs.Prelude.{◌≡◌, ℕ, true, false, List, [], ◌∷◌, codes}
use Rattle.implib.specs.declared.flavor.Flavor.TheVariants.{Gnu, Msvc}
use Rattle.implib.specs.Import.{Ask, Name, Ordinal}
use Rattle.implib_read.specs.Classes.{Class, AnImport, AnAlias, Descriptor}
use Rattle.implib_read.specs.Classes.{Head, Tail, DelayImport, Other}
use Rattle.implib_read.specs.Classes.{MemberRead}
use Rattle.implib_read.specs.declared.import.ImportKind.{ImportKind}
use Rattle.implib_read.specs.declared.import.ImportKind.TheVariants.{Code, CodeOrConst, Const, Data}
use Rattle.implib_read.specs.declared.import.ImportKind.TheVariants.{Delayed}
use Rattle.implib_compare.specs.Comparison.{differing, verdict}
use Rattle.implib_compare.specs.Flavors.{flavor_of}
use Rattle.implib_compare.specs.declared.compare.Verdict.TheVariants.{Different, NotDecided, Same}

-- a member
abbrev pub member : Class → MemberRead
member class = record { name = codes "m"; offset = 8; class = class }

-- an import of a DLL
abbrev pub of_dll : List ℕ → List (List ℕ) → Ask → ImportKind → ℕ → MemberRead
of_dll dll declared ask kind machine = member (AnImport (record {
  imports = record { dll = dll; declared = declared; ask = ask };
  kind = kind;
  machine = machine;
}))

-- the symbols of feed
abbrev pub feed : List (List ℕ)
feed = codes "__imp_feed" ∷ codes "feed" ∷ []

-- feed of zoo.dll on AMD64, by its name with the hint 0
abbrev pub feed_of_zoo : ImportKind → MemberRead
feed_of_zoo kind = of_dll (codes "zoo.dll") feed (Name (codes "feed") 0) kind 0x8664

-- an alias
abbrev pub alias : List ℕ → List ℕ → MemberRead
alias weak target = member (AnAlias (record { weak = weak; target = target }))

-- a library of an import and an alias
abbrev pub zoo : List MemberRead
zoo = member Descriptor ∷ feed_of_zoo Code ∷ alias (codes "nourish") (codes "feed") ∷ []

-- Which libraries are the same as `zoo`.
pub record WorkedComparisons : Type 0 where
  pub empty : verdict [] [] ≡ Same
  -- with a DLL's name in capitals, and another hint
  pub capitals : verdict (feed_of_zoo Code ∷ [])
      (of_dll (codes "ZOO.DLL") feed (Name (codes "feed") 0) Code 0x8664 ∷ []) ≡ Same
  -- code and a constant are as one that is not told
  pub untold_constant : verdict (feed_of_zoo CodeOrConst ∷ []) (feed_of_zoo Const ∷ []) ≡ Same
  pub constant : verdict (feed_of_zoo Code ∷ []) (feed_of_zoo Const ∷ []) ≡ Different
  pub constant_data : verdict (feed_of_zoo Const ∷ []) (feed_of_zoo Data ∷ []) ≡ Different
  pub untold_data : verdict (feed_of_zoo CodeOrConst ∷ []) (feed_of_zoo Data ∷ []) ≡ Different
  -- a delayed import is as no other
  pub delayed_itself : verdict (feed_of_zoo Delayed ∷ member Head ∷ [])
      (member Tail ∷ feed_of_zoo Delayed ∷ []) ≡ Same
  pub delayed_code : verdict (feed_of_zoo Code ∷ []) (feed_of_zoo Delayed ∷ []) ≡ Different
  pub delayed_untold : verdict (feed_of_zoo Delayed ∷ []) (feed_of_zoo CodeOrConst ∷ []) ≡ Different
  -- another DLL, symbols, name, ordinal, machine
  pub symbols : verdict (feed_of_zoo Code ∷ [])
      (of_dll (codes "zoo.dll") (codes "__imp_feed" ∷ []) (Name (codes "feed") 0) Code 0x8664 ∷ [])
      ≡ Different
  pub name : verdict (feed_of_zoo Code ∷ [])
      (of_dll (codes "zoo.dll") feed (Name (codes "Feed") 0) Code 0x8664 ∷ []) ≡ Different
  pub by_ordinal : verdict (feed_of_zoo Code ∷ [])
      (of_dll (codes "zoo.dll") feed (Ordinal 0) Code 0x8664 ∷ []) ≡ Different
  -- another alias, the same twice, none
  pub weak : verdict (alias (codes "a") (codes "b") ∷ []) (alias (codes "c") (codes "b") ∷ [])
      ≡ Different
  pub parted : verdict (alias (codes "ab") (codes "c") ∷ []) (alias (codes "a") (codes "bc") ∷ [])
      ≡ Different
  pub none : verdict zoo [] ≡ Different
  -- another object leaves it open where the imports are the same, and one that is not understood
  -- always
  pub other : verdict zoo (member Other ∷ zoo) ≡ NotDecided
  pub other_differs : verdict (member Other ∷ []) zoo ≡ Different
  pub delayed_part : verdict (member DelayImport ∷ []) zoo ≡ NotDecided
  -- which members differ: of two that are equal the second, where the other library has one
  pub flags : differing true
      (feed_of_zoo Code ∷ alias (codes "a") (codes "b") ∷ feed_of_zoo Code ∷ []) zoo
      ≡ false ∷ true ∷ true ∷ []

-- an import on a machine
abbrev pub import_on : ImportKind → ℕ → MemberRead
import_on kind machine = of_dll (codes "zoo.dll") feed (Ordinal 1) kind machine

-- The flavour of libraries.
pub record WorkedFlavors : Type 0 where
  pub tables : flavor_of (member Descriptor ∷ import_on Data 0x8664 ∷ []) ≡ Msvc
  pub code : flavor_of (import_on Code 0x8664 ∷ []) ≡ Msvc
  pub constant : flavor_of (import_on Data 0x8664 ∷ import_on Const 0x8664 ∷ []) ≡ Msvc
  pub delayed : flavor_of (member Tail ∷ member Head ∷ import_on Delayed 0x8664 ∷ []) ≡ Gnu
  pub data_alone : flavor_of
      (import_on Data 0x8664 ∷ alias (codes "a") (codes "b") ∷ member Other ∷ []) ≡ Gnu
  pub none : flavor_of [] ≡ Gnu
