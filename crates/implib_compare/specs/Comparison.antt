-- Whether two libraries mean the same (this project's choice).
use Rattle.std.specs.Prelude.{◌≡◌, ◌⊎◌, Bool, true, false, ◌||◌, List, [], ◌∷◌, ◌++◌, if◌then◌else◌}
use Rattle.std.specs.List.{list_any}
use Rattle.implib_read.specs.Classes.{Class, AnImport, AnAlias, Descriptor, NullDescriptor}
use Rattle.implib_read.specs.Classes.{NullThunk, Head, Tail, DelayImport, Other, NotUnderstood}
use Rattle.implib_read.specs.Classes.{MemberRead}
use Rattle.implib_compare.specs.declared.compare.Verdict.{Verdict}
use Rattle.implib_compare.specs.declared.compare.Verdict.TheVariants.{Different, NotDecided, Same}
use Rattle.implib_compare.specs.Facts.{Fact, both_tell, facts_of, keys_of}
use Rattle.implib_compare.specs.Partners.{lack_partners}

-- whether a member may import what is not read
abbrev pub is_unread : Class → Bool
is_unread (AnImport i) = false
is_unread (AnAlias a) = false
is_unread Descriptor = false
is_unread NullDescriptor = false
is_unread NullThunk = false
is_unread Head = false
is_unread Tail = false
is_unread DelayImport = true
is_unread Other = false
is_unread NotUnderstood = true

-- whether a member is an object that is no part of imports, and may define what another library
-- imports
abbrev pub is_other : Class → Bool
is_other (AnImport i) = false
is_other (AnAlias a) = false
is_other Descriptor = false
is_other NullDescriptor = false
is_other NullThunk = false
is_other Head = false
is_other Tail = false
is_other DelayImport = false
is_other Other = true
is_other NotUnderstood = false

-- whether a library has a member that may import what is not read
abbrev pub has_unread : List MemberRead → Bool
has_unread members = list_any (λ m. is_unread m.class) members

-- whether a library has an object that is no part of imports
abbrev pub has_other : List MemberRead → Bool
has_other members = list_any (λ m. is_other m.class) members

-- Of each member of the first library, whether it says what no member of the second one does that
-- is left for it, given whether each import of both tells CONSTANT from code.
abbrev pub differing : Bool → List MemberRead → List MemberRead → List Bool
differing told members others = lack_partners [] (keys_of told members) (keys_of told others)

-- whether some flag is set
abbrev pub is_some_set : List Bool → Bool
is_some_set flags = list_any (λ flag. flag) flags

-- The verdict. A member that may import what is not read leaves it open, and so does another
-- object, unless the imports and aliases that are read differ.
abbrev pub verdict_of : Bool → Bool → Bool → Verdict
verdict_of unread different other =
    if unread then NotDecided else if different then Different else if other then NotDecided
    else Same

-- facts are others in another order
abbrev pub Rearranged : List Fact → List Fact → Type 0
Rearranged [] others = others ≡ []
Rearranged (fact ∷ facts) others =
    (front : List Fact) × (back : List Fact) × (others ≡ front ++ fact ∷ back)
    × Rearranged facts (front ++ back)

-- two libraries say the same, in any order
abbrev pub SayTheSame : List MemberRead → List MemberRead → Type 0
SayTheSame left right =
    let told = both_tell left right in
    Rearranged (facts_of told left) (facts_of told right)

-- the verdict on two libraries
abbrev pub verdict : List MemberRead → List MemberRead → Verdict
verdict left right =
    let told = both_tell left right in
    verdict_of (has_unread left || has_unread right)
    (is_some_set (differing told left right) || is_some_set (differing told right left))
    (has_other left || has_other right)

-- two libraries say the same, and no member leaves it open
pub record AreTheSame (left right : List MemberRead) : Type 0 where
  pub facts : SayTheSame left right
  pub read : (has_unread left || has_unread right) ≡ false
  pub others : (has_other left || has_other right) ≡ false

-- two libraries do not say the same, and no member may import what is not read
pub record Differ (left right : List MemberRead) : Type 0 where
  pub differ : SayTheSame left right → ⊥
  pub read : (has_unread left || has_unread right) ≡ false

-- what a verdict means
abbrev pub Means : Verdict → List MemberRead → List MemberRead → Type 0
Means Same left right = AreTheSame left right
Means Different left right = Differ left right
Means NotDecided left right =
    ((has_unread left || has_unread right) ≡ true)
    ⊎ (SayTheSame left right × ((has_other left || has_other right) ≡ true))
