-- Weak externals in a link: what an undefined name is resolved to that nothing defines, but that is
-- weak for another (PE/COFF specification, "Auxiliary Format 3: Weak Externals").
use Rattle.std.specs.Prelude.{◌≡◌, ℕ, ◌+◌, ◌&&◌, ◌==◌, true, List, [], ◌∷◌, bytes_eq, slice_get}
use Rattle.std.specs.Prelude.{Option, Some, None, if◌then◌else◌}
use Rattle.std.specs.List.{Contains}
use Rattle.std.specs.Option.{option_and_then}
use Rattle.implib.specs.Formats.Constants.{class_weak_external}
use Rattle.implib.specs.Formats.Object.{ASymbol, Auxiliary, Entry, ObjectSymbol, u32_at}
use Rattle.implib.specs.Link.Placement.{Placed}
use Rattle.implib.specs.Link.Resolution.{definitions_of, first_address, is_undefined_external}
use Rattle.implib_link.specs.Gnu.Fields.{DefinesIn, LinkedCode, Names}

-- the name of a symbol
abbrev pub name_of : Entry → Option (List ℕ)
name_of (Auxiliary bytes) = None
name_of (ASymbol s) = Some s.name

-- what a weak external is replaced by: the record after its symbol has the index of another symbol
-- of the object
abbrev pub replaced_by : List Entry → List Entry → Option (List ℕ)
replaced_by entries [] = None
replaced_by entries (ASymbol s ∷ behind) = None
replaced_by entries (Auxiliary bytes ∷ behind) =
    option_and_then name_of (slice_get entries (u32_at bytes 0))

-- the target of the first weak external of a name among the later entries of an object
abbrev pub weak_in : List ℕ → List Entry → List Entry → Option (List ℕ)
weak_in name entries [] = None
weak_in name entries (Auxiliary bytes ∷ later) = weak_in name entries later
weak_in name entries (ASymbol s ∷ later) =
    if (s.class == class_weak_external) && bytes_eq s.name name then replaced_by entries later
    else weak_in name entries later

-- the first of these that there is
abbrev pub first_of : Option (List ℕ) → Option (List ℕ) → Option (List ℕ)
first_of None other = other
first_of (Some name) other = Some name

-- The target of the first weak external that linked objects have of a name. For example, of
-- `__imp_opened`, an alias of `open`, it is `__imp_open`.
abbrev pub weak_target : List ℕ → List Placed → Option (List ℕ)
weak_target name [] = None
weak_target name (p ∷ linked) =
    first_of (weak_in name p.object.entries p.object.entries) (weak_target name linked)

-- A linker takes an undefined symbol of linked code, whose name nothing defines, to be where the
-- target of its weak external is defined.
abbrev pub ResolvesAliases : List Placed → List LinkedCode → (LinkedCode → ℕ → ℕ) → Type 0
ResolvesAliases linked codes targets =
    (c : LinkedCode) (index address : ℕ) (s : ObjectSymbol) (target : List ℕ) → Contains codes c →
    slice_get c.from.object.entries index ≡ Some (ASymbol s) → is_undefined_external s ≡ true →
    definitions_of s.name linked ≡ [] → weak_target s.name linked ≡ Some target →
    first_address (definitions_of target linked) ≡ Some address → targets c index ≡ address

-- A linker takes a name to stand for another, as `/alternatename:a=b` and `--defsym=a=b` tell it.
-- An undefined symbol of the name is
-- `tables`: where the import tables have the other;
-- `code`: where linked code defines the other.
pub record StandsFor (linked : List Placed) (codes : List LinkedCode) (targets : LinkedCode → ℕ → ℕ)
    (name other : List ℕ) : Type 0 where
  pub tables : (c : LinkedCode) (index address : ℕ) → Contains codes c → Names c.from index name →
      first_address (definitions_of other linked) ≡ Some address → targets c index ≡ address
  pub code : (c d : LinkedCode) (index : ℕ) (t : ObjectSymbol) → Contains codes c →
      Contains codes d →
      Names c.from index name → DefinesIn d t → t.name ≡ other →
      targets c index ≡ d.position + t.value
