-- What two libraries are compared by: the imports and the aliases of their members (this project's
-- choice).
use Rattle.std.specs.Prelude.{◌≡◌, ℕ, ◌/◌, ◌%◌, Bool, true, false, not, ◌&&◌, List, [], ◌∷◌, ◌++◌}
use Rattle.std.specs.Prelude.{Option, Some, None, if◌then◌else◌, map}
use Rattle.std.specs.Char.{to_ascii_lowercase}
use Rattle.std.specs.List.{filter, filter_map, flat_map, list_any}
use Rattle.std.specs.Option.{option_map_or}
use Rattle.implib.specs.Import.{Alias, Ask, Name, Ordinal}
use Rattle.implib_read.specs.Classes.{Class, AnImport, AnAlias, Descriptor, NullDescriptor}
use Rattle.implib_read.specs.Classes.{NullThunk, Head, Tail, DelayImport, Other, NotUnderstood}
use Rattle.implib_read.specs.Classes.{Imported, MemberRead}
use Rattle.implib_read.specs.Symbols.{begins_imp}
use Rattle.implib_read.specs.declared.import.ImportKind.{ImportKind}
use Rattle.implib_read.specs.declared.import.ImportKind.TheVariants.{Code, CodeOrConst, Const, Data}
use Rattle.implib_read.specs.declared.import.ImportKind.TheVariants.{Delayed}

-- what is asked of a DLL, whatever the hint
pub data Asked : Type 0 where
  ByOrdinal : ℕ → Asked
  ByName : List ℕ → Asked

-- what an import says: its DLL in small letters, its symbols, what it asks for, its kind and its
-- machine
pub record ImportFact : Type 0 where
  pub dll : List ℕ
  pub declared : List (List ℕ)
  pub asked : Asked
  pub kind : ImportKind
  pub machine : ℕ

-- what a member says of imports and aliases
pub data Fact : Type 0 where
  Imports : ImportFact → Fact
  Aliases : Alias → Fact

-- an ask without its hint
abbrev pub asked_by : Ask → Asked
asked_by (Ordinal ordinal) = ByOrdinal ordinal
asked_by (Name name hint) = ByName name

-- A kind, as it is compared: objects for GNU's linker do not tell CONSTANT from code. Where one of
-- the libraries has such an object, the two count as one.
abbrev pub kind_compared : Bool → ImportKind → ImportKind
kind_compared told Data = Data
kind_compared told Code = if told then Code else CodeOrConst
kind_compared told Const = if told then Const else CodeOrConst
kind_compared told CodeOrConst = CodeOrConst
kind_compared told Delayed = Delayed

-- whether a symbol is of an address, by `__imp_`, or is not
abbrev pub is_wanted : Bool → List ℕ → Bool
is_wanted true symbol = begins_imp symbol
is_wanted false symbol = not (begins_imp symbol)

-- Symbols with those of addresses first. For example, `___impf`, which GNU dlltool's `-C` has
-- before `__imp_f`, comes behind it.
abbrev pub addresses_first : List (List ℕ) → List (List ℕ)
addresses_first symbols = filter (is_wanted true) symbols ++ filter (is_wanted false) symbols

-- what an import says. The case of letters in the DLL's name does not count (names of files for
-- Windows).
abbrev pub import_fact : Bool → Imported → ImportFact
import_fact told i = record {
  dll = map to_ascii_lowercase i.imports.dll;
  declared = addresses_first i.imports.declared;
  asked = asked_by i.imports.ask;
  kind = kind_compared told i.kind;
  machine = i.machine;
}

-- what a member says, by what it is for; the members of import tables say nothing of their own
abbrev pub fact_of : Bool → Class → Option Fact
fact_of told (AnImport i) = Some (Imports (import_fact told i))
fact_of told (AnAlias a) = Some (Aliases a)
fact_of told Descriptor = None
fact_of told NullDescriptor = None
fact_of told NullThunk = None
fact_of told Head = None
fact_of told Tail = None
fact_of told DelayImport = None
fact_of told Other = None
fact_of told NotUnderstood = None

-- what the members of a library say, in order
abbrev pub facts_of : Bool → List MemberRead → List Fact
facts_of told members = filter_map (λ m. fact_of told m.class) members

-- whether an import's kind is not told
abbrev pub is_untold : ImportKind → Bool
is_untold Code = false
is_untold Data = false
is_untold Const = false
is_untold CodeOrConst = true
is_untold Delayed = false

-- whether a member is an import whose kind is not told
abbrev pub has_untold : Class → Bool
has_untold (AnImport i) = is_untold i.kind
has_untold (AnAlias a) = false
has_untold Descriptor = false
has_untold NullDescriptor = false
has_untold NullThunk = false
has_untold Head = false
has_untold Tail = false
has_untold DelayImport = false
has_untold Other = false
has_untold NotUnderstood = false

-- whether each import of a library tells CONSTANT from code
abbrev pub tells_constants : List MemberRead → Bool
tells_constants members = not (list_any (λ m. has_untold m.class) members)

-- whether each import of two libraries does
abbrev pub both_tell : List MemberRead → List MemberRead → Bool
both_tell left right = tells_constants left && tells_constants right

-- a byte in a key: 1 before it
abbrev pub byte_key : ℕ → List ℕ
byte_key byte = 1 ∷ byte ∷ []

-- the bytes of a text in a key
abbrev pub bytes_key : List ℕ → List ℕ
bytes_key text = flat_map byte_key text

-- a text in a key: its bytes, and 0 at the end
abbrev pub text_key : List ℕ → List ℕ
text_key text = bytes_key text ++ 0 ∷ []

-- a text of a list in a key: 1 before it
abbrev pub listed_key : List ℕ → List ℕ
listed_key text = 1 ∷ text_key text

-- texts in a key: each of them, and 0 at the end
abbrev pub texts_key : List (List ℕ) → List ℕ
texts_key texts = flat_map listed_key texts ++ 0 ∷ []

-- a text of a list in a key, if it is of an address, or is not
abbrev pub listed_if : Bool → List ℕ → List ℕ
listed_if wanted text = if is_wanted wanted text then listed_key text else []

-- a number of 16 bits in a key
abbrev pub number_key : ℕ → List ℕ
number_key n = n % 256 ∷ n / 256 ∷ []

-- what is asked for, in a key
abbrev pub asked_key : Asked → List ℕ
asked_key (ByOrdinal ordinal) = 0 ∷ number_key ordinal
asked_key (ByName name) = 1 ∷ text_key name

-- the number of a kind
abbrev pub kind_number : ImportKind → ℕ
kind_number Code = 0
kind_number Data = 1
kind_number Const = 2
kind_number CodeOrConst = 3
kind_number Delayed = 4

-- The key of what a member says: bytes that no other fact has (`KeysTellFacts`).
abbrev pub fact_key : Fact → List ℕ
fact_key (Imports i) = 1 ∷ kind_number i.kind
    ∷ (number_key i.machine ++ (asked_key i.asked ++ (text_key i.dll ++ texts_key i.declared)))
fact_key (Aliases a) = 2 ∷ (text_key a.weak ++ text_key a.target)

-- the key of a member, and no byte for one that says nothing
abbrev pub member_key : Bool → Class → List ℕ
member_key told class = option_map_or fact_key (fact_of told class) []

-- the keys of the members of a library
abbrev pub keys_of : Bool → List MemberRead → List (List ℕ)
keys_of told members = map (λ m. member_key told m.class) members

-- two facts with one key are the same
abbrev pub KeysTellFacts : Type 0
KeysTellFacts = (f g : Fact) → fact_key f ≡ fact_key g → f ≡ g
