-- Words, places and warnings worked by hand.
use Rattle.std.specs.Prelude.{◌≡◌, ℕ, List, [], ◌∷◌, true, false, None, Some, codes}
use Rattle.std.specs.Prelude.{map}
use Rattle.implib.specs.declared.def.lexer.TokenKind.{TokenKind}
use Rattle.implib.specs.declared.def.lexer.TokenKind.TheVariants.{Identifier, EqualEqual}
use Rattle.implib.specs.declared.def.lexer.TokenKind.TheVariants.{KwConstant, KwData, KwExports}
use Rattle.implib.specs.declared.def.lexer.TokenKind.TheVariants.{KwName, KwNoname, KwPrivate}
use Rattle.implib.specs.declared.def.listener.Role.TheVariants.{Name, Other}
use Rattle.implib.specs.declared.def.position.Position.{Position}
use Rattle.implib.specs.declared.flavor.Flavor.TheVariants.{Msvc}
use Rattle.implib.specs.declared.machine.MachineType.TheVariants.{I386}
use Rattle.implib.specs.Text.Heard.{Heard, IsHeard}
use Rattle.implib_rules.specs.Additions.{no_additions}
use Rattle.implib_rules.specs.declared.places.Place.{Place}
use Rattle.implib_rules.specs.declared.places.Site.{Site}
use Rattle.implib_rules.specs.declared.places.Site.TheVariants as site
use Rattle.implib_rules.specs.declared.warnings.words.Attribute.TheVariants.{Data, Constant}
use Rattle.implib_rules.specs.declared.warnings.words.Attribute.TheVariants.{Private, NoName}
use Rattle.implib_rules.specs.Places.{attribute_of, name_offset, places_in}
use Rattle.implib_rules.specs.Warnings.{HasNoExport}
use Rattle.implib_rules.specs.Warnings.{IsOtherKind}
use Rattle.implib_rules.specs.Warnings.{is_ordinal_like, is_stdcall_word, lowered_attribute}
use Rattle.implib_rules.specs.Warnings.{warnings_of}
use Rattle.implib_rules.specs.WorkedNames.{usual}

-- which words may be meant for something else
pub record WordsJudged : Type 0 where
  pub stdcall_underscored : is_stdcall_word (codes "_F@120") ≡ true
  pub letters : is_stdcall_word (codes "F@8a") ≡ false
  pub no_number : is_stdcall_word (codes "F@") ≡ false
  pub two_numbers : is_stdcall_word (codes "F@8@8") ≡ false
  pub c : is_stdcall_word (codes "F8") ≡ false
  pub lone : is_ordinal_like (codes "@") ≡ false
  pub stdcall_name : is_ordinal_like (codes "1@8") ≡ false
  pub constant : lowered_attribute (codes "cONSTANT") ≡ Some Constant
  pub no_name : lowered_attribute (codes "noname") ≡ Some NoName
  pub capitals : map lowered_attribute
      (codes "DATA" ∷ codes "CONSTANT" ∷ codes "PRIVATE" ∷ codes "NONAME" ∷ [])
      ≡ None ∷ None ∷ None ∷ None ∷ []
  pub longer : lowered_attribute (codes "data1") ≡ None

-- the position at a line and a column
abbrev pub at_line : ℕ → ℕ → ℕ → Position
at_line offset line column = record { offset = offset; line = line; column = column }

-- what stands at a line and a column
abbrev pub place : Site → Position → Place
place site position = record { site = site; position = position }

-- a text of three exports, two of which have an attribute in a line of its own
abbrev pub lined_text : List ℕ
lined_text = codes "NAME z EXPORTS a\n DATA b == c PRIVATE\n@ 5\nNAME"

-- the name of an export, and another part of a statement
abbrev pub name : List ℕ → ℕ → Heard
name value at = record { role = Name; token = record { kind = Identifier; value = value; at = at } }

abbrev pub other : TokenKind → List ℕ → ℕ → Heard
other kind value at =
    record { role = Other; token = record { kind = kind; value = value; at = at } }

-- what is heard of it
abbrev pub lined_heard : List Heard
lined_heard =
    other KwName (codes "NAME") 0
    ∷ other Identifier (codes "z") 5
    ∷ other KwExports (codes "EXPORTS") 7
    ∷ name (codes "a") 15
    ∷ other KwData (codes "DATA") 18
    ∷ name (codes "b") 23
    ∷ other EqualEqual (codes "==") 25
    ∷ other Identifier (codes "c") 28
    ∷ other KwPrivate (codes "PRIVATE") 30
    ∷ other Identifier (codes "@") 38
    ∷ other Identifier (codes "5") 40
    ∷ other KwName (codes "NAME") 42
    ∷ []

-- The attributes of keywords; where the names of exports begin, and 0 where there is none. Its
-- places: the names of exports, the attribute that begins a line and not the one within a line, and
-- the second heading
pub record PlacesWorked : Type 0 where
  pub attributes : map attribute_of (KwData ∷ KwConstant ∷ KwPrivate ∷ KwNoname ∷ KwExports ∷ [])
      ≡ Some Data ∷ Some Constant ∷ Some Private ∷ Some NoName ∷ None ∷ []
  pub is_heard : IsHeard lined_text lined_heard
  pub names : map (name_offset lined_heard) (0 ∷ 1 ∷ 2 ∷ []) ≡ 15 ∷ 23 ∷ 0 ∷ []
  pub lined : places_in lined_text lined_heard
      ≡ place site.Export (at_line 15 1 16)
      ∷ place (site.Attribute Data) (at_line 18 2 2)
      ∷ place site.Export (at_line 23 2 7)
      ∷ place site.Heading (at_line 42 4 1)
      ∷ []

-- what is warned of a library for Microsoft's linker without an export and with too many members
pub record WarningsWorked : Type 0 where
  pub no_export_and_many : warnings_of (record {
    machine = I386;
    flavor = Msvc;
    dll = None;
    naming = usual;
    additions = no_additions;
  }) [] [] 65535
      ≡ record { notice = HasNoExport; position = at_line 0 1 1 }
      ∷ record { notice = IsOtherKind; position = at_line 0 1 1 } ∷ []
