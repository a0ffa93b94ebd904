-- What each member of a library is for.
use Rattle.std.specs.Prelude.{ℕ, ◌==◌, Bool, true, false, List, [], ◌∷◌, Option, Some, None, codes}
use Rattle.std.specs.Prelude.{if◌then◌else◌, map}
use Rattle.std.specs.Option.{is_some, option_map}
use Rattle.implib.specs.Formats.File.{alias_of_object}
use Rattle.implib.specs.Formats.Object.{Object, ObjectSection}
use Rattle.implib.specs.Formats.ShortImport.{import_code, import_data}
use Rattle.implib.specs.Import.{Alias, Import}
use Rattle.implib.specs.Members.GnuReader.{externals_in, section_named, text_section}
use Rattle.implib_read.specs.Archives.{StoredMember, archive_in}
use Rattle.implib_read.specs.Delayed.{calls_helper, delayed_import}
use Rattle.implib_read.specs.Files.{File, ShortImportFile, ObjectFile, NotRead, definer_among}
use Rattle.implib_read.specs.Files.{file_found}
use Rattle.implib_read.specs.Following.{Place}
use Rattle.implib_read.specs.Imports.{import_of_object}
use Rattle.implib_read.specs.ShortImports.{WithExported, import_of_found}
use Rattle.implib_read.specs.declared.import.ImportKind.{ImportKind}
use Rattle.implib_read.specs.declared.import.ImportKind.TheVariants.{Code, CodeOrConst, Const, Data}
use Rattle.implib_read.specs.declared.import.ImportKind.TheVariants.{Delayed}

-- an import, with its kind and its machine
pub record Imported : Type 0 where
  pub imports : Import
  pub kind : ImportKind
  pub machine : ℕ

-- the kind that a short import's type says
abbrev pub kind_of_type : ℕ → ImportKind
kind_of_type import_type =
    if import_type == import_code then Code else if import_type == import_data then Data else Const

-- the kind that an object's symbols of code tell: a symbol of code is declared for CONSTANT too
abbrev pub kind_of_code : List (List ℕ) → ImportKind
kind_of_code [] = Data
kind_of_code (name ∷ names) = CodeOrConst

-- the import that a short import is
abbrev pub imported_by_short_import : WithExported → Option Imported
imported_by_short_import r = option_map
    (λ i. record {
      imports = i;
      kind = kind_of_type r.fields.import_type;
      machine = r.fields.machine;
    })
    (import_of_found r)

-- the import that an object is
abbrev pub imported_by_object : (List ℕ → Option Place) → Object → Option Imported
imported_by_object defined o = option_map
    (λ i. record {
      imports = i;
      kind = kind_of_code (externals_in o text_section);
      machine = o.machine;
    })
    (import_of_object defined o)

-- the delayed import that an object is
abbrev pub delayed_by_object : (List ℕ → Option Place) → Object → Option Imported
delayed_by_object defined o =
    option_map (λ i. record { imports = i; kind = Delayed; machine = o.machine })
    (delayed_import defined o)

-- what a member is for
pub data Class : Type 0 where
  AnImport : Imported → Class
  AnAlias : Alias → Class
  Descriptor : Class
  NullDescriptor : Class
  NullThunk : Class
  Head : Class
  Tail : Class
  DelayImport : Class
  Other : Class
  NotUnderstood : Class

-- whether an object has a section of a name
abbrev pub has_section : Object → List ℕ → Bool
has_section o name = is_some (section_named o name)

-- whether a list is empty
abbrev pub is_empty : {X : Type 0} → List X → Bool
is_empty [] = true
is_empty (x ∷ xs) = false

-- What an object with `.idata$5`, and no import, is for, by its `.idata$7`. The tail has the DLL's
-- name there. The members of GNU dlltool for a delayed DLL have it empty. Where it leads elsewhere,
-- it is not understood.
abbrev pub class_of_thunks : Option ObjectSection → Class
class_of_thunks None = NullThunk
class_of_thunks (Some s) =
    if is_empty s.bytes then DelayImport else if is_empty s.relocations then Tail else NotUnderstood

-- What an object with `.idata$2` is for, by that and by whether it has `.idata$5`. That of a
-- delayed DLL has its descriptor elsewhere, and an empty `.idata$2`.
abbrev pub class_of_descriptor : ObjectSection → Bool → Class
class_of_descriptor s thunks =
    if is_empty s.bytes then DelayImport else if thunks then Head else Descriptor

-- what an object is for, by its `.idata$2`, its `.idata$5` and its `.idata$7`
abbrev pub class_of_sections : Option ObjectSection → Bool → Option ObjectSection → Class
class_of_sections (Some s) thunks names = class_of_descriptor s thunks
class_of_sections None true names = class_of_thunks names
class_of_sections None false names = Other

-- What an object that is neither an import nor an alias is for, by its sections of import tables
-- alone.
abbrev pub class_by_tables : Object → Class
class_by_tables o =
    if has_section o (codes ".idata$3") then NullDescriptor
    else class_of_sections
    (section_named o (codes ".idata$2"))
    (has_section o (codes ".idata$5"))
    (section_named o (codes ".idata$7"))

-- What an object with `.didat$5`, and no import, is for, by its `.didat$7`. The tail of delayed
-- imports has the DLL's name there. Others are parts that are not followed, as that of data, which
-- GNU dlltool writes too.
abbrev pub class_of_delayed_thunks : Option ObjectSection → Class
class_of_delayed_thunks None = DelayImport
class_of_delayed_thunks (Some s) = class_of_thunks (Some s)

-- what an object without `.idata$2`, `.idata$3` and `.idata$5` is for, by its sections of delayed
-- import tables
abbrev pub class_by_delayed_tables : Object → Class
class_by_delayed_tables o =
    if has_section o (codes ".didat$5")
    then class_of_delayed_thunks (section_named o (codes ".didat$7")) else Other

-- What an object is for, by what it is for by its import tables. The head of delayed imports has
-- none of its own, or empty ones, and calls the helper.
abbrev pub class_by_helper : Object → Class → Class
class_by_helper o DelayImport = if calls_helper o then Head else DelayImport
class_by_helper o Other = if calls_helper o then Head else class_by_delayed_tables o
class_by_helper o class = class

-- what an object that is neither an import nor an alias is for
abbrev pub class_of_part : Object → Class
class_of_part o = class_by_helper o (class_by_tables o)

-- what an object is for, by its alias, its import and its delayed import
abbrev pub class_with : Object → Option Alias → Option Imported → Option Imported → Class
class_with o (Some a) i delayed = AnAlias a
class_with o None (Some i) delayed = AnImport i
class_with o None None (Some i) = AnImport i
class_with o None None None = class_of_part o

-- what a short import is for; one whose types have no meaning is not understood
abbrev pub class_of_import : Option Imported → Class
class_of_import (Some i) = AnImport i
class_of_import None = NotUnderstood

-- what a file is for
abbrev pub class_of_file : (List ℕ → Option Place) → File → Class
class_of_file defined (ShortImportFile r) = class_of_import (imported_by_short_import r)
class_of_file defined (ObjectFile o) =
    class_with o (alias_of_object o) (imported_by_object defined o) (delayed_by_object defined o)
class_of_file defined NotRead = NotUnderstood

-- a member: its name, the offset of its header, and what it is for
pub record MemberRead : Type 0 where
  pub name : List ℕ
  pub offset : ℕ
  pub class : Class

-- a member of a file
abbrev pub member_read : (List ℕ → Option Place) → StoredMember → MemberRead
member_read defined m =
    record { name = m.name; offset = m.offset; class = class_of_file defined (file_found m.bytes) }

-- the files of members
abbrev pub files_of : List StoredMember → List File
files_of members = map (λ m. file_found m.bytes) members

-- What each member is for, among all of them.
unfoldable pub members_read : List StoredMember → List MemberRead
members_read members = map (member_read (definer_among (files_of members))) members

-- What each member of the library in these bytes is for, in order.
unfoldable pub library_in : List ℕ → Option (List MemberRead)
library_in bytes = option_map (λ archive. members_read archive.members) (archive_in bytes)
