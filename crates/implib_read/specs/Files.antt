-- What the bytes of members are, and where their externals are defined.
use Rattle.std.specs.Prelude.{ℕ, List, [], ◌∷◌, Option, Some, None}
use Rattle.std.specs.Option.{option_or}
use Rattle.implib.specs.Formats.Object.{Object}
use Rattle.implib_read.specs.Following.{Place, place_among}
use Rattle.implib_read.specs.Objects.{object_found}
use Rattle.implib_read.specs.ShortImports.{WithExported, short_import_found}

-- a file: a short import, an object, or neither
pub data File : Type 0 where
  ShortImportFile : WithExported → File
  ObjectFile : Object → File
  NotRead : File

-- a short import, or otherwise what is read as an object
abbrev pub short_import_or_object : Option WithExported → Option Object → File
short_import_or_object (Some r) o = ShortImportFile r
short_import_or_object None (Some o) = ObjectFile o
short_import_or_object None None = NotRead

-- the file in these bytes
abbrev pub file_found : List ℕ → File
file_found bytes = short_import_or_object (short_import_found bytes) (object_found bytes)

-- where a file defines the external of a name
abbrev pub place_in_file : File → List ℕ → Option Place
place_in_file (ShortImportFile r) name = None
place_in_file (ObjectFile o) name = place_among o name o.entries
place_in_file NotRead name = None

-- Where the external of a name is defined: by the first of the files that defines it, as a linker
-- takes it.
abbrev pub definer_among : List File → List ℕ → Option Place
definer_among [] name = None
definer_among (file ∷ files) name = option_or (place_in_file file name) (definer_among files name)
