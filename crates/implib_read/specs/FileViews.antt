-- What a caller sees of a file.
use Rattle.implib_read.specs.Files.{File, ShortImportFile, ObjectFile, NotRead as NoFile}
use Rattle.implib_read.specs.ObjectViews.{object_view}
use Rattle.implib_read.specs.ShortImports.{short_import_view}
use Rattle.implib_read.specs.declared.file.FileFound.{FileFound}
use Rattle.implib_read.specs.declared.file.FileFound.TheVariants.{ShortImport, Object, NotRead}

abbrev pub file_view : FileFound → File
file_view (ShortImport r) = ShortImportFile (short_import_view r)
file_view (Object o) = ObjectFile (object_view o)
file_view NotRead = NoFile
