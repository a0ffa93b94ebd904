-- The formats: numbers of the PE/COFF specification, readers of objects and short imports, layouts
-- and their encoding.
pub mod Constants
pub mod Bytes
pub mod ShortImport
pub mod GnuReading
pub mod Object
pub mod File
pub mod Pass
pub mod Layout
pub mod Writer
