-- Lemmas about objects: layouts, reading back, the writer.
pub mod Bytes
pub mod Pass
pub mod Located
pub mod Fields
pub mod Symbols
pub mod Sums
pub mod Names
pub mod Lengths
pub mod Defaults
pub mod Offsets
pub mod LayoutSizes
pub mod ObjectReading
pub mod LongNames
pub mod WriterLayout
pub mod Written
pub mod WriterSound
pub mod Table
