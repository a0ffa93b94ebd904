-- Lemmas about programs of members for GNU's linker.
pub mod Others
pub mod Texts
pub mod Loaded
pub mod CallReads
pub mod Packed
pub mod Stubs
pub mod Fields
pub mod FieldsInMemory
pub mod Operands
pub mod Filling
pub mod Places
