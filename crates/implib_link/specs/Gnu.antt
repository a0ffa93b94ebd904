-- Programs of members for GNU's linker.
pub mod Fields
pub mod Moves
pub mod Stored
pub mod Writing
pub mod Aliases
