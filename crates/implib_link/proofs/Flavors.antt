-- Lemmas about programs of members of both flavours.
pub mod Expanded
pub mod Block
pub mod NullDescriptor
pub mod Inputs
pub mod Program
pub mod Texts
pub mod Stubs
pub mod Steady
pub mod LldImports
pub mod LldPrograms
pub mod LldThunks
