-- Programs of members of both flavours.
pub mod Expansion
pub mod Program
pub mod Texts
pub mod LldImports
