-- Of DLLs: their exports as a definition has them.
pub mod Definition
pub mod Laws
pub mod Unsaid
pub mod Worked
