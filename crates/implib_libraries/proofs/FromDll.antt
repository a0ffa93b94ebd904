-- Of DLLs: their exports as a definition has them.
pub mod Found
pub mod Parts
