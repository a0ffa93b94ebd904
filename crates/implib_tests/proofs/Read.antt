-- What was worked by hand of the reader, and that it reads short imports for ARM64EC.
pub mod Bounds
pub mod DelayedLibraries
pub mod MoreLibraries
pub mod Arm64ecImports
pub mod Arm64ecExports
