-- Libraries of further makers, read by the reader `implib_read`: worked by hand.
pub mod Bounds
pub mod DelayedLibraries
pub mod MoreLibraries
pub mod Arm64ecImports
