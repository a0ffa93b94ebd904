-- Of the libraries of DLLs.
pub mod Words
pub mod Symbols
pub mod Libraries
