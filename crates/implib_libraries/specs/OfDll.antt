-- Of the libraries of DLLs.
pub mod Decorations
pub mod Decorated
pub mod Libraries
pub mod Members
pub mod Worked
pub mod WorkedDecorated
