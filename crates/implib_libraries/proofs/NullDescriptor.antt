-- Of null descriptors that are named after their library.
pub mod Headed
pub mod Symbols
pub mod Worked
