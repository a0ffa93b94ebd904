-- Of null descriptors that are named after their library.
pub mod Libraries
pub mod Named
pub mod Spots
pub mod Worked
