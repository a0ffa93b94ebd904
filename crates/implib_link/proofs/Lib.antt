pub mod Gnu
pub mod Flavors
pub mod Search
pub mod Tables
pub mod StoredInMemory
pub mod Parts
pub mod Archives
pub mod Image
