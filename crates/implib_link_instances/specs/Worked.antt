-- Programs, expansions and searches worked by hand.
pub mod BothFlavors
pub mod CommandLines
pub mod Expansion
pub mod Files
pub mod Flavors
pub mod Operands
pub mod OtherNames
pub mod Parts
pub mod Plainly
pub mod Programs
pub mod Search
pub mod Stored
pub mod Wanting
