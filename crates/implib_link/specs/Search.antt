-- Archive search.
pub mod Search
pub mod NamedApart
pub mod Libraries
pub mod CommandLines
