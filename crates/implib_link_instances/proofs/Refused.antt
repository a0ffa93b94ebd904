-- What conclusions of laws refuse.
pub mod Archives
pub mod Code
pub mod Links
pub mod Searches
