pub mod Table
pub mod Given
pub mod Saying
pub mod LibWords
pub mod Words
pub mod Laws
