pub mod Text
pub mod Formats
pub mod LibraryNames
pub mod Members
pub mod Link
pub mod Worked
