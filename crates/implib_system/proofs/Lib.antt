pub mod Followed
pub mod System
