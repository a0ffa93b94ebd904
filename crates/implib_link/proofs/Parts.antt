pub mod Texts
pub mod Heads
pub mod Programs
pub mod Members
