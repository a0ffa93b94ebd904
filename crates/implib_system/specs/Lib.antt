pub mod Laws
pub mod System
pub mod Worked
