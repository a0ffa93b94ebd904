pub mod Archives
pub mod Refused
pub mod Worked
