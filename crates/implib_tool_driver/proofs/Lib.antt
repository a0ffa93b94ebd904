pub mod Dividing
pub mod Lanes
pub mod ParsedReadings
pub mod Running
pub mod Shown
