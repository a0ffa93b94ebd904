pub mod Device
pub mod Listing
pub mod Documents
pub mod Run
pub mod Views
pub mod Arguments
