pub mod Saying
pub mod Calls
pub mod Finishing
pub mod Delays
pub mod Searching
