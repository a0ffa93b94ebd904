-- The same, proved.
pub mod InBytes
pub mod Ways
