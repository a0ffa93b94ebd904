-- The same, proved.
pub mod Files
