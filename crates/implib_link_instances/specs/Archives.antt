-- Searches in an archive's bytes and ways from these to calls, worked by hand.
pub mod Files
pub mod WorkedWays
