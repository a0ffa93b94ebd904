-- Searches in archives' bytes, and the whole way from them to a call.
pub mod InBytes
pub mod Ways
pub mod Files
