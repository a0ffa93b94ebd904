-- Files of linked programs, as a loader reads them.
pub mod Files
pub mod Laws
