-- Lemmas about archive search.
pub mod Lists
pub mod Plainly
pub mod Ends
pub mod ArchiveMembers
pub mod Closing
pub mod MsvcMembers
pub mod Roles
pub mod FlavorGroups
pub mod Taken
pub mod Chosen
pub mod BothClosed
pub mod Sweeps
pub mod CommandLines
pub mod Wanting
