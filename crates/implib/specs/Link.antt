-- The link of members for GNU's linker, and what a loader finds in its image.
pub mod Placement
pub mod Resolution
pub mod Image
pub mod Load
pub mod LinkedMembers
pub mod Linked
