-- Lemmas about the link: ranges, definitions, placement, tables, loading.
pub mod Ranges
pub mod Placement
pub mod Definitions
pub mod Thunks
pub mod Tables
pub mod Descriptors
pub mod Linked
pub mod LinkedBlocks
pub mod LinkedMembers
pub mod LinkedInputs
pub mod Loading
