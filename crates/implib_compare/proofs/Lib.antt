pub mod Computed
pub mod Counting
pub mod FirstEntries
pub mod KeyTexts
pub mod Matching
pub mod Declared
pub mod Arm64ecArchives
pub mod DllCheck
