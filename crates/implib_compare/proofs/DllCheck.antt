-- Of DLLs: what the imports of a library, or of a program, come to in them.
pub mod Folders
pub mod Following
pub mod Forwarders
pub mod Marks
pub mod Passing
