-- Of DLLs: what the imports of a library, or of a program, come to in them.
pub mod DllName
pub mod Forwarding
pub mod ForwardingViews
pub mod Imports
pub mod Laws
pub mod Verdict
pub mod Worked
pub mod WorkedForwarding
pub mod WorkedImports
pub mod WorkedPrograms
pub mod Missing
pub mod Programs
pub mod Kinds
pub mod WorkedKinds
pub mod Folders
pub mod WorkedFolders
