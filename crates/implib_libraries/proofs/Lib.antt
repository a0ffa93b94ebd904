pub mod FromDll
pub mod OfDll
mod Weak
pub mod Refusals
pub mod NullDescriptor
