pub mod FromDll
pub mod OfDll
pub mod Arm64ec
pub mod Delayed
pub mod NullDescriptor
