-- Of callers: what they can conclude.
pub mod Links
pub mod TokensGiven
pub mod ByOptions
pub mod OneFlavor
