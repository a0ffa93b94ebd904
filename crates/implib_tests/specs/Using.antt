-- Of callers: what they can conclude.
pub mod Callers
pub mod Options
pub mod OneFlavor
