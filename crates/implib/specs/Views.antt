-- Views of the code's state, and readers that follow the code. No promise cites them.
pub mod Scanner
pub mod TokenReader
pub mod Parser
pub mod Hearing
pub mod Layout
pub mod Writer
pub mod Table
pub mod KeptImports
pub mod KeptObjects
pub mod Making
pub mod MakingKept
