-- Texts: tokens, the statement grammar, what statements mean, syntax errors and positions.
pub mod Token
pub mod Number
pub mod Grammar
pub mod Meaning
pub mod SyntaxError
pub mod Parses
pub mod Parser
pub mod SymbolNames
pub mod Position
pub mod RefusedAt
pub mod Heard
