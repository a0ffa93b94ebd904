-- What is worked by hand, computed.
pub mod Tokens
pub mod Statements
pub mod Positions
pub mod Heard
pub mod Objects
pub mod Tables
pub mod MemberSpecs
pub mod Layouts
pub mod Members
pub mod Gnu
pub mod OlderSymbols
pub mod LibraryNames
pub mod Links
pub mod Refused
pub mod Records
pub mod Rules
