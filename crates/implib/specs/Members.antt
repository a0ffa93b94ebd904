-- Members: the tables of both flavours, which definitions have none, and what their bytes are read
-- as.
pub mod GnuReader
pub mod ImportTables
pub mod WeakExternal
pub mod Msvc
pub mod MsvcObjects
pub mod Gnu
pub mod MemberSpec
pub mod MsvcMembers
pub mod GnuMembers
pub mod NameRules
pub mod Members
pub mod ShortImports
pub mod ExportObjects
pub mod KeptMembers
pub mod MemberLists
pub mod ListsReadBack
pub mod OlderSymbols
pub mod ReadBack
pub mod OfText
