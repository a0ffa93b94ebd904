-- The same, computed.
pub mod Files
pub mod WorkedBothWay
pub mod WorkedLldWay
