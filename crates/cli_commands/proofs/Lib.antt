pub mod AnyBytes
pub mod Files
pub mod GroundLines
pub mod Grounds
pub mod Made
pub mod Plans
