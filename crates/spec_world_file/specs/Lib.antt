pub mod Blocks
pub mod GroundFile
pub mod WorldFile
