pub mod Looked
pub mod Raises
pub mod Reads
