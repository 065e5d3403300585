pub mod Appending
pub mod Counts
pub mod Files
pub mod Lines
pub mod Moments
pub mod Writes
