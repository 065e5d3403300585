pub mod Flat
pub mod Making
pub mod Readings
pub mod Seen
pub mod Sizes
pub mod Sound
pub mod Writing
