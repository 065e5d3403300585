pub mod Sequences
pub mod Sizes
