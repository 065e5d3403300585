pub mod Roots
pub mod Tasks
pub mod Ticked
pub mod Ticking
pub mod Tried
