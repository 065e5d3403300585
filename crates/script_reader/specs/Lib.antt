pub mod Climb
pub mod Parsing
pub mod Standing
