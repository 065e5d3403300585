pub mod Bools
pub mod Complete
pub mod Levels
pub mod Machine
pub mod Prefixes
pub mod Readings
pub mod Trees
pub mod Verdicts
