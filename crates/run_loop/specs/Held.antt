pub mod Prefixes
pub mod RunningLeaves
