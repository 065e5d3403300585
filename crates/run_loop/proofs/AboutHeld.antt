pub mod DriverTables
pub mod Prefixes
pub mod RunningLeaves
