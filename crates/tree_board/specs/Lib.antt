pub mod Countings
pub mod Namings
pub mod Openings
pub mod Records
pub mod Rows
pub mod Scopes
pub mod Slots
