pub mod Drafts
pub mod Readings
pub mod Rounds
pub mod Rows
pub mod Tables
pub mod Taking
pub mod Tellings
