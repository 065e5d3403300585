pub mod Ending
pub mod Five
pub mod Numbered
pub mod Reads
pub mod Sittings
pub mod Statuses
pub mod Typed
