pub mod Calls
pub mod Given
pub mod Halting
pub mod Here
pub mod Meeting
pub mod Needs
pub mod Settles
pub mod Tellings
