pub mod Events
pub mod Files
pub mod Labelled
pub mod Misuses
pub mod Opened
pub mod Runners
pub mod Statuses
pub mod Tellings
