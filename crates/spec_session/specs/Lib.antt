pub mod Events
pub mod Labels
pub mod Opening
pub mod Sessions
