pub mod Escaping
pub mod Labels
pub mod Notes
pub mod Stops
pub mod Tails
pub mod Trees
