pub mod AtHand
pub mod Choices
pub mod Decorators
pub mod Navigation
pub mod Rounds
pub mod Rows
pub mod Visits
