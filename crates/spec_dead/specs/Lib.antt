pub mod Answers
pub mod Dead
pub mod Guards
pub mod Reached
pub mod Rules
