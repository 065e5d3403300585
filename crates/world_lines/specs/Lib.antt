pub mod Heads
pub mod Quotes
pub mod Ranges
pub mod Written
