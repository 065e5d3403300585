pub mod AboutUnique
pub mod Onward
pub mod Saying
pub mod Scripts
