pub mod AboutLent
pub mod Ends
pub mod Writings
