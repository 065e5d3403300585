pub mod Appends
mod InputLines
pub mod Rises
pub mod Writings
