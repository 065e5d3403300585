pub mod Names
pub mod Options
pub mod Results
pub mod Stops
pub mod formers
