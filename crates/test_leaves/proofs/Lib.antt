pub mod AboutRobots
pub mod AtWork
