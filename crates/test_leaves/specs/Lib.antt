pub mod Robots
pub mod Stages
