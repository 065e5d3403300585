pub mod Lines
pub mod OneReading
pub mod Over
pub mod Picking
pub mod Placing
pub mod Rests
pub mod Saying
