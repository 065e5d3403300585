pub mod AboutCourses
pub mod AboutPlanning
pub mod LineEnds
pub mod Pairs
