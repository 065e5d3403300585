pub mod Courses
pub mod Planning
