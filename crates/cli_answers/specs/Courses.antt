pub mod Courses
pub mod Expecting
pub mod Joined
