pub mod Glued
pub mod Missing
pub mod Opened
pub mod Putting
pub mod Results
pub mod Steps
pub mod Utf8s
