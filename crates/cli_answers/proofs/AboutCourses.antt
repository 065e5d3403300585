pub mod Expecting
pub mod FaultLines
pub mod Runs
pub mod Within
pub mod Written
