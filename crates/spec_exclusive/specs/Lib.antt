pub mod Meetings
pub mod Pairs
