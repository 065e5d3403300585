pub mod Inputs
pub mod Refusals
pub mod Requests
pub mod Rows
pub mod Served
pub mod Talks
pub mod Traces
