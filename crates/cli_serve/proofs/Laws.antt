pub mod HeldEvents
pub mod HeldRuns
pub mod Opened
pub mod Served
pub mod Taken
pub mod TraceLines
pub mod TraceRuns
