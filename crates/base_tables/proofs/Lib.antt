pub mod Asked
pub mod Calls
pub mod Canonical
pub mod Runnable
